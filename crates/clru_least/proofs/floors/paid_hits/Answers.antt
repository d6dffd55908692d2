use Rattle.std.proofs.Common.{leb, sym, arith, rules}
use Rattle.std.proofs.lemmas.List.Sorted.{IsPartitionPoint-from_clause, IsPartitionedBy-leb}
use Rattle.std.proofs.lemmas.List.Sums.{prefix_len_is}
use Rattle.clru_least.proofs.floors.paid_hits.Goals as goal

pub returns : goal.returns
returns c =
    let sums = c.args.sums.now in
    let parted = IsPartitionedBy-leb (λ v. v) sums c.args.paid c.requires in
    let point = IsPartitionPoint-from_clause (λ v. leb v c.args.paid) sums c.partition_point.result c.partition_point.ensures.partitioned parted (λ a r q k. search rules) in
    sym (prefix_len_is (λ v. leb v c.args.paid) sums c.partition_point.result 0 c.partition_point.ensures.bound
    (λ k low. point.0 k 0 (omega (arith, low, c.partition_point.ensures.bound)) low)
    (λ inside. point.1 c.partition_point.result 0 (omega arith) inside))
