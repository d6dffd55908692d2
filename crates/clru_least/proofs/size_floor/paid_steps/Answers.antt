use Rattle.std.proofs.Common.{leb, sym, arith, rules}
use Rattle.std.proofs.lemmas.List.Sorted.{IsPartitionPoint-from_clause, IsPartitionedBy-leb}
use Rattle.std.proofs.lemmas.List.Sums.{prefix_len_is}
use Rattle.clru_least.specs.FloorNumbers.{floor_step}
use Rattle.clru_least.proofs.size_floor.paid_steps.Goals as goal

pub returns : goal.returns
returns c =
    let steps = c.args.steps.now in
    let parted = IsPartitionedBy-leb (λ s. s.volume) steps c.args.paid c.requires in
    let point = IsPartitionPoint-from_clause (λ s. leb s.volume c.args.paid) steps c.partition_point.result c.partition_point.ensures.partitioned parted (λ a r q k. search rules) in
    sym (prefix_len_is (λ s. leb s.volume c.args.paid) steps c.partition_point.result (floor_step 0 0 0) c.partition_point.ensures.bound
    (λ k low. point.0 k (floor_step 0 0 0) (omega (arith, low, c.partition_point.ensures.bound)) low)
    (λ inside. point.1 c.partition_point.result (floor_step 0 0 0) (omega arith) inside))
