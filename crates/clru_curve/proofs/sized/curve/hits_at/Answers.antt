use Rattle.std.proofs.Common.{leb, arith, rules}
use Rattle.std.proofs.lemmas.List.Sorted.{IsPartitionPoint-from_clause, IsPartitionedBy-leb}
use Rattle.clru_curve.proofs.SizedCurves.{point_counts}
use Rattle.clru_curve.proofs.sized.curve.hits_at.Goals as goal

pub returns : goal.returns
returns c =
    let steps = c.args.steps.now in
    let parted = IsPartitionedBy-leb (λ s. s.capacity) steps c.args.capacity c.requires in
    let point = IsPartitionPoint-from_clause (λ s. leb s.capacity c.args.capacity) steps c.partition_point.result c.partition_point.ensures.partitioned parted (λ a r q k. search rules) in
    point_counts (λ s. leb s.capacity c.args.capacity) steps c.partition_point.result c.partition_point.ensures.bound
    (λ k d low. point.0 k d (omega arith) low) (λ k d le lt. point.1 k d le lt)
