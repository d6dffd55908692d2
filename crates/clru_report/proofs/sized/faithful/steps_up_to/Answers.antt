use Rattle.std.proofs.Common.{leb, leb-true, leb-false, arith, rules}
use Rattle.std.proofs.lemmas.List.Sorted.{IsPartitionPoint-from_clause, IsPartitionedBy-leb}
use Rattle.clru_curve.proofs.SizedCurves.{point_counts}
use Rattle.clru_report.proofs.sized.faithful.steps_up_to.Goals as goal

pub returns-clause-count : goal.returns-clause-count
returns-clause-count c =
    let steps = c.args.steps.now in
    let parted = IsPartitionedBy-leb (λ s. s.capacity) steps c.args.capacity c.requires in
    let point = IsPartitionPoint-from_clause (λ s. leb s.capacity c.args.capacity) steps c.partition_point.result c.partition_point.ensures.partitioned parted (λ a r q k. search rules) in
    point_counts (λ s. leb s.capacity c.args.capacity) steps c.partition_point.result c.partition_point.ensures.bound
    (λ k d low. point.0 k d (omega arith) low) (λ k d le lt. point.1 k d le lt)

pub returns-clause-point : goal.returns-clause-point
returns-clause-point c =
    let steps = c.args.steps.now in
    let parted = IsPartitionedBy-leb (λ s. s.capacity) steps c.args.capacity c.requires in
    let point = IsPartitionPoint-from_clause (λ s. leb s.capacity c.args.capacity) steps c.partition_point.result c.partition_point.ensures.partitioned parted (λ a r q k. search rules) in (
      λ k d from low. leb-true _ c.args.capacity (point.0 k d from low),
      λ k d from low. leb-false _ c.args.capacity (point.1 k d from low),
    )
