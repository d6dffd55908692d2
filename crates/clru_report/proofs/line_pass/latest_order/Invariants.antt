use Rattle.std.proofs.Common.{◌≡◌, reverse, take}
use Rattle.clru_report.proofs.LatestLines.{placed_from}
use Rattle.clru_report.proofs.line_pass.latest_order.Given as goal

abbrev pub invariant-loop-index : goal.invariant-loop-index
invariant-loop-index g l = l.order.items ≡ placed_from 0 (take l.index (reverse l.latest))
