use Rattle.std.proofs.Common.{refl, ◌∙◌, arith}
use Rattle.clru_report.proofs.prefetch.prefetch.Goals as goal

pub lines-init : goal.lines-init
lines-init g c = (refl, omega arith)

pub returns-in_err-announce : goal.returns-in_err-announce
returns-in_err-announce g c = c.announce.ensures ∙ c.lines.invariant.0

pub lines-preserved : goal.lines-preserved
lines-preserved g c = (c.announce.ensures ∙ c.lines.invariant.0, omega arith)
