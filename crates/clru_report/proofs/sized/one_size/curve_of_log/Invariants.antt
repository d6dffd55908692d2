use Rattle.std.proofs.Common.{◌≡◌, is_some, take}
use Rattle.std.specs.Int.NonZero.{non_zero_usize_get}
use Rattle.clru_report.specs.KeyLogs.{lines_in}
use Rattle.clru_report.specs.SizedLinePasses.{HasTakenOf}
use Rattle.clru_report.proofs.sized.one_size.curve_of_log.Given as goal

-- the lines so far were taken
abbrev pub invariant-loop-index : goal.invariant-loop-index
invariant-loop-index g l =
    (l.lines.one_in ≡ l.initial.lines.one_in)
    × HasTakenOf (is_some l.initial.lines.reuses) (non_zero_usize_get l.lines.one_in) (take l.index (lines_in l.log)) l.lines.size l.lines.pass l.lines.reuses
