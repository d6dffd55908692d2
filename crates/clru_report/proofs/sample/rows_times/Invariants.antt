use Rattle.std.proofs.Common.{◌≡◌, map, take}
use Rattle.std.specs.Int.NonZero.{non_zero_usize_get}
use Rattle.clru_report.specs.Samples.{numbers_of, numbers_times}
use Rattle.clru_report.proofs.sample.rows_times.Given as goal

abbrev pub invariant-loop-row : goal.invariant-loop-row
invariant-loop-row g l = map numbers_of l.shown.items
    ≡ map (numbers_times (non_zero_usize_get l.one_in) l.requests) (take l.row-index l.rows)
