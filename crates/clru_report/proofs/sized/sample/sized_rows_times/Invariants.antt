use Rattle.std.proofs.Common.{◌≡◌, map, take}
use Rattle.std.specs.Int.NonZero.{non_zero_usize_get}
use Rattle.clru_report.specs.Samples.{sized_numbers_of, sized_numbers_times}
use Rattle.clru_report.proofs.sized.sample.sized_rows_times.Given as goal

abbrev pub invariant-loop-row : goal.invariant-loop-row
invariant-loop-row g l = map sized_numbers_of l.shown.items
    ≡ map (sized_numbers_times (non_zero_usize_get l.totals.one_in) l.totals.requests l.totals.size) (take l.row-index l.rows)
