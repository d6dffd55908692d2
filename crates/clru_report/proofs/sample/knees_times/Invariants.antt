use Rattle.std.proofs.Common.{◌≡◌, ◌-◌, ◌^◌, map, take}
use Rattle.std.specs.Int.NonZero.{non_zero_usize_get}
use Rattle.clru_text.specs.Samples.{times}
use Rattle.clru_report.proofs.sample.knees_times.Given as goal

abbrev pub invariant-loop-knee : goal.invariant-loop-knee
invariant-loop-knee g l = l.shown.items ≡ map (times (non_zero_usize_get l.one_in) (2 ^ 64 - 1)) (take l.knee-index l.knees)
