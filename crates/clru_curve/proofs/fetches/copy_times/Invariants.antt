use Rattle.std.proofs.Common.{◌≡◌, ◌+◌, ◌++◌, get_or, map, min}
use Rattle.std.specs.List.{range_with_len}
use Rattle.std.specs.Prelude.{vec_capacity, vec_len}
use Rattle.clru_curve.proofs.fetches.copy_times.Given as goal

abbrev pub invariant-loop-place : goal.invariant-loop-place
invariant-loop-place g l = record {
  items : l.times.items ≡ l.fn.times.items ++ map (λ p. get_or l.fn.times.items (l.first + min p l.last) 0) (range_with_len 0 l.place);
  len : vec_len l.times ≡ vec_len l.fn.times + l.place;
  capacity : vec_capacity l.times ≡ vec_capacity l.fn.times;
}
