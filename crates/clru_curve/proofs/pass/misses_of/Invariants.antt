use Rattle.std.proofs.Common.{◌≡◌, suc, ◌+◌, ◌<◌, ◌≤◌, ℕ, take, get_or}
use Rattle.std.specs.Prelude.{sum}
use Rattle.clru_curve.proofs.pass.misses_of.Given as goal

abbrev pub invariant-loop-count : goal.invariant-loop-count
invariant-loop-count l = record {
  left : l.misses + sum (take l.count-index l.fn.histogram) ≡ l.requests;
  rest : (j : ℕ) → l.count-index ≤ j → get_or l.histogram j 0 ≡ get_or l.fn.histogram j 0;
  done : (j : ℕ) → j < l.count-index → get_or l.histogram j 0 + sum (take (suc j) l.fn.histogram) ≡ l.requests;
}
