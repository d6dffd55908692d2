use Rattle.std.proofs.Common.{◌≡◌, ℕ, ◌<◌, ◌≤◌, length}
use Rattle.clru_least.specs.Chains.{next_in, number_in}
use Rattle.clru_least.proofs.chains.forget_links.Given as goal

abbrev pub invariant-loop-position : goal.invariant-loop-position
invariant-loop-position g l = record {
  length : length l.numbers.numbers ≡ length l.fn.numbers.numbers;
  greatest : l.numbers.greatest ≡ l.fn.numbers.greatest;
  done : (p : ℕ) → p < l.position → number_in l.numbers.numbers p ≡ next_in l.fn.numbers.numbers p;
  left : (p : ℕ) → l.position ≤ p → number_in l.numbers.numbers p ≡ number_in l.fn.numbers.numbers p;
}
