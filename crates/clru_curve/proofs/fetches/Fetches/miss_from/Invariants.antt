use Rattle.std.proofs.Common.{◌≡◌, ◌≤◌, nat_lt}
use Rattle.clru_curve.specs.Fetches.{AreCounted}
use Rattle.clru_curve.proofs.fetches.Fetches.miss_from.Given as goal

abbrev pub invariant-loop-row : goal.invariant-loop-row
invariant-loop-row g l = record {
  capacities : l.self.capacities ≡ l.fn.self.capacities;
  age : l.self.age ≡ l.fn.self.age;
  firsts : l.self.firsts ≡ l.fn.self.firsts;
  widths : l.self.widths ≡ l.fn.self.widths;
  times : l.self.times ≡ l.fn.self.times;
  narrow : l.self.narrow ≡ l.fn.self.narrow;
  from : l.first ≤ l.row;
  misses : AreCounted (λ i. nat_lt i l.first) l.row 1 l.fn.self.misses.items l.self.misses.items;
  missed_sizes : AreCounted (λ i. nat_lt i l.first) l.row l.size l.fn.self.missed_sizes.items l.self.missed_sizes.items;
}
