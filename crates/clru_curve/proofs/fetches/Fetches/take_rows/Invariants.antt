use Rattle.std.proofs.Common.{◌≡◌}
use Rattle.clru_curve.specs.Fetches.{is_row_hit, AreCounted, AreFetched}
use Rattle.clru_curve.proofs.fetches.Fetches.take_rows.Given as goal

abbrev pub invariant-loop-row : goal.invariant-loop-row
invariant-loop-row g l = record {
  capacities : l.self.capacities ≡ l.fn.self.capacities;
  age : l.self.age ≡ l.fn.self.age;
  firsts : l.self.firsts ≡ l.fn.self.firsts;
  widths : l.self.widths ≡ l.fn.self.widths;
  narrow : l.self.narrow ≡ l.fn.self.narrow;
  misses : AreCounted (is_row_hit l.soon l.span l.time l.fn.self.age l.first l.fn.self.capacities.items l.fn.self.times.items) l.row 1
      l.fn.self.misses.items l.self.misses.items;
  missed_sizes : AreCounted (is_row_hit l.soon l.span l.time l.fn.self.age l.first l.fn.self.capacities.items l.fn.self.times.items) l.row l.size
      l.fn.self.missed_sizes.items l.self.missed_sizes.items;
  times : AreFetched (is_row_hit l.soon l.span l.time l.fn.self.age l.first l.fn.self.capacities.items l.fn.self.times.items) l.row l.first l.time
      l.fn.self.times.items l.self.times.items;
}
