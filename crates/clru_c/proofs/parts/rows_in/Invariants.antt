use Rattle.std.proofs.Common.{◌≡◌, ◌+◌, ◌-◌, ◌*◌, ◌++◌, length}
use Rattle.clru_c.specs.Parts.{rows_of}
use Rattle.clru_c.proofs.parts.rows_in.Given as goal

abbrev pub invariant-loop : goal.invariant-loop
invariant-loop g l = record {
  rows : l.rows.items ++ rows_of (l.budget + 1) (l.count - l.counter) l.rest ≡ rows_of (l.budget + 1) l.count l.missed;
  many : length l.rest ≡ (l.count - l.counter) * (l.budget + 1);
}
