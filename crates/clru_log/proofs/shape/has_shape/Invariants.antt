use Rattle.std.proofs.Common.{◌≡◌, ◌≤◌, length, drop}
use Rattle.clru_log.specs.Shapes.{has_shape}
use Rattle.clru_log.proofs.shape.has_shape.Given as goal

abbrev pub invariant-loop-at : goal.invariant-loop-at
invariant-loop-at l = record {
  enough : length l.shape ≤ length l.text;
  rest : has_shape (drop l.at l.shape) (drop l.at l.text) ≡ has_shape l.shape l.text;
}
