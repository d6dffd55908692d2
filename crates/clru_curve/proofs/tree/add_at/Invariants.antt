use Rattle.std.proofs.Common.{◌≡◌, ◌<◌, ◌≤◌, ℕ, length, get_or}
use Rattle.clru_curve.specs.Tree.{IsCounted}
use Rattle.clru_curve.proofs.Nodes.{Adds}
use Rattle.clru_curve.proofs.tree.add_at.Given as goal

abbrev pub invariant-loop-node : goal.invariant-loop-node
invariant-loop-node l = record {
  inside : l.node ≤ l.position;
  none : (f : ℕ → ℕ) → IsCounted f l.fn.nodes → (j : ℕ) → length l.nodes ≤ j → f j ≡ 0;
  node : (f : ℕ → ℕ) → IsCounted f l.fn.nodes → (j : ℕ) → 0 < j → j < length l.nodes → Adds l.amount f l.position l.node j (get_or l.nodes j 0);
}

abbrev pub decreases-loop-node : goal.decreases-loop-node
decreases-loop-node l = l.node
