use Rattle.std.proofs.Common.{◌≡◌, ◌+◌, ◌<◌, ◌≤◌, ℕ, length, get_or}
use Rattle.clru_curve.specs.Tree.{up_by, IsCounted}
use Rattle.clru_curve.proofs.Nodes.{Subtracts}
use Rattle.clru_curve.proofs.tree.subtract_at.Given as goal

abbrev pub invariant-loop-node : goal.invariant-loop-node
invariant-loop-node l = record {
  inside : l.node ≤ l.position;
  first : get_or l.nodes 0 0 ≡ get_or l.fn.nodes 0 0;
  none : (f : ℕ → ℕ) → IsCounted (λ j. f j + up_by l.amount j l.position) l.fn.nodes → (j : ℕ) → length l.nodes ≤ j → f j ≡ 0;
  node : (f : ℕ → ℕ) → IsCounted (λ j. f j + up_by l.amount j l.position) l.fn.nodes → (j : ℕ) → 0 < j → j < length l.nodes
      → Subtracts l.amount f l.node j (get_or l.nodes j 0);
}

abbrev pub decreases-loop-node : goal.decreases-loop-node
decreases-loop-node l = l.node
