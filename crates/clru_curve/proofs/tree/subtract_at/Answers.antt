use Rattle.std.proofs.Common.{◌≡◌, ◌+◌, ◌-◌, ◌≤◌, get_or, ◌∙◌, arith, length-set}
use Rattle.std.proofs.lemmas.List.{get_or-set_other}
use Rattle.clru_curve.proofs.Nodes.{subtracts_step, node_before-less, node_after-greater, falls_far}
use Rattle.clru_curve.proofs.UpTo.{up_by-le, up_by-gt}
use Rattle.clru_curve.specs.Tree.{node_after}
use Rattle.clru_curve.proofs.tree.subtract_at.Goals as goal

pub overflow_sub-nodes : goal.overflow_sub-nodes
overflow_sub-nodes c =
    let f = c.requires.counted.0 in let at = c.loop-node.node in
    let more = node_after-greater at c.loop-node-test.true in
    let is = c.loop-node.invariant.node f c.requires.counted.1.1 at (omega arith) (omega arith) in
    let falls = falls_far f c.requires.counted.1.0 at (node_after at) (omega (arith, more)) in
    omega (arith, is, falls, up_by-le c.args.amount at at (omega arith), up_by-gt c.args.amount (node_after at) at more)

pub loop-node-preserved : goal.loop-node-preserved
loop-node-preserved c =
    let at = c.loop-node.node in let len = length-set c.loop-node.nodes at (get_or c.loop-node.nodes at 0 - c.args.amount) in
    let some : c.args.amount ≤ get_or c.loop-node.nodes at 0 = omega (arith, overflow_sub-nodes c) in
    record {
      inside = omega (arith, node_before-less at c.loop-node-test.true);
      first = get_or-set_other c.loop-node.nodes at 0 _ 0 (λ same. omega (arith, same, c.loop-node-test.true)) ∙ c.loop-node.invariant.first;
      none = λ f is j far. c.loop-node.invariant.none f is j (omega (arith, far, len));
      node = λ f is j some_j within.
          subtracts_step c.args.amount f c.loop-node.nodes at j (omega arith) c.loop-node-test.true some_j some
          (c.loop-node.invariant.node f is j some_j (omega (arith, within, len)));
    }

pub returns-clause-first : goal.returns-clause-first
returns-clause-first c = c.loop-node.invariant.first

pub returns-clause-counted : goal.returns-clause-counted
returns-clause-counted c f is =
    let at = c.loop-node.node in let done : at ≡ 0 = omega (arith, c.loop-node-test.false) in
    record {
      node = λ j some within.
          let whole = c.loop-node.invariant.node f is j some within in
          let low = node_after-greater j some in
          let e : get_or c.loop-node.nodes j 0 + f (node_after j) ≡ f j
          = omega (arith, whole, up_by-gt c.args.amount j at (omega arith), up_by-gt c.args.amount (node_after j) at (omega arith)) in e;
      none = λ j far. c.loop-node.invariant.none f is j far;
    }
