use Rattle.std.proofs.Common.{◌≡◌, ◌+◌, get_or, arith, length-set}
use Rattle.clru_curve.proofs.Nodes.{adds_step, node_before-less, node_after-greater}
use Rattle.clru_curve.proofs.UpTo.{up_by-le, up_by-gt}
use Rattle.clru_curve.specs.Tree.{node_after, up_by}
use Rattle.clru_curve.proofs.tree.add_at.Goals as goal

pub overflow_add-nodes : goal.overflow_add-nodes
overflow_add-nodes c =
    let f = c.requires.counted.0 in let at = c.loop-node.node in let low = c.requires.counted.1.1 at in
    let is = c.loop-node.invariant.node f c.requires.counted.1.0 at (omega arith) (omega arith) in
    omega (
      arith,
      low,
      is,
      up_by-le c.args.amount at at (omega arith),
      up_by-le c.args.amount at c.args.position (omega arith),
      up_by-gt c.args.amount (node_after at) at (node_after-greater at (omega arith)),
    )

pub loop-node-preserved : goal.loop-node-preserved
loop-node-preserved c =
    let at = c.loop-node.node in let len = length-set c.loop-node.nodes at (get_or c.loop-node.nodes at 0 + c.args.amount) in
    record {
      inside = omega (arith, node_before-less at c.loop-node-test.true);
      none = λ f is j far. c.loop-node.invariant.none f is j (omega (arith, far, len));
      node = λ f is j some within.
          adds_step c.args.amount f c.loop-node.nodes at j (omega arith) c.loop-node-test.true some c.args.position
          (c.loop-node.invariant.node f is j some (omega (arith, within, len)));
    }

pub returns-clause-counted : goal.returns-clause-counted
returns-clause-counted c f is =
    let at = c.loop-node.node in let done : at ≡ 0 = omega (arith, c.loop-node-test.false) in
    record {
      node = λ j some within.
          let whole = c.loop-node.invariant.node f is j some within in
          let low = node_after-greater j some in
          let e : get_or c.loop-node.nodes j 0 + (f (node_after j) + up_by c.args.amount (node_after j) c.args.position) ≡ f j + up_by c.args.amount j c.args.position
          = omega (arith, whole, up_by-gt c.args.amount j at (omega arith), up_by-gt c.args.amount (node_after j) at (omega arith)) in e;
      none = λ j far. let less = c.loop-node.invariant.none f is j far in
          omega (arith, less, up_by-gt c.args.amount j c.args.position (omega (arith, far, c.requires.inside, c.loop-node.auto.nodes)));
    }
