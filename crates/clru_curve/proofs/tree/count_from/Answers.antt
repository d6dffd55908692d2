use Rattle.std.proofs.Common.{◌-◌, arith}
use Rattle.std.proofs.lemmas.Nat.{or_lt}
use Rattle.clru_curve.proofs.Nodes.{node_after-greater}
use Rattle.clru_curve.proofs.tree.count_from.Goals as goal

pub overflow_add-node : goal.overflow_add-node
overflow_add-node c =
    let low = or_lt 63 c.loop-node.node (c.loop-node.node - 1) (omega (arith, c.requires.short, c.loop-node-test.true)) (omega (arith, c.requires.short, c.loop-node-test.true)) in
    omega (arith, low)

pub loop-node-smaller : goal.loop-node-smaller
loop-node-smaller c = omega (arith, c.loop-node-test.true, node_after-greater c.loop-node.node c.loop-node.invariant.after)
