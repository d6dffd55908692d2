use Rattle.std.proofs.Common.{length, ap, arith}
use Rattle.clru_curve.proofs.LatestSizes.{IsSummed-node}
use Rattle.clru_curve.proofs.sized.sizes.Sizes.make_ready.Goals as goal

pub returns-clause-kept : goal.returns-clause-kept
returns-clause-kept g c =
    let self = c.args.self.now in
    rw (c.in-Ok-push.ensures.items, c.make_room.ensures.items)
    (IsSummed-node self.sizes.items self.nodes.items self.requests c.requires.kept (omega (arith, c.if-len.false, ap (λ l. length l) c.make_room.ensures.items, c.len.ensures)))
