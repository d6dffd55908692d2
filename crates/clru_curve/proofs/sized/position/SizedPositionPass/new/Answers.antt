use Rattle.std.proofs.Common.{[], subst}
use Rattle.clru_curve.proofs.SizedPositionPassing.{none_taken, sound_none}
use Rattle.clru_curve.specs.LatestSizes.{IsSummed}
use Rattle.clru_curve.specs.SizedPositionPasses.{IsSizedPositionPass}
use Rattle.clru_curve.proofs.sized.position.SizedPositionPass.new.Goals as goal

pub invariant_of-result : goal.invariant_of-result
invariant_of-result g c =
    let e = c.new.ensures in let ns = c.new.result.nodes.items in
    rw (e.sizes, e.requests, c.new-2.ensures.items)
    (sound_none ns (subst (λ l. IsSummed l ns 0) e.sizes (subst (λ n. IsSummed c.new.result.sizes.items ns n) e.requests e.kept)))

pub returns : goal.returns
returns g c w idle =
    let e = c.new.ensures in
    subst (IsSizedPositionPass g.K.PartialEq.eq w idle []) (cc (e.sizes, e.requests, c.new-2.ensures.items)) (none_taken g.K.PartialEq.eq g.met.K.Eq.laws w idle)
