use Rattle.std.proofs.Common.{subst}
use Rattle.clru_curve.proofs.SizedPassing.{IsSizedPass-none, IsSoundBySize-none}
use Rattle.clru_curve.specs.LatestSizes.{IsSummed}
use Rattle.clru_curve.proofs.sized.pass.SizedPass.with_hasher.Goals as goal

pub invariant_of-result : goal.invariant_of-result
invariant_of-result g c =
    let ns = c.new-2.result.nodes.items in
    rw (c.new.ensures, c.new-2.ensures.sizes, c.new-2.ensures.requests, c.new-3.ensures.items)
    (IsSoundBySize-none g.K.PartialEq.eq ns
    (subst (λ l. IsSummed l ns 0) c.new-2.ensures.sizes (subst (λ n. IsSummed c.new-2.result.sizes.items ns n) c.new-2.ensures.requests c.new-2.ensures.kept)))

pub returns : goal.returns
returns g c = λ w. rw (c.new.ensures, c.new-2.ensures.sizes, c.new-2.ensures.requests, c.new-3.ensures.items) (IsSizedPass-none g.K.PartialEq.eq w)
