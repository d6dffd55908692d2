use Rattle.std.proofs.Common.{subst}
use Rattle.clru_curve.proofs.SizedAgedPassing.{IsSizedAgedPass-none, IsSoundAgedBySize-none}
use Rattle.clru_curve.specs.LatestSizes.{IsSummed}
use Rattle.clru_curve.proofs.sized.aged.SizedAgedPass.with_hasher.Goals as goal

pub invariant_of-result : goal.invariant_of-result
invariant_of-result g c =
    let e = c.in-Ok.ensures in let ns = c.new-3.result.nodes.items in (
      e.blocks,
      rw c.new-2.ensures (λ x s at. cc at),
      rw (c.new-2.ensures, c.new-3.ensures.sizes, c.new-3.ensures.requests, e.misses, e.missed_sizes, e.times, e.capacities)
          (IsSoundAgedBySize-none g.K.PartialEq.eq c.args.capacities.now ns c.in-Ok.fetches.age c.args.idle
          (subst (λ l. IsSummed l ns 0) c.new-3.ensures.sizes
          (subst (λ n. IsSummed c.new-3.result.sizes.items ns n) c.new-3.ensures.requests c.new-3.ensures.kept))),
    )

pub returns : goal.returns
returns g c = λ w.
    let e = c.in-Ok.ensures in
    rw (c.new-2.ensures, c.new-3.ensures.sizes, c.new-3.ensures.requests, e.misses, e.missed_sizes, e.times, e.capacities, e.age)
    (IsSizedAgedPass-none g.K.PartialEq.eq g.met.K.Eq.laws w c.args.capacities.now c.args.idle c.args.age)
