use Rattle.std.proofs.Common.{sym, subst}
use Rattle.std.specs.Prelude.{IfSome}
use Rattle.clru_curve.proofs.SizedPositionPassing.{latest_live}
use Rattle.clru_curve.specs.LatestSizes.{IsLiveAt}
use Rattle.clru_curve.specs.Rising.{IsRising}
use Rattle.clru_curve.specs.SizedPositionPasses.{CountedBySize}
use Rattle.clru_curve.proofs.sized.position.SizedPositionPass.request.Goals as goal

pub count-requires : goal.count-requires
count-requires g c =
    let r = c.requires in
    let rises : CountedBySize → Type 0 = λ v. IsRising 0 v.sizes v.requests in
    let live : CountedBySize → Type 0 = λ v. IfSome c.args.latest (λ p. IsLiveAt v.sizes p) in
    record {
      live = subst live (sym c.self.view_is)
          (latest_live g.K.PartialEq.eq g.met.K.Eq.laws r.0 r.1 r.2 c.args.self.now r.3 r.4 r.6 c.args.latest r.8 c.args.weight r.7 c.args.self.now.requests
          (subst rises c.self.view_is c.likely-likely.ensures.rising));
    }
