use Rattle.std.proofs.Common.{length, reverse, sym, ap, ◌∙◌, subst}
use Rattle.clru_curve.proofs.SizedAgedPassing.{rows_map}
use Rattle.clru_curve.specs.SizedAgedPasses.{IsSizedAgedPass, aged_misses_by_size}
use Rattle.clru_curve.proofs.sized.aged.SizedAgedPass.misses.Goals as goal

pub returns : goal.returns
returns g c w cs idle age past before =
    let eq = g.K.PartialEq.eq in let s = c.self.inside in
    let is = subst (λ v. IsSizedAgedPass eq w cs idle age past v) (sym c.self.view_is) before in
    cc (
      c.deref.ensures.value,
      rows_map (λ k. aged_misses_by_size eq w idle age k (reverse past)) cs s.fetches.misses.items
          (c.self.invariant.2.misses_length ∙ ap (λ l. length l) is.places) (λ i inside. (is.rows i inside).misses),
    )
