use Rattle.std.proofs.Common.{reverse, sym, subst}
use Rattle.clru_curve.specs.SizedAgedPasses.{IsSizedAgedPass}
use Rattle.clru_curve.proofs.AgedPassing.{misses_weightless}
use Rattle.clru_curve.proofs.aged.AgedPass.misses.Goals as goal

pub returns : goal.returns
returns g c cs idle age past before =
    let eq = g.K.PartialEq.eq in
    let is = subst (λ v. IsSizedAgedPass eq (λ _. 0) cs idle age past v) (sym c.self.view_is) before in
    cc (c.misses.ensures (λ _. 0) cs idle age past is, misses_weightless eq idle age (reverse past) cs)
