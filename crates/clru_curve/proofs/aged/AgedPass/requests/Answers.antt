use Rattle.std.proofs.Common.{sym, subst, arith}
use Rattle.clru_curve.specs.SizedAgedPasses.{IsSizedAgedPass}
use Rattle.clru_curve.proofs.aged.AgedPass.requests.Goals as goal

pub returns : goal.returns
returns g c cs idle age past before =
    let is = subst (λ v. IsSizedAgedPass g.K.PartialEq.eq (λ _. 0) cs idle age past v) (sym c.self.view_is) before in
    omega (arith, c.requests.ensures (λ _. 0) cs idle age past is)
