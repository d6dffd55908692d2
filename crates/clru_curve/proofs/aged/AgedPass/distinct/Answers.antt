use Rattle.std.proofs.Common.{refl, sym, subst, arith}
use Rattle.std.specs.Map.{keys_of}
use Rattle.clru_model.proofs.Spans.{total_weightless}
use Rattle.clru_curve.specs.SizedAgedPasses.{IsSizedAgedPass}
use Rattle.clru_curve.proofs.aged.AgedPass.distinct.Goals as goal

pub returns : goal.returns
returns g c cs idle age past before =
    let eq = g.K.PartialEq.eq in
    let is = subst (λ v. IsSizedAgedPass eq (λ _. 0) cs idle age past v) (sym c.self.view_is) before in
    omega (arith, c.distinct_size.ensures (λ _. 0) cs idle age past is, total_weightless eq (λ _. 0) (λ _. refl) (keys_of past))
