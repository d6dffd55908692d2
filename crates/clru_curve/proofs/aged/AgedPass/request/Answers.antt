use Rattle.std.proofs.Common.{refl, sym, subst, arith}
use Rattle.clru_curve.specs.SizedAgedPasses.{IsSizedAgedPass}
use Rattle.clru_curve.proofs.aged.AgedPass.request.Goals as goal
use Rattle.clru_curve.proofs.aged.AgedPass.request.Goals.{in-Ok, in-Err-NoMemory, in-Err-TooLarge}

pub returns-clause-taken : goal.returns-clause-taken
returns-clause-taken g c cs idle age past before =
    let is = subst (λ v. IsSizedAgedPass g.K.PartialEq.eq (λ _. 0) cs idle age past v) (sym c.self.view_is) before in
    elim c.match-request.branch [
      | in-Ok w ↦ rw w.result-is (w.in-Ok.ensures.taken (λ _. 0) cs idle age past (λ x y same. refl) is (omega arith))
      | in-Err-NoMemory w ↦ rw w.result-is tt
      | in-Err-TooLarge w ↦ rw w.result-is tt
    ]
