use Rattle.std.proofs.Common.{refl, sym, subst, arith}
use Rattle.clru_curve.specs.SizedAgedPasses.{IsSizedAgedPass}
use Rattle.clru_curve.proofs.aged.AgedPass.request_again.Goals as goal
use Rattle.clru_curve.proofs.aged.AgedPass.request_again.Goals.{in-Ok, in-Err-NoMemory, in-Err-TooLarge}

pub returns-clause-taken : goal.returns-clause-taken
returns-clause-taken g c cs idle age past x before passes =
    let is = subst (λ v. IsSizedAgedPass g.K.PartialEq.eq (λ _. 0) cs idle age past v) (sym c.self.view_is) before in
    elim c.match-request_again.branch [
      | in-Ok w ↦ rw w.result-is (w.in-Ok.ensures.taken (λ _. 0) cs idle age past x (λ y z same. refl) is (omega arith) passes)
      | in-Err-NoMemory w ↦ rw w.result-is tt
      | in-Err-TooLarge w ↦ rw w.result-is tt
    ]

pub returns-clause-known : goal.returns-clause-known
returns-clause-known g c cs idle age past before =
    let is = subst (λ v. IsSizedAgedPass g.K.PartialEq.eq (λ _. 0) cs idle age past v) (sym c.self.view_is) before in
    elim c.match-request_again.branch [
      | in-Ok w ↦ rw w.result-is (w.in-Ok.ensures.known (λ _. 0) cs idle age past is)
      | in-Err-NoMemory w ↦ rw w.result-is tt
      | in-Err-TooLarge w ↦ rw w.result-is tt
    ]
