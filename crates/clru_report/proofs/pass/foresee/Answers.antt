use Rattle.std.proofs.Common.{◌∷◌, None, Some, sym, subst}
use Rattle.clru_least.specs.Passes.{IsForesight}
use Rattle.clru_text.specs.Keys.{same_line}
use Rattle.clru_text.proofs.ResultLemmas.{on_ok_map}
use Rattle.clru_report.specs.Passes.{HasForesight}
use Rattle.clru_report.proofs.pass.foresee.Goals as goal

pub request-requires : goal.request-requires
request-requires g c =
    let past = c.requires.1 in let latest = c.requires.3 in
    let given : HasForesight c.requires.0 past (Some c.in-Some.foresight) = subst (HasForesight c.requires.0 past) c.in-Some.is c.requires.4 in
    (past, c.requires.2, given.1, latest)

pub returns-in-None : goal.returns-in-None
returns-in-None g c least past key latest has =
    let none : HasForesight least past None = subst (HasForesight least past) c.in-None.is has in
    subst (HasForesight least (key ∷ past)) (sym c.in-None.is) none

pub returns-in-Some : goal.returns-in-Some
returns-in-Some g c least past key latest has =
    let given : HasForesight least past (Some c.in-Some.foresight) = subst (HasForesight least past) c.in-Some.is has in
    on_ok_map {P = IsForesight same_line (key ∷ past) c.request.new.self} c.request.result (λ one. (given.0, one))
    (c.request.ensures.taken past key given.1 latest)
