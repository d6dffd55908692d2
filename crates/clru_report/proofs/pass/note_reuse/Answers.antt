use Rattle.std.proofs.Common.{◌∷◌, None, Some, sym, subst, arith}
use Rattle.clru_text.specs.Keys.{line_of}
use Rattle.clru_text.proofs.ResultLemmas.{some_map}
use Rattle.clru_report.specs.Passes.{HasFloorPass}
use Rattle.clru_report.proofs.pass.note_reuse.Goals as goal

pub request-requires : goal.request-requires
request-requires g c =
    let w = c.requires.0 in let past = c.requires.2 in
    let given : HasFloorPass w c.requires.1 past (Some c.in-Some.reuses) = subst (HasFloorPass w c.requires.1 past) c.in-Some.is c.requires.5 in
    some_map c.args.latest (λ p at. omega (arith, at, given.1.requests)) c.requires.4.position

pub returns-in-None : goal.returns-in-None
returns-in-None g c w floored past key latest has weighs =
    let none : HasFloorPass w floored past None = subst (HasFloorPass w floored past) c.in-None.is has in
    subst (HasFloorPass w floored (key ∷ past)) (sym c.in-None.is) none

pub returns-in-Ok : goal.returns-in-Ok
returns-in-Ok g c w floored past key latest has weighs =
    let given : HasFloorPass w floored past (Some c.in-Some.reuses) = subst (HasFloorPass w floored past) c.in-Some.is has in (
      given.0,
      c.in-Ok.ensures.taken (λ k. w (line_of k)) past key given.1 latest (sym weighs),
    )
