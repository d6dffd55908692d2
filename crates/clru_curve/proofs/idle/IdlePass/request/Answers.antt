use Rattle.std.proofs.Common.{◌≡◌, true, false, is_some, refl, sym, ap, ◌∙◌, subst}
use Rattle.std.specs.Map.{keys_of}
use Rattle.clru_model.specs.Distances.{distance}
use Rattle.clru_model.specs.Requests.{holds}
use Rattle.clru_curve.specs.IdlePasses.{IsIdlePass}
use Rattle.clru_curve.proofs.IdleReuses.{reuse-new}
use Rattle.clru_curve.proofs.idle.IdlePass.request.Goals as goal

pub returns-in-Ok-Some-clause-distance : goal.returns-in-Ok-Some-clause-distance
returns-in-Ok-Some-clause-distance g c idle past before =
    rw c.in-Ok-Some.field-0-is at c.in-Ok-Some.ensures.distance idle past c.args.key before (g.met.K.Eq.laws.refl c.args.key)

pub returns-in-Ok-Some-clause-taken : goal.returns-in-Ok-Some-clause-taken
returns-in-Ok-Some-clause-taken g c idle past before =
    c.in-Ok-Some.ensures.taken idle past c.args.key before (g.met.K.Eq.laws.refl c.args.key) (ap is_some c.in-Ok-Some.field-0-is)

pub returns-in-Ok-clause-distance : goal.returns-in-Ok-clause-distance
returns-in-Ok-clause-distance g c idle past before =
    let eq = g.K.PartialEq.eq in
    let absent : holds eq c.args.key (keys_of past) ≡ false = sym (c.in-Ok-None.ensures.known idle past before) ∙ ap is_some c.in-Ok-None.field-0-is in
    sym (reuse-new eq (distance eq) idle (c.args.key, c.args.time) past (rw absent refl))

pub returns-in-Ok-clause-taken : goal.returns-in-Ok-clause-taken
returns-in-Ok-clause-taken g c idle past before =
    c.in-Ok.ensures.taken idle past (c.in-Ok-None.ensures.not_taken idle past before (ap is_some c.in-Ok-None.field-0-is))

pub returns-in-Err-request_new_with_hash-clause-refused : goal.returns-in-Err-request_new_with_hash-clause-refused
returns-in-Err-request_new_with_hash-clause-refused g c idle past before =
    c.in-Err-request_new_with_hash.ensures.refused idle past (c.in-Ok-None.ensures.not_taken idle past before (ap is_some c.in-Ok-None.field-0-is))

pub request_new_with_hash-requires-clause-new : goal.request_new_with_hash-requires-clause-new
request_new_with_hash-requires-clause-new g c =
    let idle = c.self.inside.limit in let past = c.self.invariant.past in
    let before = subst (λ v. IsIdlePass g.K.PartialEq.eq idle past v) c.self.view_is c.self.invariant.taken in (
      idle,
      past,
      c.in-Ok-None.ensures.not_taken idle past before (ap is_some c.in-Ok-None.field-0-is),
      sym (c.in-Ok-None.ensures.known idle past before) ∙ ap is_some c.in-Ok-None.field-0-is,
    )

pub returns-in-Err-request_new_with_hash-clause-memory : goal.returns-in-Err-request_new_with_hash-clause-memory
returns-in-Err-request_new_with_hash-clause-memory g c idle past before held many few =
    let absent = sym (c.in-Ok-None.ensures.known idle past before) ∙ ap is_some c.in-Ok-None.field-0-is in
    let no : false ≡ true = sym absent ∙ held in cc

pub returns-in-Err-clause-refused : goal.returns-in-Err-clause-refused
returns-in-Err-clause-refused g c idle past before =
    c.in-Err.ensures.refused idle past before

pub returns-in-Err-clause-memory : goal.returns-in-Err-clause-memory
returns-in-Err-clause-memory g c idle past before held many few =
    c.in-Err.ensures.memory idle past before many few
