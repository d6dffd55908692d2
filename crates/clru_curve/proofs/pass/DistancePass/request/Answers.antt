use Rattle.std.proofs.Common.{◌≡◌, true, false, is_some, sym, ap, ◌∙◌}
use Rattle.clru_curve.proofs.pass.DistancePass.request.Goals as goal

pub returns-in-Ok-Some-clause-distance : goal.returns-in-Ok-Some-clause-distance
returns-in-Ok-Some-clause-distance g c past before =
    cc (c.in-Ok-Some.field-0-is, c.in-Ok-Some.ensures.distance past c.args.key before (g.met.K.Eq.laws.refl c.args.key))

pub returns-in-Ok-Some-clause-taken : goal.returns-in-Ok-Some-clause-taken
returns-in-Ok-Some-clause-taken g c past before =
    c.in-Ok-Some.ensures.taken past c.args.key before (g.met.K.Eq.laws.refl c.args.key) (ap is_some c.in-Ok-Some.field-0-is)

pub returns-in-Ok-clause-taken : goal.returns-in-Ok-clause-taken
returns-in-Ok-clause-taken g c past before = c.in-Ok.ensures.taken past (c.in-Ok-None.ensures.not_taken past before (ap is_some c.in-Ok-None.field-0-is))

pub returns-in-Err-request_new_with_hash-clause-refused : goal.returns-in-Err-request_new_with_hash-clause-refused
returns-in-Err-request_new_with_hash-clause-refused g c past before =
    c.in-Err-request_new_with_hash.ensures.refused past (c.in-Ok-None.ensures.not_taken past before (ap is_some c.in-Ok-None.field-0-is))

pub returns-in-Ok-clause-distance : goal.returns-in-Ok-clause-distance
returns-in-Ok-clause-distance g c past before =
    rw c.in-Ok-None.field-0-is at c.in-Ok-None.ensures.distance past c.args.key before (g.met.K.Eq.laws.refl c.args.key)

pub returns-in-Err-request_new_with_hash-clause-memory : goal.returns-in-Err-request_new_with_hash-clause-memory
returns-in-Err-request_new_with_hash-clause-memory g c past before held many few =
    let absent = sym (c.in-Ok-None.ensures.known past before) ∙ ap is_some c.in-Ok-None.field-0-is in
    let no : false ≡ true = sym absent ∙ held in cc

pub returns-in-Err-clause-refused : goal.returns-in-Err-clause-refused
returns-in-Err-clause-refused g c past before =
    c.in-Err.ensures.refused past before

pub returns-in-Err-clause-memory : goal.returns-in-Err-clause-memory
returns-in-Err-clause-memory g c past before held many few =
    c.in-Err.ensures.memory past before many few
