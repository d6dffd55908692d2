use Rattle.std.proofs.Common.{IsOk, Ok, Err, ap, ◌∙◌, rules, refl}
use Rattle.clru_model.specs.Entries.{plain_put}
use Rattle.clru_runs.proofs.Lending.{lends_data}
use Rattle.clru_runs.proofs.perform.put_or_modify.Goals as goal

pub returns-in-Ok : goal.returns-in-Ok
returns-in-Ok g c =
    let ok : IsOk c.put_or_modify.result = rw c.in-Ok.is refl in
    let left = c.put_or_modify.follows.holds c.in-Ok.lent.now ok in
    let lent = lends_data _ _ _ _ (λ shown r put' called. search rules) (λ shown lent left modify' called. search rules) c.in-Ok.ensures.called in
    let old = c.args.cache.now in
    let stored = ap (λ v. plain_put g.K.PartialEq.eq old.capacity c.args.key v old.entries) lent in
    (Ok c.in-Ok.lent.now, refl, (lent, record { entries = left.0 ∙ stored; places = left.1 }))

pub returns-in-Err : goal.returns-in-Err
returns-in-Err g c =
    let left = rw c.in-Err.is at c.put_or_modify.follows.holds-at-none in
    let refused = c.in-Err.ensures in
    (Err c.in-Err.back, refl, (refused.refused, record { needs = refused.memory refl; entries = left.0; places = left.1 }))
