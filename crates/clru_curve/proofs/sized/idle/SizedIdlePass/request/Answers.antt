use Rattle.std.proofs.Common.{◌≡◌, false, is_some, refl, sym, ap, ◌∙◌, subst, arith}
use Rattle.std.specs.Map.{keys_of}
use Rattle.clru_model.specs.Requests.{holds}
use Rattle.clru_model.specs.Sizes.{span}
use Rattle.clru_curve.specs.SizedIdlePasses.{IsSizedIdlePass}
use Rattle.clru_curve.proofs.IdleReuses.{reuse-new}
use Rattle.clru_curve.proofs.IdlePassing.{seen_known}
use Rattle.clru_curve.proofs.sized.idle.SizedIdlePass.request.Goals as goal

pub returns-in-Ok-Some-clause-span : goal.returns-in-Ok-Some-clause-span
returns-in-Ok-Some-clause-span g c w idle past same before weighs =
    rw c.in-Ok-Some.field-0-is at c.in-Ok-Some.ensures.span w idle past c.args.key same before weighs (g.met.K.Eq.laws.refl c.args.key)

pub returns-in-Ok-Some-clause-taken : goal.returns-in-Ok-Some-clause-taken
returns-in-Ok-Some-clause-taken g c w idle past same before weighs =
    c.in-Ok-Some.ensures.taken w idle past c.args.key same before weighs (g.met.K.Eq.laws.refl c.args.key) (ap is_some c.in-Ok-Some.field-0-is)

pub returns-in-Ok-clause-span : goal.returns-in-Ok-clause-span
returns-in-Ok-clause-span g c w idle past same before weighs =
    let eq = g.K.PartialEq.eq in let x = c.args.key in
    let absent : holds eq x (keys_of past) ≡ false =
    sym (seen_known eq (keys_of past) c.args.self.now.seen before.ranked.known x) ∙ sym c.in-Ok-None.ensures.known ∙ ap is_some c.in-Ok-None.field-0-is in
    sym (reuse-new eq (span eq w) idle (x, c.args.time) past (rw absent refl))

pub returns-in-Ok-clause-taken : goal.returns-in-Ok-clause-taken
returns-in-Ok-clause-taken g c w idle past same before weighs =
    c.in-Ok.ensures.taken w idle past same
    (subst (λ v. IsSizedIdlePass g.K.PartialEq.eq w idle past v) (sym (c.in-Ok-None.ensures.not_taken (ap is_some c.in-Ok-None.field-0-is))) before) weighs

pub request_new-requires-clause-fits : goal.request_new-requires-clause-fits
request_new-requires-clause-fits g c =
    omega (arith, c.in-Ok-None.ensures.too_large.1, ap (λ v. v.size) (c.in-Ok-None.ensures.not_taken (ap is_some c.in-Ok-None.field-0-is)))

pub returns-in-Ok-Some-clause-size : goal.returns-in-Ok-Some-clause-size
returns-in-Ok-Some-clause-size g c = c.in-Ok-Some.ensures.size (ap is_some c.in-Ok-Some.field-0-is)

pub returns-in-Ok-Some-clause-too_large : goal.returns-in-Ok-Some-clause-too_large
returns-in-Ok-Some-clause-too_large g c = c.in-Ok-Some.ensures.too_large

pub returns-in-Ok-clause-size : goal.returns-in-Ok-clause-size
returns-in-Ok-clause-size g c =
    omega (arith, c.in-Ok.ensures.size, ap (λ v. v.size) (c.in-Ok-None.ensures.not_taken (ap is_some c.in-Ok-None.field-0-is)))

pub returns-in-Ok-clause-too_large : goal.returns-in-Ok-clause-too_large
returns-in-Ok-clause-too_large g c = c.in-Ok-None.ensures.too_large

pub returns-in-Err-clause-refused : goal.returns-in-Err-clause-refused
returns-in-Err-clause-refused g c =
    c.in-Err.ensures.refused ∙ (c.in-Ok-None.ensures.not_taken (ap is_some c.in-Ok-None.field-0-is))

pub returns-in-Err-clause-too_large : goal.returns-in-Err-clause-too_large
returns-in-Err-clause-too_large g c = c.in-Ok-None.ensures.too_large
