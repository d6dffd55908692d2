use Rattle.std.proofs.Common.{is_some, sym, ap, ◌∙◌, subst, arith}
use Rattle.clru_curve.specs.SizedPasses.{IsSizedPass}
use Rattle.clru_curve.proofs.sized.pass.SizedPass.request.Goals as goal

pub returns-in-Ok-Some-clause-span : goal.returns-in-Ok-Some-clause-span
returns-in-Ok-Some-clause-span g c w past same before weighs =
    cc (c.in-Ok-Some.field-0-is, c.in-Ok-Some.ensures.span w past c.args.key same before weighs (g.met.K.Eq.laws.refl c.args.key))

pub returns-in-Ok-Some-clause-taken : goal.returns-in-Ok-Some-clause-taken
returns-in-Ok-Some-clause-taken g c w past same before weighs =
    c.in-Ok-Some.ensures.taken w past c.args.key same before weighs (g.met.K.Eq.laws.refl c.args.key) (ap is_some c.in-Ok-Some.field-0-is)

pub returns-in-Ok-clause-taken : goal.returns-in-Ok-clause-taken
returns-in-Ok-clause-taken g c w past same before weighs =
    c.in-Ok.ensures.taken w past same
    (subst (λ v. IsSizedPass g.K.PartialEq.eq w past v) (sym (c.in-Ok-None.ensures.not_taken (ap is_some c.in-Ok-None.field-0-is))) before) weighs

pub returns-in-Ok-Some-clause-size : goal.returns-in-Ok-Some-clause-size
returns-in-Ok-Some-clause-size g c =
    c.in-Ok-Some.ensures.size (ap is_some c.in-Ok-Some.field-0-is)

pub returns-in-Ok-Some-clause-too_large : goal.returns-in-Ok-Some-clause-too_large
returns-in-Ok-Some-clause-too_large g c =
    c.in-Ok-Some.ensures.too_large

pub returns-in-Ok-clause-span : goal.returns-in-Ok-clause-span
returns-in-Ok-clause-span g c w past same before weighs =
    rw c.in-Ok-None.field-0-is at c.in-Ok-None.ensures.span w past c.args.key same before weighs (g.met.K.Eq.laws.refl c.args.key)

pub returns-in-Ok-clause-size : goal.returns-in-Ok-clause-size
returns-in-Ok-clause-size g c =
    omega (arith, c.in-Ok.ensures.size, ap (λ v. v.size) (c.in-Ok-None.ensures.not_taken (ap is_some c.in-Ok-None.field-0-is)))

pub returns-in-Ok-clause-too_large : goal.returns-in-Ok-clause-too_large
returns-in-Ok-clause-too_large g c =
    c.in-Ok-None.ensures.too_large

pub returns-in-Err-clause-refused : goal.returns-in-Err-clause-refused
returns-in-Err-clause-refused g c =
    c.in-Err.ensures.refused ∙ (c.in-Ok-None.ensures.not_taken (ap is_some c.in-Ok-None.field-0-is))

pub returns-in-Err-clause-too_large : goal.returns-in-Err-clause-too_large
returns-in-Err-clause-too_large g c =
    c.in-Ok-None.ensures.too_large

pub take_new-requires-clause-fits : goal.take_new-requires-clause-fits
take_new-requires-clause-fits g c =
    omega (arith, c.in-Ok-None.ensures.too_large.1, ap (λ v. v.size) (c.in-Ok-None.ensures.not_taken (ap is_some c.in-Ok-None.field-0-is)))
