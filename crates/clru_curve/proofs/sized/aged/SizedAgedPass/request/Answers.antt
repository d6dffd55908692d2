use Rattle.std.proofs.Common.{◌≡◌, true, false, sym, ap, ◌∙◌, subst, arith}
use Rattle.clru_curve.specs.SizedAgedPasses.{IsSizedAgedPass}
use Rattle.clru_curve.proofs.sized.aged.SizedAgedPass.request.Goals as goal

pub returns-in-Ok-true-clause-taken : goal.returns-in-Ok-true-clause-taken
returns-in-Ok-true-clause-taken g c w cs idle age past same before weighs =
    let yes : c.in-Ok-true.field-0 ≡ true = cc in
    c.in-Ok-true.ensures.taken w cs idle age past c.args.key same before weighs (g.met.K.Eq.laws.refl c.args.key) yes

pub returns-in-Ok-clause-taken : goal.returns-in-Ok-clause-taken
returns-in-Ok-clause-taken g c w cs idle age past same before weighs =
    let no : c.in-Ok-false.field-0 ≡ false = cc in
    c.in-Ok.ensures.taken w cs idle age past same
    (subst (λ v. IsSizedAgedPass g.K.PartialEq.eq w cs idle age past v) (sym (c.in-Ok-false.ensures.not_taken no)) before) weighs

pub returns-in-Ok-true-clause-size : goal.returns-in-Ok-true-clause-size
returns-in-Ok-true-clause-size g c =
    let yes : c.in-Ok-true.field-0 ≡ true = cc in c.in-Ok-true.ensures.size yes

pub returns-in-Ok-true-clause-too_large : goal.returns-in-Ok-true-clause-too_large
returns-in-Ok-true-clause-too_large g c =
    c.in-Ok-true.ensures.too_large

pub returns-in-Ok-clause-size : goal.returns-in-Ok-clause-size
returns-in-Ok-clause-size g c =
    let no : c.in-Ok-false.field-0 ≡ false = cc in
    omega (arith, c.in-Ok.ensures.size, ap (λ v. v.size) (c.in-Ok-false.ensures.not_taken no))

pub returns-in-Ok-clause-too_large : goal.returns-in-Ok-clause-too_large
returns-in-Ok-clause-too_large g c =
    c.in-Ok-false.ensures.too_large

pub returns-in-Err-clause-refused : goal.returns-in-Err-clause-refused
returns-in-Err-clause-refused g c =
    let no : c.in-Ok-false.field-0 ≡ false = cc in
    c.in-Err.ensures.refused ∙ (c.in-Ok-false.ensures.not_taken no)

pub returns-in-Err-clause-too_large : goal.returns-in-Err-clause-too_large
returns-in-Err-clause-too_large g c =
    c.in-Ok-false.ensures.too_large

pub request_new-requires-clause-fits : goal.request_new-requires-clause-fits
request_new-requires-clause-fits g c =
    let no : c.in-Ok-false.field-0 ≡ false = cc in
    omega (arith, c.in-Ok-false.ensures.too_large.1, ap (λ v. v.size) (c.in-Ok-false.ensures.not_taken no))
