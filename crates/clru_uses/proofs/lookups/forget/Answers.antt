use Rattle.std.proofs.Common.{rules, nat_eq, length, refl, ap, ◌∙◌, arith}
use Rattle.std.specs.Map.{lookup}
use Rattle.std.specs.Cmp.{nat_eq_equiv}
use Rattle.clru.proofs.CallerLemmas.{length-without, lookup-removed}
use Rattle.clru_uses.proofs.lookups.forget.Goals as goal

pub returns-in-Some-clause-number : goal.returns-in-Some-clause-number
returns-in-Some-clause-number c =
    let left = length-without nat_eq c.args.page.now c.args.sizes.now.entries in
    let same = ap (λ s. length s.entries) c.in-Some.ensures.entries in search (rules, arith, left, same)

pub returns-in-Some-clause-others : goal.returns-in-Some-clause-others
returns-in-Some-clause-others c = λ other apart.
    ap (λ s. lookup (nat_eq other) s.entries) c.pop.ensures.entries
    ∙ lookup-removed nat_eq_equiv c.args.page.now other c.args.sizes.now.entries c.len-before.ensures.valid.distinct ∙ rw apart refl

pub returns-in-None-clause-number : goal.returns-in-None-clause-number
returns-in-None-clause-number c =
    let left = length-without nat_eq c.args.page.now c.args.sizes.now.entries in
    let same = ap (λ s. length s.entries) c.in-None.ensures.entries in search (rules, arith, left, same)

pub returns-in-None-clause-others : goal.returns-in-None-clause-others
returns-in-None-clause-others c = λ other apart.
    ap (λ s. lookup (nat_eq other) s.entries) c.pop.ensures.entries
    ∙ lookup-removed nat_eq_equiv c.args.page.now other c.args.sizes.now.entries c.len-before.ensures.valid.distinct ∙ rw apart refl
