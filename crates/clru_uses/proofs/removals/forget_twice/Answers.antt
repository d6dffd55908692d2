use Rattle.std.proofs.Common.{ap, ◌∙◌}
use Rattle.std.specs.Map.{lookup}
use Rattle.clru.proofs.CallerLemmas.{lookup-without, missed-without}
use Rattle.clru_uses.proofs.removals.forget_twice.Goals as goal

pub returns-clause-answer : goal.returns-clause-answer
returns-clause-answer g c =
    let eq = g.K.PartialEq.eq in let x = c.args.page.now in
    c.pop-2.ensures.value ∙ ap (λ s. lookup (eq x) s.entries) c.pop.ensures.entries
    ∙ lookup-without g.met.K.Eq.laws x c.args.sizes.now.entries c.len.ensures.valid.distinct

pub returns-clause-gone : goal.returns-clause-gone
returns-clause-gone g c =
    let eq = g.K.PartialEq.eq in let x = c.args.page.now in
    let first = ap (λ s. lookup (eq x) s.entries) c.pop.ensures.entries
    ∙ lookup-without g.met.K.Eq.laws x c.args.sizes.now.entries c.len.ensures.valid.distinct in
    ap (λ s. lookup (eq x) s.entries) c.pop-2.ensures.entries ∙ missed-without eq x x c.pop.new.self.entries first
