use Rattle.std.proofs.Common.{sym, ◌∙◌}
use Rattle.std.specs.Map.{lookup}
use Rattle.clru_through.proofs.Looking.{is_absent, with_entries-touch-absent}
use Rattle.clru_through.proofs.store.load.move_to_front_if_held.Goals as goal

pub returns-clause-absent : goal.returns-clause-absent
returns-clause-absent g c = λ missed.
    is_absent c.get.result (lookup (g.Q.Equivalent.equivalent c.args.key) c.args.cache.now.entries) c.get.ensures.value (sym c.is_some.ensures ∙ missed)

pub returns-clause-missed : goal.returns-clause-missed
returns-clause-missed g c = λ missed.
    let eq = g.Q.Equivalent.equivalent in let key = c.args.key in let old = c.args.cache.now in
    let absent = is_absent c.get.result (lookup (eq key) old.entries) c.get.ensures.value (sym c.is_some.ensures ∙ missed) in
    c.get.follows.holds-at-none ∙ with_entries-touch-absent eq key old absent
