use Rattle.clru_through.proofs.Sourced.{AllKeep-without, IfSome-held}
use Rattle.clru_through.proofs.store.Through.pop.Goals as goal

pub invariant_of-self : goal.invariant_of-self
invariant_of-self g c =
    let cache = c.self.inside.cache in
    rw c.pop.ensures.entries
    (AllKeep-without g.R.Fetch.keeps (g.R.Fetch.promised c.self.inside.source) g.Q.Equivalent.equivalent c.args.key cache.entries c.self.invariant)

pub returns-clause-value : goal.returns-clause-value
returns-clause-value g c =
    rw (← c.self.view_is) (IfSome-held (g.met.Q.Equivalent.respects_eq c.args.key) g.R.Fetch.keeps (g.met.R.Fetch.same c.self.inside.source)
    c.self.inside.cache.entries c.self.invariant c.pop.result c.pop.ensures.value)

pub returns-clause-from_source : goal.returns-clause-from_source
returns-clause-from_source g c = invariant_of-self g c
