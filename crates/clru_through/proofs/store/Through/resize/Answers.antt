use Rattle.clru_through.proofs.Sourced.{AllKeep-fit}
use Rattle.clru_through.proofs.store.Through.resize.Goals as goal

pub invariant_of-self : goal.invariant_of-self
invariant_of-self g c =
    let cache = c.self.inside.cache in
    rw c.resize.ensures
    (AllKeep-fit g.R.Fetch.keeps (g.R.Fetch.promised c.self.inside.source) (g.W.WeightScale.weight cache.scale) (c.args.capacity.value) cache.entries c.self.invariant)

pub returns-clause-from_source : goal.returns-clause-from_source
returns-clause-from_source g c = invariant_of-self g c
