use Rattle.clru_model.proofs.Retaining.{sublist_retained}
use Rattle.clru_linked_map.specs.Retains.{CalledAtShownPair}
use Rattle.clru_through.proofs.Sourced.{AllKeep-sublist}
use Rattle.clru_through.proofs.store.Through.retain.Goals as goal

pub invariant_of-self : goal.invariant_of-self
invariant_of-self g c =
    let old = c.self.inside.cache.entries in
    AllKeep-sublist g.R.Fetch.keeps (g.R.Fetch.promised c.self.inside.source) _ old
    (sublist_retained (CalledAtShownPair g.F.FnMut) (λ f f' k v w b called. called.stays) c.args.keep old _ c.retain.ensures.kept) c.self.invariant

pub returns-clause-from_source : goal.returns-clause-from_source
returns-clause-from_source g c = invariant_of-self g c
