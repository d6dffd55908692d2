use Rattle.clru_through.proofs.Sourced.{AllKeep-taken}
use Rattle.clru_through.proofs.store.Through.put.Goals as goal

pub invariant_of-self : goal.invariant_of-self
invariant_of-self g c =
    let old = c.self.inside.cache in let source = c.self.inside.source in
    AllKeep-taken g.K.PartialEq.eq (g.W.WeightScale.weight old.scale) g.R.Fetch.keeps (g.R.Fetch.promised source) old c.taken.new.cache
    c.args.key c.args.value c.taken.result (rw (← c.self.view_is) at c.requires.sourced) c.taken.ensures.taken c.self.invariant

pub returns-clause-from_source : goal.returns-clause-from_source
returns-clause-from_source g c = invariant_of-self g c
