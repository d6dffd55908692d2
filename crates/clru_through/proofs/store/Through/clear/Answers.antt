use Rattle.clru_through.proofs.Sourced.{AllKeep-nil}
use Rattle.clru_through.proofs.store.Through.clear.Goals as goal

pub invariant_of-self : goal.invariant_of-self
invariant_of-self g c = rw c.clear.ensures (AllKeep-nil g.R.Fetch.keeps (g.R.Fetch.promised c.self.inside.source))
