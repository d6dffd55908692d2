use Rattle.clru.proofs.Values.{IsCache-at}
use Rattle.clru.proofs.cache.walk.CLruCache+K+V+S+ZeroWeightScale+A.entry_at_back.Goals as goal

pub invariant_of-self-lent : goal.invariant_of-self-lent
invariant_of-self-lent g c = λ w. IsCache-at c.args.index w c.self.invariant
