use Rattle.std.proofs.lemmas.Map.{keys-set_value}
use Rattle.clru.proofs.Values.{IsCache-values}
use Rattle.clru.proofs.cache.get.CLruCache+K+V+S+ZeroWeightScale+A.peek_mut.Goals as goal

pub invariant_of-self-lent : goal.invariant_of-self-lent
invariant_of-self-lent g c = λ w.
    IsCache-values c.self.invariant (keys-set_value (g.Q.Equivalent.equivalent c.args.key) c.self.inside.map.entries w)
