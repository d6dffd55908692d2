use Rattle.clru_model.proofs.Orders.{permutation-demote}
use Rattle.clru.proofs.Keeping.{IsCache-ordered}
use Rattle.clru.proofs.cache.CLruCache.demote.Goals as goal

pub invariant_of-self : goal.invariant_of-self
invariant_of-self g c =
    IsCache-ordered _ g.met.K.Eq.laws (permutation-demote g.Q.Equivalent.equivalent c.args.key _) c.self.invariant c.demote.ensures.entries
