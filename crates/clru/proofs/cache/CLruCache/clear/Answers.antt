use Rattle.std.proofs.Common.{refl}
use Rattle.clru.proofs.Keeping.{IsCache-from, IsKept-none}
use Rattle.clru.proofs.cache.CLruCache.clear.Goals as goal

pub invariant_of-self : goal.invariant_of-self
invariant_of-self g c = IsCache-from _ c.self.invariant c.clear.ensures (IsKept-none _ _) refl
