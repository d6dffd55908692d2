use Rattle.std.specs.Map.Calls.{CalledAtPair}
use Rattle.clru.proofs.Keeping.{IsCache-plain}
use Rattle.clru.proofs.Values.{IsKept-retained}
use Rattle.clru.proofs.cache.retain.CLruCache+K+V+S+ZeroWeightScale+A.retain_mut.Goals as goal

pub invariant_of-self : goal.invariant_of-self
invariant_of-self g c =
    let e = c.retain_mut.ensures in
    IsCache-plain c.self.invariant e.same (IsKept-retained (CalledAtPair g.F.FnMut) c.args.keep _ c.self.invariant.kept e.kept)
