use Rattle.clru_model.proofs.Retaining.{sublist_retained}
use Rattle.clru_linked_map.specs.Retains.{CalledAtShownPair}
use Rattle.clru.proofs.Keeping.{IsCache-from, IsKept-sublist}
use Rattle.clru.proofs.cache.CLruCache.retain.Goals as goal

pub invariant_of-self : goal.invariant_of-self
invariant_of-self g c =
    let e = c.retain.ensures in
    IsCache-from _ c.self.invariant e.same
    (IsKept-sublist _ c.self.invariant.kept
    (sublist_retained (CalledAtShownPair g.F.FnMut) (λ f f' k v w b called. called.stays) c.args.keep c.self.inside.map.entries _ e.kept)) e.weighs
