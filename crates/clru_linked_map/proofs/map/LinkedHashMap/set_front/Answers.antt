use Rattle.std.proofs.Common.{sym}
use Rattle.clru_linked_map.proofs.Values.{frame-with_first, indexed_frame}
use Rattle.clru_linked_map.proofs.map.LinkedHashMap.set_front.Goals as goal

pub invariant_of-self : goal.invariant_of-self
invariant_of-self g c = indexed_frame c.self.invariant (frame-with_first c.in-Some.item.now _ _ (sym c.in-Some.ensures.value))
