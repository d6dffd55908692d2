use Rattle.std.proofs.Common.{refl, sym}
use Rattle.clru_linked_map.proofs.PlaceEnds.{live_first}
use Rattle.clru_linked_map.proofs.map.LinkedHashMap.front.Goals as goal

pub item-item-requires : goal.item-item-requires
item-item-requires g c =
    let live = live_first c.in_ok-place.place c.self.inside.items.list.entries (sym c.in_ok-place.ensures.place) in rw (live.1) refl
