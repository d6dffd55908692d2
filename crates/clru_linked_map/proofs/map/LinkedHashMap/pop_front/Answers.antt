use Rattle.std.proofs.Common.{sym}
use Rattle.clru_linked_map.proofs.PlaceEnds.{live_first}
use Rattle.clru_linked_map.proofs.map.LinkedHashMap.pop_front.Goals as goal

pub home-bucket-requires : goal.home-bucket-requires
home-bucket-requires g c = live_first c.in_ok-place.place c.self.inside.items.list.entries (sym c.in_ok-place.ensures.place)
