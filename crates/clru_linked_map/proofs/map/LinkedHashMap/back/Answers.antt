use Rattle.clru_linked_map.proofs.PlaceEnds.{last_item_pair}
use Rattle.clru_linked_map.proofs.map.LinkedHashMap.back.Goals as goal

pub returns-in-Some : goal.returns-in-Some
returns-in-Some g c = rw (← c.self.view_is) (last_item_pair c.self.inside.items.list.entries c.in-Some.ensures.value)

pub returns-in-None : goal.returns-in-None
returns-in-None g c = rw (← c.self.view_is) (last_item_pair c.self.inside.items.list.entries c.in-None.ensures.value)
