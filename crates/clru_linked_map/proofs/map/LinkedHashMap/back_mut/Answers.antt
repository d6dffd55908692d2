use Rattle.std.proofs.Common.{refl, sym}
use Rattle.clru_linked_map.proofs.PlaceEnds.{last_item_pair, no_last_item}
use Rattle.clru_linked_map.proofs.WrittenItems.{last_written}
use Rattle.clru_linked_map.proofs.map.LinkedHashMap.back_mut.Goals as goal

pub unreachable-requires : goal.unreachable-requires
unreachable-requires g c =
    let some = rw (← c.self.view_is) at c.requires in no_last_item c.self.inside.items.list.entries c.in_default.ensures.value some

pub invariant_of-self-lent : goal.invariant_of-self-lent
invariant_of-self-lent g c = λ w. (last_written c.self.inside.items c.in-Some.item.now (sym c.in-Some.ensures.value) w).indexed c.self.invariant

pub returns : goal.returns
returns g c =
    let x = c.self.inside.items in
    rw (← c.self.view_is) (
      (refl, λ w. (last_written x c.in-Some.item.now (sym c.in-Some.ensures.value) w).map),
      record { lends = tt; entry = sym (last_item_pair x.list.entries c.in-Some.ensures.value) },
    )
