use Rattle.std.proofs.Common.{refl, sym, ap, ◌∙◌}
use Rattle.clru_linked_map.specs.IndexedList.{map_of}
use Rattle.clru_linked_map.specs.LinkedMap.{pairs_of, with_entries}
use Rattle.clru_linked_map.proofs.WrittenItems.{first_pair, first_written, front_at}
use Rattle.clru_linked_map.proofs.map.LinkedHashMap.front_mut.Goals as goal

pub invariant_of-self-lent : goal.invariant_of-self-lent
invariant_of-self-lent g c = λ w. (first_written c.self.inside.items c.in-Some.item.now (sym c.in-Some.ensures.value) w).indexed c.self.invariant

pub returns : goal.returns
returns g c =
    let x = c.self.inside.items in let i = c.in-Some.item.now in let first = sym c.in-Some.ensures.value in
    rw (← c.self.view_is) (
      (refl, λ w. (first_written x i first w).map ∙ ap (λ l. with_entries (map_of x) l) (front_at w (pairs_of x.list.entries))),
      record { lends = tt; entry = first_pair x.list.entries i first },
    )
