use Rattle.std.proofs.Common.{refl, sym, ap, ◌∙◌}
use Rattle.clru_linked_map.specs.LinkedMap.{linked_map, pairs_of}
use Rattle.clru_linked_map.proofs.PlaceEnds.{last_at, held_last, last_pair, none_at_last}
use Rattle.clru_linked_map.proofs.map.LinkedHashMap.pop_back.Goals as goal

pub returns-in_err-place-clause-pair : goal.returns-in_err-place-clause-pair
returns-in_err-place-clause-pair g c =
    let none = none_at_last c.self.inside.items.list.entries (sym c.in_err-place.ensures.place) in
    rw (c.from_residual.ensures, ← c.self.view_is, none) refl

pub returns-in_err-place-clause-entries : goal.returns-in_err-place-clause-entries
returns-in_err-place-clause-entries g c =
    let none = none_at_last c.self.inside.items.list.entries (sym c.in_err-place.ensures.place) in
    rw (← c.self.view_is, none) refl

pub home-bucket-requires : goal.home-bucket-requires
home-bucket-requires g c =
    let l = last_at c.in_ok-place.place c.self.inside.items.list.entries (sym c.in_ok-place.ensures.place) in
    (l.item, (held_last c.in_ok-place.ensures.valid.apart l).0)

pub returns-clause-pair : goal.returns-clause-pair
returns-clause-pair g c =
    let l = last_at c.in_ok-place.place c.self.inside.items.list.entries (sym c.in_ok-place.ensures.place) in
    rw (← c.self.view_is) (sym c.remove.ensures.pair ∙ (held_last c.in_ok-place.ensures.valid.apart l).0 ∙ sym (last_pair l).0)

pub returns-clause-entries : goal.returns-clause-entries
returns-clause-entries g c =
    let l = last_at c.in_ok-place.place c.self.inside.items.list.entries (sym c.in_ok-place.ensures.place) in let r = c.remove.ensures in
    let pairs = ap (λ es. pairs_of es) r.entries ∙ ap (λ es. pairs_of es) (held_last c.in_ok-place.ensures.valid.apart l).1 ∙ sym (last_pair l).1 in
    rw (← c.self.view_is) (λ j. linked_map (pairs j) (r.same.capacity j) (r.same.places j) (r.same.builder j))
