use Rattle.std.proofs.Common.{◌≡◌, Some, None, refl, sym, ap, ◌∙◌, subst}
use Rattle.std.specs.Option.{option_copied_mut}
use Rattle.clru_list.specs.PlaceList.{item_at, IsApart}
use Rattle.clru_linked_map.proofs.AtIndex.{stands_at}
use Rattle.clru_linked_map.proofs.WrittenItems.{at_index}
use Rattle.clru_linked_map.proofs.map.LinkedHashMap.entry_at.Goals as goal

pub unreachable-requires-in_default-get_mut : goal.unreachable-requires-in_default-get_mut
unreachable-requires-in_default-get_mut g c =
    let x = c.self.inside.items in let p = c.in-Some.place in let same = c.place_at.ensures.same in
    let s = stands_at x.list.entries c.args.index p (subst (λ l. IsApart l.entries) same c.place_at.ensures.valid.apart) c.in-Some.ensures.place in
    let none : None ≡ Some s.item = ap option_copied_mut (sym c.in_default-get_mut.is) ∙ c.get_mut.ensures.value
    ∙ ap (λ l. item_at p l.entries) same ∙ s.held in cc

pub invariant_of-self-lent : goal.invariant_of-self-lent
invariant_of-self-lent g c = λ w.
    let x = c.self.inside.items in let p = c.in-Some.place in let same = c.place_at.ensures.same in
    let i = at_index x c.args.index p c.in-Some-get_mut.item.now (subst (λ l. IsApart l.entries) same c.place_at.ensures.valid.apart) c.in-Some.ensures.place
    (ap (λ l. item_at p l.entries) (sym same) ∙ sym c.in-Some-get_mut.ensures.value) in
    rw same ((i.written w).indexed c.self.invariant)

pub returns : goal.returns
returns g c =
    let x = c.self.inside.items in let p = c.in-Some.place in let same = c.place_at.ensures.same in
    let i = at_index x c.args.index p c.in-Some-get_mut.item.now (subst (λ l. IsApart l.entries) same c.place_at.ensures.valid.apart) c.in-Some.ensures.place
    (ap (λ l. item_at p l.entries) (sym same) ∙ sym c.in-Some-get_mut.ensures.value) in
    rw (← c.self.view_is, same) (
      (refl, λ w. (i.written w).map),
      record { lends = tt; entry = i.pair },
    )
