use Rattle.std.proofs.Common.{None, refl, sym, ap, ◌∙◌, subst, arith}
use Rattle.clru_list.specs.Links.{LinkMap, links_of, unlinked, released, IsEnd}
use Rattle.clru_list.specs.PlaceList.{with_entries, without}
use Rattle.clru_list.proofs.EntryLists.{without-none}
use Rattle.clru_list.proofs.Puts.{set_item-same}
use Rattle.clru_list.proofs.Soundness.{view-is, valid_view}
use Rattle.clru_list.proofs.Steps.{place_below, size_room, prev_end, next_end, free_end, some_held, sound-remove}
use Rattle.clru_list.proofs.Views.{seen, seen_item, seen_with, sound-at}
use Rattle.clru_list.proofs.Pointing.{pointed-none, pointed-still}
use Rattle.clru_list.proofs.list.FixedSizeList.remove.Goals as goal

abbrev pub invariant_of-self : goal.invariant_of-self
invariant_of-self g c =
    let e = c.in_err-item.ensures in
    let new = sound-at _ _ _ _ _ _ _ _ (e.links ∙ set_item-same (links_of c.self.inside.links) c.args.place None (sym e.value)) e.same_allotted c.self.invariant.0.1 in
    ((c.self.invariant.0.0, new), pointed-still _ _ _ _ _ _ _ _ _ _ _ _ _ c.self.invariant.0.1 new refl c.self.invariant.1)

pub returns-in_err-item-clause-value : goal.returns-in_err-item-clause-value
returns-in_err-item-clause-value g c = c.from_residual.ensures ∙ c.in_err-item.ensures.value ∙ seen_item _ _ _ _ _ c.self.invariant.0 _ c.self.view_is c.args.place

pub returns-in_err-item-clause-entries : goal.returns-in_err-item-clause-entries
returns-in_err-item-clause-entries g c =
    let none = sym (seen_item _ _ _ _ _ c.self.invariant.0 _ c.self.view_is c.args.place) ∙ sym c.in_err-item.ensures.value in
    view-is _ _ _ _ _ _ (invariant_of-self g c).0.1 ∙ sym (seen _ _ _ _ _ c.self.invariant.0 _ c.self.view_is)
    ∙ sym (ap (with_entries c.args.self.now) (without-none c.args.place c.args.self.now.entries none))

pub returns-in_err-item-clause-valid : goal.returns-in_err-item-clause-valid
returns-in_err-item-clause-valid g c = valid_view _ _ _ _ _ _ (invariant_of-self g c).0.1

pub unlink-requires-clause-prev : goal.unlink-requires-clause-prev
unlink-requires-clause-prev g c =
    let P : LinkMap g.row.T.Denot → Type 0 = λ l. IsEnd l (l.prev c.args.place) in
    subst P (sym c.in_ok-item.ensures.links) (prev_end _ _ _ _ _ c.self.invariant.0 c.args.place c.in_ok-item.item (sym c.in_ok-item.ensures.value))

pub unlink-requires-clause-next : goal.unlink-requires-clause-next
unlink-requires-clause-next g c =
    let P : LinkMap g.row.T.Denot → Type 0 = λ l. IsEnd l (l.next c.args.place) in
    subst P (sym c.in_ok-item.ensures.links) (next_end _ _ _ _ _ c.self.invariant.0 c.args.place c.in_ok-item.item (sym c.in_ok-item.ensures.value))

pub unlink-requires-clause-place : goal.unlink-requires-clause-place
unlink-requires-clause-place g c =
    let e = c.in_ok-item.ensures in
    omega (arith, place_below _ _ _ _ _ c.self.invariant.0 c.args.place c.in_ok-item.item (sym e.value), ap (λ l. l.size) e.links)

pub unlink-requires-clause-allotted : goal.unlink-requires-clause-allotted
unlink-requires-clause-allotted g c =
    let e = c.in_ok-item.ensures in omega (arith, size_room _ _ _ _ _ c.self.invariant.0, e.same_allotted, ap (λ l. l.size) e.links)

pub release-requires-clause-place : goal.release-requires-clause-place
release-requires-clause-place g c =
    let e = c.in_ok-item.ensures in
    let below = place_below _ _ _ _ _ c.self.invariant.0 c.args.place c.in_ok-item.item (sym e.value) in
    omega (arith, below, ap (λ l. l.size) e.links, ap (λ l. l.size) c.unlink.ensures.links)

pub release-requires-clause-allotted : goal.release-requires-clause-allotted
release-requires-clause-allotted g c =
    let e = c.in_ok-item.ensures in let u = c.unlink.ensures in
    omega (arith, size_room _ _ _ _ _ c.self.invariant.0, e.same_allotted, u.same_allotted, ap (λ l. l.size) e.links, ap (λ l. l.size) u.links)

pub release-requires-clause-end : goal.release-requires-clause-end
release-requires-clause-end g c =
    let P : LinkMap g.row.T.Denot → Type 0 = λ l. IsEnd l l.free in
    subst P (sym (c.unlink.ensures.links ∙ ap (λ l. unlinked l c.args.place) c.in_ok-item.ensures.links)) (free_end _ _ _ _ _ c.self.invariant.0)

pub overflow_sub-self : goal.overflow_sub-self
overflow_sub-self g c = some_held _ _ _ _ _ c.self.invariant.0 c.args.place c.in_ok-item.item (sym c.in_ok-item.ensures.value)

abbrev pub invariant_of-self-2 : goal.invariant_of-self-2
invariant_of-self-2 g c =
    let p = c.args.place in let e = c.in_ok-item.ensures in (
      (
        _,
        sound-at _ _ _ _ _ _ _ _ (c.release.ensures.links ∙ ap (λ l. released l p) (c.unlink.ensures.links ∙ ap (λ l. unlinked l p) e.links))
            (c.release.ensures.same_allotted ∙ c.unlink.ensures.same_allotted ∙ e.same_allotted) (sound-remove _ _ _ _ _ c.self.invariant.0 p c.in_ok-item.item (sym e.value)),
      ),
      pointed-none _ _ c.clear.ensures,
    )

pub returns-clause-value : goal.returns-clause-value
returns-clause-value g c = cc (c.in_ok-item.ensures.value, seen_item _ _ _ _ _ c.self.invariant.0 _ c.self.view_is c.args.place)

pub returns-clause-entries : goal.returns-clause-entries
returns-clause-entries g c = cc (view-is _ _ _ _ _ _ (invariant_of-self-2 g c).0.1, seen_with _ _ _ _ _ c.self.invariant.0 _ c.self.view_is (without c.args.place))

pub returns-clause-valid : goal.returns-clause-valid
returns-clause-valid g c = valid_view _ _ _ _ _ _ (invariant_of-self-2 g c).0.1
