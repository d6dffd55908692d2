use Rattle.std.proofs.Common.{arith, ◌∷◌, ◌++◌, [], sym, ap, ◌∙◌, subst}
use Rattle.clru_list.specs.Places.{nowhere}
use Rattle.clru_list.specs.Links.{links_of, linked, IsEnd}
use Rattle.clru_list.proofs.Soundness.{walk-is, valid_view}
use Rattle.clru_list.proofs.Steps.{free_end, free_none, free_room, spot_below, occupied_room, occupied_back, sound-push_back}
use Rattle.clru_list.proofs.Views.{seen_entries, has_room, sound-at}
use Rattle.clru_list.proofs.Pointing.{pointed-none}
use Rattle.clru_list.proofs.list.FixedSizeList.push_back.Goals as goal

pub occupy-place-requires-clause-end : goal.occupy-place-requires-clause-end
occupy-place-requires-clause-end g c = free_end _ _ _ _ _ c.self.invariant.0

pub occupy-place-requires-clause-free : goal.occupy-place-requires-clause-free
occupy-place-requires-clause-free g c = free_none _ _ _ _ _ c.self.invariant.0

pub occupy-place-requires-clause-allotted : goal.occupy-place-requires-clause-allotted
occupy-place-requires-clause-allotted g c =
    let room = has_room _ _ _ _ _ c.self.invariant.0 _ c.self.view_is (c.in_ok-item.ensures.room, c.in_ok-item.ensures.below) in
    free_room _ _ _ _ _ c.self.invariant.0 room.0

pub link-requires-clause-place : goal.link-requires-clause-place
link-requires-clause-place g c =
    let room = has_room _ _ _ _ _ c.self.invariant.0 _ c.self.view_is (c.in_ok-item.ensures.room, c.in_ok-item.ensures.below) in
    let e = c.occupy-place.ensures in spot_below _ _ _ _ _ c.self.invariant.0 c.in_ok-item.item room.0 e.links e.place

pub link-requires-clause-prev : goal.link-requires-clause-prev
link-requires-clause-prev g c =
    let room = has_room _ _ _ _ _ c.self.invariant.0 _ c.self.view_is (c.in_ok-item.ensures.room, c.in_ok-item.ensures.below) in
    subst (λ k. IsEnd (links_of c.occupy-place.new.self) k) (sym c.back-back.ensures)
    (occupied_back _ _ _ _ _ c.self.invariant.0 c.in_ok-item.item room.0 c.occupy-place.ensures.links)

pub link-requires-clause-allotted : goal.link-requires-clause-allotted
link-requires-clause-allotted g c =
    let room = has_room _ _ _ _ _ c.self.invariant.0 _ c.self.view_is (c.in_ok-item.ensures.room, c.in_ok-item.ensures.below) in
    let e = c.occupy-place.ensures in omega (arith, occupied_room _ _ _ _ _ c.self.invariant.0 c.in_ok-item.item room.0 e.links, e.same_allotted)

abbrev pub invariant_of-self : goal.invariant_of-self
invariant_of-self g c =
    let room = has_room _ _ _ _ _ c.self.invariant.0 _ c.self.view_is (c.in_ok-item.ensures.room, c.in_ok-item.ensures.below) in
    let e = c.occupy-place.ensures in (
      (
        _,
        sound-at _ _ _ _ _ _ _ _ (c.link.ensures.links ∙ (λ i. linked (e.links i) ((c.back-back.ensures ∙ ap (λ l. l.prev nowhere) e.links) i) (e.place i) nowhere)) (c.link.ensures.same_allotted ∙ e.same_allotted)
            (sound-push_back _ _ _ _ _ c.self.invariant.0 c.in_ok-item.item room.0 room.1),
      ),
      pointed-none _ _ c.clear.ensures,
    )

pub returns-clause-entries : goal.returns-clause-entries
returns-clause-entries g c =
    let same = sym (seen_entries _ _ _ _ _ c.self.invariant.0 _ c.self.view_is) ∙ c.in_ok-item.ensures.entries in
    walk-is _ _ _ _ _ _ (invariant_of-self g c).0.1 ∙ (λ i. same i ++ (sym c.occupy-place.ensures.place i, c.in_ok-item.ensures.item i) ∷ [])

pub returns-clause-valid : goal.returns-clause-valid
returns-clause-valid g c = valid_view _ _ _ _ _ _ (invariant_of-self g c).0.1
