use Rattle.std.proofs.Common.{sym, ◌∙◌}
use Rattle.clru_list.proofs.Soundness.{view-is, valid_view}
use Rattle.clru_list.proofs.Steps.{place_below, prev_end, next_below, back_end, sound-moved_back}
use Rattle.clru_list.proofs.Views.{held_item, seen_back_stays, seen_to_back, seen_valid, sound-at}
use Rattle.clru_list.proofs.Pointing.{pointed-none}
use Rattle.clru_list.proofs.list.FixedSizeList.move_back.Goals as goal

pub returns-then-back-place-clause-moved : goal.returns-then-back-place-clause-moved
returns-then-back-place-clause-moved g c =
    let it = held_item _ _ _ _ _ c.self.invariant.0 _ c.self.view_is c.args.place c.requires in
    sym (seen_back_stays _ _ _ _ _ c.self.invariant.0 _ c.self.view_is c.args.place it.0 it.1 (sym c.back.ensures ∙ c.if-back-place.true))

pub returns-then-back-place-clause-valid : goal.returns-then-back-place-clause-valid
returns-then-back-place-clause-valid g c = seen_valid _ _ _ _ _ c.self.invariant.0 _ c.self.view_is

pub bring_back-requires-clause-place : goal.bring_back-requires-clause-place
bring_back-requires-clause-place g c =
    let it = held_item _ _ _ _ _ c.self.invariant.0 _ c.self.view_is c.args.place c.requires in place_below _ _ _ _ _ c.self.invariant.0 c.args.place it.0 it.1

pub bring_back-requires-clause-prev : goal.bring_back-requires-clause-prev
bring_back-requires-clause-prev g c =
    let it = held_item _ _ _ _ _ c.self.invariant.0 _ c.self.view_is c.args.place c.requires in prev_end _ _ _ _ _ c.self.invariant.0 c.args.place it.0 it.1

pub bring_back-requires-clause-next : goal.bring_back-requires-clause-next
bring_back-requires-clause-next g c =
    let it = held_item _ _ _ _ _ c.self.invariant.0 _ c.self.view_is c.args.place c.requires in
    next_below _ _ _ _ _ c.self.invariant.0 c.args.place it.0 it.1 (λ e. c.if-back-place.false (c.back.ensures ∙ e))

pub bring_back-requires-clause-back : goal.bring_back-requires-clause-back
bring_back-requires-clause-back g c = back_end _ _ _ _ _ c.self.invariant.0

abbrev pub invariant_of-self : goal.invariant_of-self
invariant_of-self g c =
    let it = held_item _ _ _ _ _ c.self.invariant.0 _ c.self.view_is c.args.place c.requires in (
      (
        _,
        sound-at _ _ _ _ _ _ _ _ c.bring_back.ensures.links c.bring_back.ensures.same_allotted
            (sound-moved_back _ _ _ _ _ c.self.invariant.0 c.args.place it.0 it.1 (λ e. c.if-back-place.false (c.back.ensures ∙ e))),
      ),
      pointed-none _ _ c.clear.ensures,
    )

pub returns-clause-moved : goal.returns-clause-moved
returns-clause-moved g c =
    let it = held_item _ _ _ _ _ c.self.invariant.0 _ c.self.view_is c.args.place c.requires in
    view-is _ _ _ _ _ _ (invariant_of-self g c).0.1 ∙ sym (seen_to_back _ _ _ _ _ c.self.invariant.0 _ c.self.view_is c.args.place it.0 it.1)

pub returns-clause-valid : goal.returns-clause-valid
returns-clause-valid g c = valid_view _ _ _ _ _ _ (invariant_of-self g c).0.1
