use Rattle.std.proofs.Common.{sym, ◌∙◌}
use Rattle.clru_list.proofs.Soundness.{view-is, valid_view}
use Rattle.clru_list.proofs.Steps.{place_below, prev_below, next_end, front_below, sound-moved}
use Rattle.clru_list.proofs.Views.{held_item, seen_front_stays, seen_to_front, seen_valid, sound-at}
use Rattle.clru_list.proofs.Pointing.{pointed-none}
use Rattle.clru_list.proofs.list.FixedSizeList.bring_front.Goals as goal

pub returns-then-front-place-clause-moved : goal.returns-then-front-place-clause-moved
returns-then-front-place-clause-moved g c = sym (seen_front_stays _ _ _ _ _ c.self.invariant.0 _ c.self.view_is c.args.place (sym c.front.ensures ∙ c.if-front-place.true))

pub returns-then-front-place-clause-valid : goal.returns-then-front-place-clause-valid
returns-then-front-place-clause-valid g c = seen_valid _ _ _ _ _ c.self.invariant.0 _ c.self.view_is

pub bring_front-requires-clause-place : goal.bring_front-requires-clause-place
bring_front-requires-clause-place g c =
    let it = held_item _ _ _ _ _ c.self.invariant.0 _ c.self.view_is c.args.place c.requires in place_below _ _ _ _ _ c.self.invariant.0 c.args.place it.0 it.1

pub bring_front-requires-clause-prev : goal.bring_front-requires-clause-prev
bring_front-requires-clause-prev g c =
    let it = held_item _ _ _ _ _ c.self.invariant.0 _ c.self.view_is c.args.place c.requires in
    prev_below _ _ _ _ _ c.self.invariant.0 c.args.place it.0 it.1 (λ e. c.if-front-place.false (c.front.ensures ∙ e))

pub bring_front-requires-clause-next : goal.bring_front-requires-clause-next
bring_front-requires-clause-next g c =
    let it = held_item _ _ _ _ _ c.self.invariant.0 _ c.self.view_is c.args.place c.requires in next_end _ _ _ _ _ c.self.invariant.0 c.args.place it.0 it.1

pub bring_front-requires-clause-front : goal.bring_front-requires-clause-front
bring_front-requires-clause-front g c =
    let it = held_item _ _ _ _ _ c.self.invariant.0 _ c.self.view_is c.args.place c.requires in front_below _ _ _ _ _ c.self.invariant.0 c.args.place it.0 it.1

abbrev pub invariant_of-self : goal.invariant_of-self
invariant_of-self g c =
    let it = held_item _ _ _ _ _ c.self.invariant.0 _ c.self.view_is c.args.place c.requires in (
      (
        _,
        sound-at _ _ _ _ _ _ _ _ c.bring_front.ensures.links c.bring_front.ensures.same_allotted
            (sound-moved _ _ _ _ _ c.self.invariant.0 c.args.place it.0 it.1 (λ e. c.if-front-place.false (c.front.ensures ∙ e))),
      ),
      pointed-none _ _ c.clear.ensures,
    )

pub returns-clause-moved : goal.returns-clause-moved
returns-clause-moved g c =
    let it = held_item _ _ _ _ _ c.self.invariant.0 _ c.self.view_is c.args.place c.requires in
    view-is _ _ _ _ _ _ (invariant_of-self g c).0.1 ∙ sym (seen_to_front _ _ _ _ _ c.self.invariant.0 _ c.self.view_is c.args.place it.0 it.1)

pub returns-clause-valid : goal.returns-clause-valid
returns-clause-valid g c = valid_view _ _ _ _ _ _ (invariant_of-self g c).0.1
