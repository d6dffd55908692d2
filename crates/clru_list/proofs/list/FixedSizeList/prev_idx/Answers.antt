use Rattle.std.proofs.Common.{None, sym, ap, ◌∙◌}
use Rattle.clru_list.specs.Links.{place_of}
use Rattle.clru_list.specs.PlaceList.{place_before}
use Rattle.clru_list.proofs.Steps.{place_below, prev_place}
use Rattle.clru_list.proofs.Views.{seen_item, seen_entries, place_before-none}
use Rattle.clru_list.proofs.list.FixedSizeList.prev_idx.Goals as goal

pub returns-in_err-get-clause-place : goal.returns-in_err-get-clause-place
returns-in_err-get-clause-place g c = c.from_residual.ensures ∙ sym (place_before-none None c.args.place c.args.self.now.entries (sym c.in_err-get.ensures.value))

pub prev-requires : goal.prev-requires
prev-requires g c =
    place_below _ _ _ _ _ c.self.invariant.0 c.args.place _ (seen_item _ _ _ _ _ c.self.invariant.0 _ c.self.view_is c.args.place ∙ sym c.in_ok-get.ensures.value)

pub returns-clause-place : goal.returns-clause-place
returns-clause-place g c =
    let held = seen_item _ _ _ _ _ c.self.invariant.0 _ c.self.view_is c.args.place ∙ sym c.in_ok-get.ensures.value in
    cc (
      c.some_place.ensures,
      ap place_of c.prev.ensures,
      prev_place _ _ _ _ _ c.self.invariant.0 c.args.place _ held,
      ap (place_before c.args.place) (seen_entries _ _ _ _ _ c.self.invariant.0 _ c.self.view_is),
    )
