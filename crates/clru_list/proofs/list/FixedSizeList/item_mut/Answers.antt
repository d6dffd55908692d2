use Rattle.std.proofs.Common.{refl, sym, ◌∙◌}
use Rattle.clru_list.specs.PlaceList.{with_at}
use Rattle.clru_list.proofs.CursorSteps.{keys-with_at}
use Rattle.clru_list.proofs.NodeLemmas.{node_item}
use Rattle.clru_list.proofs.Soundness.{view-is}
use Rattle.clru_list.proofs.Steps.{place_below}
use Rattle.clru_list.proofs.Views.{held_item, seen_with, seen_item, sound-write_node}
use Rattle.clru_list.proofs.Pointing.{pointed-still}
use Rattle.clru_list.proofs.list.FixedSizeList.item_mut.Goals as goal

pub index_mut-requires : goal.index_mut-requires
index_mut-requires g c =
    let it = held_item _ _ _ _ _ c.self.invariant.0 _ c.self.view_is c.args.place c.requires in place_below _ _ _ _ _ c.self.invariant.0 c.args.place it.0 it.1

pub item_mut-requires : goal.item_mut-requires
item_mut-requires g c =
    let it = held_item _ _ _ _ _ c.self.invariant.0 _ c.self.view_is c.args.place c.requires in
    let below = place_below _ _ _ _ _ c.self.invariant.0 c.args.place it.0 it.1 in
    rw (sym (node_item c.self.inside.links c.args.place c.index_mut.result.now below c.index_mut.ensures.value) ∙ it.1) refl

pub invariant_of-self-lent : goal.invariant_of-self-lent
invariant_of-self-lent g c = λ w.
    let it = held_item _ _ _ _ _ c.self.invariant.0 _ c.self.view_is c.args.place c.requires in
    let new = sound-write_node c.self.inside.links _ _ _ c.self.invariant.0 c.args.place it.0 it.1 c.index_mut.result.now c.index_mut.ensures.value w in
    ((_, new), pointed-still _ _ _ _ _ _ _ _ _ _ _ _ _ c.self.invariant.0.1 new (keys-with_at c.args.place w c.self.invariant.0.0) c.self.invariant.1)

pub returns : goal.returns
returns g c =
    let it = held_item _ _ _ _ _ c.self.invariant.0 _ c.self.view_is c.args.place c.requires in
    let below = place_below _ _ _ _ _ c.self.invariant.0 c.args.place it.0 it.1 in (
      (
        refl,
        λ w. view-is _ _ _ _ _ _
            (sound-write_node c.self.inside.links _ _ _ c.self.invariant.0 c.args.place it.0 it.1 c.index_mut.result.now c.index_mut.ensures.value w)
            ∙ sym (seen_with _ _ _ _ _ c.self.invariant.0 _ c.self.view_is (with_at c.args.place w)),
      ),
      record {
        lends = tt;
        value = sym (seen_item _ _ _ _ _ c.self.invariant.0 _ c.self.view_is c.args.place)
            ∙ node_item c.self.inside.links c.args.place c.index_mut.result.now below c.index_mut.ensures.value ∙ c.item_mut.ensures.value;
      },
    )
