use Rattle.std.proofs.Common.{refl, sym, ◌∙◌, arith}
use Rattle.clru_list.proofs.NodeLemmas.{node_item}
use Rattle.clru_list.proofs.Steps.{place_below}
use Rattle.clru_list.proofs.Views.{held_item, seen_item, seen_valid}
use Rattle.clru_list.proofs.list.FixedSizeList.item.Goals as goal

pub index-requires : goal.index-requires
index-requires g c =
    let it = held_item _ _ _ _ _ c.self.invariant.0 _ c.self.view_is c.args.place c.requires in
    omega (arith, place_below _ _ _ _ _ c.self.invariant.0 c.args.place it.0 it.1)

pub item-requires : goal.item-requires
item-requires g c =
    let it = held_item _ _ _ _ _ c.self.invariant.0 _ c.self.view_is c.args.place c.requires in
    let below = place_below _ _ _ _ _ c.self.invariant.0 c.args.place it.0 it.1 in
    rw (sym (node_item c.self.inside.links c.args.place c.index.result.now below c.index.ensures) ∙ it.1) refl

pub returns-clause-value : goal.returns-clause-value
returns-clause-value g c =
    let it = held_item _ _ _ _ _ c.self.invariant.0 _ c.self.view_is c.args.place c.requires in
    let below = place_below _ _ _ _ _ c.self.invariant.0 c.args.place it.0 it.1 in
    sym (seen_item _ _ _ _ _ c.self.invariant.0 _ c.self.view_is c.args.place)
    ∙ node_item c.self.inside.links c.args.place c.index.result.now below c.index.ensures ∙ c.item.ensures

pub returns-clause-valid : goal.returns-clause-valid
returns-clause-valid g c = seen_valid _ _ _ _ _ c.self.invariant.0 _ c.self.view_is
