use Rattle.std.proofs.Common.{sym}
use Rattle.clru_linked_map.specs.LinkedMap.{pairs_of}
use Rattle.clru_linked_map.proofs.PlacedPairs.{found_item, no_value}
use Rattle.clru_linked_map.proofs.map.LinkedHashMap.get.Goals as goal

pub returns-in_err-place : goal.returns-in_err-place
returns-in_err-place g c =
    rw (c.from_residual.ensures, ← c.self.view_is)
    (sym (no_value g.Q.Equivalent.equivalent c.args.key (pairs_of c.self.inside.items.list.entries) c.in_err-place.ensures.absent))

pub returns : goal.returns
returns g c =
    let distinct = rw (← c.self.view_is) at c.requires.distinct in
    rw (← c.self.view_is) (sym (found_item g.Q.Equivalent.equivalent c.args.key g.met.K.Eq.laws (g.met.Q.Equivalent.respects_eq c.args.key) distinct
    c.in_ok-place.ensures.found c.item.result.now c.item.ensures.value).value)
