use Rattle.std.proofs.Common.{◌+◌, ap, ◌∙◌, arith}
use Rattle.clru_linked_map.specs.BucketList.{place_numbered}
use Rattle.clru_linked_map.proofs.Numbers.{numbered, made_place, made_tag, made_low}
use Rattle.clru_linked_map.proofs.hash_index.HashIndex.number_of.Goals as goal

pub overflow_add-result : goal.overflow_add-result
overflow_add-result g c =
    let below = rw (← c.self.view_is) at c.requires in omega (arith, below, c.self.invariant.countable)

pub returns : goal.returns
returns g c =
    let s = c.self.inside in let below = rw (← c.self.view_is) at c.requires in let shaped = c.self.invariant.shaped in
    let p = c.args.place in
    let place = ap place_numbered (made_place s.mask s.tags shaped (p + 1) c.args.hash (omega (arith, below))) ∙ numbered p in
    let tag = made_tag s.mask s.tags shaped (p + 1) c.args.hash (omega (arith, below)) in
    let low = made_low s.mask s.tags shaped (p + 1) c.args.hash (omega (arith, below)) in
    record { place = rw (← c.self.view_is) place; tag = rw (← c.self.view_is) tag; ends = rw (← c.self.view_is) low }
