use Rattle.std.proofs.Common.{[], sym, ◌∙◌, subst}
use Rattle.clru_curve.specs.PositionPasses.{IsPositionPass}
use Rattle.clru_curve.proofs.Latests.{written_back}
use Rattle.clru_curve.proofs.IdlePassing.{sums_within, curve_distinct, curve_misses}
use Rattle.clru_curve.proofs.Timeless.{has_timeless}
use Rattle.clru_curve.proofs.position.PositionPass.into_curve.Goals as goal

pub misses_of-requires : goal.misses_of-requires
misses_of-requires g c =
    let eq = g.K.PartialEq.eq in let inv = c.self.invariant in
    record { within = sums_within eq inv.idle inv.past _ c.deref_mut.result.now [] [] inv.taken.taken c.deref_mut.ensures.value }

pub returns-clause-misses : goal.returns-clause-misses
returns-clause-misses g c idle past is =
    let eq = g.K.PartialEq.eq in let vec = c.self.inside.histogram in
    let to = c.from_misses.ensures ∙ written_back c.misses_of.new.histogram vec.items vec.len (c.misses_of.ensures.len ∙ c.deref_mut.ensures.len) in
    let taken = subst (IsPositionPass eq idle past) (sym c.self.view_is) is in
    curve_misses eq idle past _ c.deref_mut.result.now c.misses_of.new.histogram c.from_misses.result taken.taken c.deref_mut.ensures.value to
    c.misses_of.ensures.len c.misses_of.ensures.misses

pub returns-clause-timeless : goal.returns-clause-timeless
returns-clause-timeless g c idle past timeless is =
    has_timeless g.K.PartialEq.eq g.met.K.Eq.laws idle past timeless c.from_misses.result (returns-clause-misses g c idle past is)

pub returns-clause-distinct : goal.returns-clause-distinct
returns-clause-distinct g c idle past is =
    let eq = g.K.PartialEq.eq in let vec = c.self.inside.histogram in
    let to = c.from_misses.ensures ∙ written_back c.misses_of.new.histogram vec.items vec.len (c.misses_of.ensures.len ∙ c.deref_mut.ensures.len) in
    let taken = subst (IsPositionPass eq idle past) (sym c.self.view_is) is in
    curve_distinct eq idle past _ c.deref_mut.result.now c.misses_of.new.histogram c.from_misses.result taken.taken c.deref_mut.ensures.value to
    c.misses_of.ensures.len
