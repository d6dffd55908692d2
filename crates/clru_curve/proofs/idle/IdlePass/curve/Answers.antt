use Rattle.std.proofs.Common.{[], sym, ◌∙◌, subst}
use Rattle.clru_curve.specs.IdlePasses.{IsIdlePass}
use Rattle.clru_curve.proofs.Latests.{written_back}
use Rattle.clru_curve.proofs.IdlePassing.{sums_within, curve_distinct, curve_misses}
use Rattle.clru_curve.proofs.idle.IdlePass.curve.Goals as goal

pub misses_of-requires : goal.misses_of-requires
misses_of-requires g c =
    let eq = g.K.PartialEq.eq in
    let from = c.deref_mut.ensures.value ∙ c.in-Ok.ensures.items ∙ c.deref.ensures.value in
    record { within = sums_within eq c.self.inside.limit c.self.invariant.past _ c.deref_mut.result.now [] [] c.self.invariant.taken from }

pub returns-clause-misses : goal.returns-clause-misses
returns-clause-misses g c idle past is =
    let eq = g.K.PartialEq.eq in let vec = c.in-Ok.misses in
    let from = c.deref_mut.ensures.value ∙ c.in-Ok.ensures.items ∙ c.deref.ensures.value in
    let to = c.from_misses.ensures ∙ written_back c.misses_of.new.histogram vec.items vec.len (c.misses_of.ensures.len ∙ c.deref_mut.ensures.len) in
    curve_misses eq idle past _ c.deref_mut.result.now c.misses_of.new.histogram c.from_misses.result (subst (λ v. IsIdlePass eq idle past v) (sym c.self.view_is) is) from to
    c.misses_of.ensures.len c.misses_of.ensures.misses

pub returns-clause-distinct : goal.returns-clause-distinct
returns-clause-distinct g c idle past is =
    let eq = g.K.PartialEq.eq in let vec = c.in-Ok.misses in
    let from = c.deref_mut.ensures.value ∙ c.in-Ok.ensures.items ∙ c.deref.ensures.value in
    let to = c.from_misses.ensures ∙ written_back c.misses_of.new.histogram vec.items vec.len (c.misses_of.ensures.len ∙ c.deref_mut.ensures.len) in
    curve_distinct eq idle past _ c.deref_mut.result.now c.misses_of.new.histogram c.from_misses.result (subst (λ v. IsIdlePass eq idle past v) (sym c.self.view_is) is) from to
    c.misses_of.ensures.len
