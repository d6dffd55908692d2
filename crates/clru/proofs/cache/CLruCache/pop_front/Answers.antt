use Rattle.std.proofs.Common.{drop, sym, ap, ◌∙◌, arith}
use Rattle.clru_model.specs.Entries.{weight_of}
use Rattle.clru_model.proofs.Weights.{weight_of-cons}
use Rattle.clru.proofs.Keeping.{IsCache-from, IsKept-sublist, no_first, split_first, sublist_past_first}
use Rattle.clru.proofs.cache.CLruCache.pop_front.Goals as goal

pub invariant_of-self : goal.invariant_of-self
invariant_of-self g c =
    let old = c.self.invariant in let es = c.self.inside.map.entries in let p = c.in_err-key.ensures in let none = no_first es p.pair in
    IsCache-from _ old p.entries (IsKept-sublist _ old.kept (sublist_past_first es))
    (old.weighs ∙ ap (weight_of (g.W.WeightScale.weight c.self.inside.scale)) (none ∙ sym (ap (drop 1) none)))

pub overflow_sub-self : goal.overflow_sub-self
overflow_sub-self g c =
    let w = g.W.WeightScale.weight c.self.inside.scale in let es = c.self.inside.map.entries in
    let first : g.row.K.Denot × g.row.V.Denot = (c.in_ok-key.key, c.in_ok-key.value) in
    omega (arith, ap (weight_of w) (split_first es first c.in_ok-key.ensures.pair), weight_of-cons w first (drop 1 es), c.self.invariant.weighs, c.weight.ensures)

pub invariant_of-self-2 : goal.invariant_of-self-2
invariant_of-self-2 g c =
    let w = g.W.WeightScale.weight c.self.inside.scale in let old = c.self.invariant in let es = c.self.inside.map.entries in
    let first : g.row.K.Denot × g.row.V.Denot = (c.in_ok-key.key, c.in_ok-key.value) in let p = c.in_ok-key.ensures in
    IsCache-from _ old p.entries (IsKept-sublist _ old.kept (sublist_past_first es))
    (omega (arith, ap (weight_of w) (split_first es first p.pair), weight_of-cons w first (drop 1 es), old.weighs, c.weight.ensures))
