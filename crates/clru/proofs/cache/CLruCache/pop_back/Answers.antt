use Rattle.std.proofs.Common.{◌-◌, length, take, sym, ap, ◌∙◌, arith}
use Rattle.clru_model.specs.Entries.{weight_of}
use Rattle.clru_model.proofs.Ends.{no_last, split_last}
use Rattle.clru_model.proofs.Sublists.{sublist_take}
use Rattle.clru_model.proofs.Weights.{weight_of-push}
use Rattle.clru.proofs.Keeping.{IsCache-from, IsKept-sublist}
use Rattle.clru.proofs.cache.CLruCache.pop_back.Goals as goal

pub invariant_of-self : goal.invariant_of-self
invariant_of-self g c =
    let old = c.self.invariant in let es = c.self.inside.map.entries in let p = c.in_err-key.ensures in let none = no_last es p.pair in
    IsCache-from _ old p.entries (IsKept-sublist _ old.kept (sublist_take (length es - 1) es))
    (old.weighs ∙ ap (weight_of (g.W.WeightScale.weight c.self.inside.scale)) (none ∙ sym (ap (λ l. take (length l - 1) l) none)))

pub overflow_sub-self : goal.overflow_sub-self
overflow_sub-self g c =
    let w = g.W.WeightScale.weight c.self.inside.scale in let es = c.self.inside.map.entries in
    let last : g.row.K.Denot × g.row.V.Denot = (c.in_ok-key.key, c.in_ok-key.value) in
    omega (arith, ap (weight_of w) (split_last es last c.in_ok-key.ensures.pair), weight_of-push w (take (length es - 1) es) last, c.self.invariant.weighs, c.weight.ensures)

pub invariant_of-self-2 : goal.invariant_of-self-2
invariant_of-self-2 g c =
    let w = g.W.WeightScale.weight c.self.inside.scale in let old = c.self.invariant in let es = c.self.inside.map.entries in
    let last : g.row.K.Denot × g.row.V.Denot = (c.in_ok-key.key, c.in_ok-key.value) in let p = c.in_ok-key.ensures in
    IsCache-from _ old p.entries (IsKept-sublist _ old.kept (sublist_take (length es - 1) es))
    (omega (arith, ap (weight_of w) (split_last es last p.pair), weight_of-push w (take (length es - 1) es) last, old.weighs, c.weight.ensures))
