use Rattle.std.proofs.Common.{Some, sym, ap, ◌∙◌, arith}
use Rattle.clru_model.specs.Entries.{weight_of}
use Rattle.clru_model.proofs.Finding.{held_at, held_is, missed_at, weight_of-held}
use Rattle.clru_model.proofs.Sublists.{sublist_remove_entry}
use Rattle.clru.proofs.Keeping.{IsCache-from, IsKept-sublist}
use Rattle.clru.proofs.cache.CLruCache.pop.Goals as goal

pub invariant_of-self : goal.invariant_of-self
invariant_of-self g c =
    let test = g.Q.Equivalent.equivalent c.args.key in let old = c.self.invariant in let t = c.in_err-stored.ensures in
    IsCache-from _ old t.entries (IsKept-sublist _ old.kept (sublist_remove_entry test c.self.inside.map.entries))
    (old.weighs ∙ ap (weight_of (g.W.WeightScale.weight c.self.inside.scale)) (sym (missed_at test t.pair).removed))

pub returns-in_err-stored-clause-value : goal.returns-in_err-stored-clause-value
returns-in_err-stored-clause-value g c =
    let m = missed_at (g.Q.Equivalent.equivalent c.args.key) c.in_err-stored.ensures.pair in rw (c.from_residual.ensures, ← c.self.view_is) (sym m.value)

pub overflow_sub-self : goal.overflow_sub-self
overflow_sub-self g c =
    let test = g.Q.Equivalent.equivalent c.args.key in let w = g.W.WeightScale.weight c.self.inside.scale in let found = c.in_ok-stored.ensures.pair in
    let h = held_at test found in let same = held_is test h found in
    omega (arith, weight_of-held test w h, ap (λ (x : g.row.K.Denot × g.row.V.Denot). w x.0 x.1) same, c.self.invariant.weighs, c.weight.ensures)

pub invariant_of-self-2 : goal.invariant_of-self-2
invariant_of-self-2 g c =
    let test = g.Q.Equivalent.equivalent c.args.key in let w = g.W.WeightScale.weight c.self.inside.scale in let t = c.in_ok-stored.ensures in
    let h = held_at test t.pair in let same = held_is test h t.pair in let old = c.self.invariant in
    IsCache-from _ old t.entries (IsKept-sublist _ old.kept (sublist_remove_entry test c.self.inside.map.entries))
    (omega (arith, weight_of-held test w h, ap (λ (x : g.row.K.Denot × g.row.V.Denot). w x.0 x.1) same, old.weighs, c.weight.ensures))

pub returns-clause-value : goal.returns-clause-value
returns-clause-value g c =
    let test = g.Q.Equivalent.equivalent c.args.key in let found = c.in_ok-stored.ensures.pair in
    let h = held_at test found in let same = held_is test h found in
    rw (← c.self.view_is) (ap (λ (x : g.row.K.Denot × g.row.V.Denot). Some x.1) same ∙ sym h.value)
