use Rattle.std.proofs.Common.{rules, ◌≡◌, nat_eq, length, ◌+◌, ◌<◌, [], ◌∷◌, refl, arith, ap, length-append}
use Rattle.clru_model.specs.Entries.{weighted_drops}
use Rattle.clru.proofs.CallerLemmas.{handed_keeps, takes_each, length-weighted_drops}
use Rattle.clru_uses.specs.contracts.drops.fn.number_forgotten.put_with_weight_handing_to as closure
use Rattle.clru_uses.proofs.drops.number_forgotten.Goals as goal

pub put_with_weight_handing_to-requires : goal.put_with_weight_handing_to-requires
put_with_weight_handing_to-requires g c = record {
  callable = λ light.
      let w = g.W.WeightScale.weight c.args.sizes.now.scale in let capacity = c.args.sizes.now.capacity in let es = c.args.sizes.now.entries in
      let few = length-weighted_drops nat_eq w capacity c.args.page c.args.size es in
      takes_each _ (λ _ taken f. (closure.captures f).number ≡ length taken) _
      (λ taken f e f' j k. let one_more = length-append taken (e ∷ []) in search (rules, arith))
      (weighted_drops nat_eq w capacity c.args.page c.args.size es) refl
      (λ taken left f e is j. let whole = ap length is in let parts = length-append taken (e ∷ left) in
      let here : (closure.captures f).number + 1 < 18446744073709551616 = omega (arith, whole, parts, few, j, c.len.ensures.len, c.len.type_inv) in search (rules, here));
}

pub returns-in-Ok : goal.returns-in-Ok
returns-in-Ok g c =
    let w = g.W.WeightScale.weight c.args.sizes.now.scale in
    let counted = handed_keeps _ (λ start taken f. ((closure.captures f).number ≡ length taken) × (f.0.ghost_name ≡ start.0.ghost_name)) _
    (λ taken f e f' j k. let one_more = length-append taken (e ∷ []) in search (rules, arith))
    (weighted_drops nat_eq w c.args.sizes.now.capacity c.args.page c.args.size c.args.sizes.now.entries) _ (refl, refl) c.in-Ok.ensures.handed_out in
    let number = counted.0 in let name = counted.1 in
    search (rules, number, name)
