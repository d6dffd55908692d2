use Rattle.std.proofs.Common.{rules, ◌≡◌, ◌+◌, ◌-◌, ◌<◌, Some, length, slice_get, [], ◌∷◌, arith, refl, ap, sym, ◌∙◌, length-append}
use Rattle.clru_model.specs.Entries.{weighted_drops}
use Rattle.clru.proofs.CallerLemmas.{handed_keeps, takes_each, length-weighted_drops, last_of-push}
use Rattle.clru_runs.proofs.perform.put_with_weight.Goals as goal

pub put_with_weight_handing_to-requires : goal.put_with_weight_handing_to-requires
put_with_weight_handing_to-requires g c = record {
  callable = λ light.
      let eq = g.K.PartialEq.eq in let w = g.W.WeightScale.weight c.args.cache.now.scale in let capacity = c.args.cache.now.capacity in let es = c.args.cache.now.entries in
      let few = length-weighted_drops eq w capacity c.args.key c.args.value es in
      takes_each _ (λ _ taken f. f.0.now.drop_count ≡ length taken) _
      (λ taken f e f' j k. let one_more = length-append taken (e ∷ []) in search (rules, arith))
      (weighted_drops eq w capacity c.args.key c.args.value es) refl
      (λ taken left f e is j. let whole = ap length is in let parts = length-append taken (e ∷ left) in
      let here : f.0.now.drop_count + 1 < 18446744073709551616 = omega (arith, whole, parts, few, j, c.len-len.ensures.len, c.len-len.type_inv) in search (rules, here));
}

pub returns-in-Ok : goal.returns-in-Ok
returns-in-Ok g c =
    let eq = g.K.PartialEq.eq in let w = g.W.WeightScale.weight c.args.cache.now.scale in
    let drops = weighted_drops eq w c.args.cache.now.capacity c.args.key c.args.value c.args.cache.now.entries in
    let number = handed_keeps _ (λ _ taken f. f.0.now.drop_count ≡ length taken) _
    (λ taken f e f' j k. let one_more = length-append taken (e ∷ []) in search (rules, arith)) drops _ refl c.in-Ok.ensures.handed_out in
    let last = handed_keeps _ (λ _ taken f. f.0.now.last ≡ slice_get taken (length taken - 1)) _
    (λ taken f e f' j k. let is : f'.0.now.last ≡ Some (e.0, e.1) = search rules in is ∙ sym (last_of-push taken e)) drops _ refl c.in-Ok.ensures.handed_out in
    let name = handed_keeps _ (λ start _ f. f.0.ghost_name ≡ start.0.ghost_name) _ (λ taken f e f' j k. search rules) drops _ refl c.in-Ok.ensures.handed_out in
    search (rules, number, last, name)
