use Rattle.std.proofs.Common.{rules, ◌≡◌, ◌+◌, ◌<◌, nat_eq, length, [], ◌∷◌, Option, Some, None, IsSomeAnd, refl, ap, inl, inr, arith, length-append}
use Rattle.std.specs.Map.{lookup}
use Rattle.clru_model.specs.Entries.{weighted_drops}
use Rattle.clru_model.proofs.Cases.{split}
use Rattle.clru_through.specs.Given.{was_put}
use Rattle.clru.proofs.CallerLemmas.{handed_keeps, takes_each, length-weighted_drops}
use Rattle.clru_uses.specs.contracts.of_stores.listening.fn.forgotten_for.load_handing_to as closure
use Rattle.clru_uses.proofs.of_stores.listening.forgotten_for.Goals as goal

some_and : {V : Type 0} (o : Option V) {P Q : V → Type 0} → ((v : V) → P v → Q v) → IsSomeAnd o P → IsSomeAnd o Q
some_and None tells none = absurd none
some_and (Some v) tells some = tells v some

pub load_handing_to-requires : goal.load_handing_to-requires
load_handing_to-requires g c = record {
  callable = λ value may.
      let old = c.args.store.now.cache in let w = g.W.WeightScale.weight old.scale in
      let few = length-weighted_drops nat_eq w old.capacity c.args.page value old.entries in
      takes_each _ (λ _ taken f. (closure.captures f).number ≡ length taken) _
      (λ taken f e f' j k. let one_more = length-append taken (e ∷ []) in search (rules, arith))
      (weighted_drops nat_eq w old.capacity c.args.page value old.entries) refl
      (λ taken left f e is j. let whole = ap length is in let parts = length-append taken (e ∷ left) in
      let here : (closure.captures f).number + 1 < 18446744073709551616 = omega (arith, whole, parts, few, j, c.len.ensures.len, c.len.type_inv) in search (rules, here));
}

pub returns-in-Ok-clause-number : goal.returns-in-Ok-clause-number
returns-in-Ok-clause-number g c =
    let old = c.args.store.now.cache in let w = g.W.WeightScale.weight old.scale in
    split (was_put c.in-Ok.field-0)
    (λ put. inr (some_and (lookup (nat_eq c.args.page) c.load_handing_to.new.self.cache.entries)
    (λ value handed.
    let counted = handed_keeps _ (λ start taken f. ((closure.captures f).number ≡ length taken) × (f.0.ghost_name ≡ start.0.ghost_name)) _
    (λ taken f e f' j k. let one_more = length-append taken (e ∷ []) in search (rules, arith))
    (weighted_drops nat_eq w old.capacity c.args.page value old.entries) _ (refl, refl) handed in
    let number = counted.0 in let name = counted.1 in
    search (rules, number, name))
    (c.in-Ok.ensures.handed_out put)))
    (λ none. let same = c.in-Ok.ensures.not_called none in inl (search (rules, same)))
