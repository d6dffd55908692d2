-- Runs of puts by weight in which each pair that is put weighs what its key does: by the weights of the keys they are the same.
use Rattle.std.proofs.Common.{◌≡◌, ℕ, suc, ◌+◌, ◌-◌, ◌≤◌, Bool, true, Some, List, [], ◌∷◌, refl, sym, ap, ◌∙◌, subst, arith, ltb, ltb-true}
use Rattle.std.proofs.lemmas.Bool.{ltb-false}
use Rattle.std.specs.Cmp.{IsEquivalence}
use Rattle.std.specs.List.{AllByRecursion, filter}
use Rattle.std.specs.Map.{keys_of, lookup_entry}
use Rattle.clru_model.specs.Entries.{without, size_of, fit, weighted_put}
use Rattle.clru_model.specs.Requests.{holds}
use Rattle.clru_model.specs.Runs.{IsRunOf, held_before}
use Rattle.clru_model.specs.SizedSchedule.{IsCompetitiveBySize, IsCompetitiveBySizeFromAnyStart}
use Rattle.clru_model.specs.Sizes.{SameWeights, hit_by_size, marks_by_size_after, missed_size}
use Rattle.clru_model.specs.Spans.{size_of_misses}
use Rattle.clru_model.proofs.Bound.{competitive_by_size, competitive_by_size_from_any_start}
use Rattle.clru_model.proofs.Spans.{missed_by_marks}
use Rattle.clru_model.specs.SizedRuns.{IsSizedPut, IsSizedPutRun, IsPutIfLight, PutsWeighAsKeys, SizedPutsHit, TouchesArePuts, LightPutsHit}
use Rattle.clru_model.specs.SizedRuns.{marks_where, marks_of_light_after, LightMarksAreOfOthers}
use Rattle.clru_model.proofs.Cases.{split}
use Rattle.clru_model.proofs.Fitting.{size_of-cons, sublist_fit, whole_is_too_long, too_long_fits}
use Rattle.clru_model.proofs.SizedRuns.{held_before_marks_by_size, held_before_marks_of_light}
use Rattle.clru_model.proofs.Sublists.{All-sublist, sublist_trans, sublist_remove_entry}

module _ {K V : Type 0} (eq : K → K → Bool) (weight : K → ℕ) (pair_weight : K → V → ℕ) where
  -- each pair weighs what its key does
  abbrev WeighAsKeys : List (K × V) → Type 0
  WeighAsKeys es = AllByRecursion (λ (e : K × V). pair_weight e.0 e.1 ≡ weight e.0) es

  abbrev key_weight : K → V → ℕ
  key_weight k v = weight k

  -- what fits is the same by the keys
  fit-by_key : (c : ℕ) (es : List (K × V)) → WeighAsKeys es → fit pair_weight c es ≡ fit key_weight c es
  unfolding fit
  fit-by_key c [] all = refl
  fit-by_key c (e ∷ es) all = rw (all.0, fit-by_key (c - (1 + weight e.0)) es all.1) refl

  -- of what a put leaves too each pair weighs what its key does
  WeighAsKeys_put : (c : ℕ) (x : K) (v : V) (es : List (K × V)) → pair_weight x v ≡ weight x → WeighAsKeys es
      → WeighAsKeys (weighted_put eq pair_weight c x v es)
  WeighAsKeys_put c x v es first all =
      let rest = without eq x es in
      let kept = sublist_fit pair_weight (c - 1 - pair_weight x v) rest in
      (first, All-sublist (λ (e : K × V). pair_weight e.0 e.1 ≡ weight e.0) (sublist_trans (sublist_remove_entry (eq x) es) kept) all)

  -- and it is the same by the keys
  weighted_put-by_key : (c : ℕ) (x : K) (v : V) (es : List (K × V)) → pair_weight x v ≡ weight x → WeighAsKeys es
      → weighted_put eq pair_weight c x v es ≡ weighted_put eq key_weight c x v es
  weighted_put-by_key c x v es first all =
      let less = All-sublist (λ (e : K × V). pair_weight e.0 e.1 ≡ weight e.0) (sublist_remove_entry (eq x) es) all in
      rw first (ap (λ l. (x, v) ∷ l) (fit-by_key (c - 1 - weight x) (without eq x es) less))

  -- so a put is one by the keys
  put_by_key : (c : ℕ) (x : K) (es next : List (K × V)) → WeighAsKeys es
      → ((key : K) (value : V) (rest : List (K × V)) → Some next ≡ Some ((key, value) ∷ rest) → pair_weight key value ≡ weight key)
      → IsSizedPut eq pair_weight c x es next → IsSizedPut eq key_weight c x es next × WeighAsKeys next
  put_by_key c x es next all puts p =
      let kept = fit pair_weight (c - 1 - pair_weight p.key p.value) (without eq p.key es) in
      let first = puts p.key p.value kept (ap Some p.entries) in (
        record {
          key = p.key;
          value = p.value;
          same = p.same;
          light = omega (arith, first, p.light);
          entries = p.entries ∙ weighted_put-by_key c p.key p.value es first all;
        },
        subst (λ l. WeighAsKeys l) (sym p.entries) (WeighAsKeys_put c p.key p.value es first all),
      )

  -- and so is a run of puts
  run_by_key : (c : ℕ) (es : List (K × V)) (later : List (List (K × V))) (rs : List K) → WeighAsKeys es
      → PutsWeighAsKeys weight pair_weight later → IsSizedPutRun eq pair_weight c (es ∷ later) rs
      → IsSizedPutRun eq key_weight c (es ∷ later) rs
  run_by_key c es later [] all puts run = run
  run_by_key c es [] (x ∷ rs) all puts run = absurd run.0
  run_by_key c es (next ∷ later) (x ∷ rs) all puts run =
      let put = put_by_key c x es next all (puts 0) run.0 in
      (put.0, run_by_key c next later rs put.1 (λ i. puts (suc i)) run.1)

  -- and one whose puts are refused where they are too heavy
  light_run_by_key : (c : ℕ) (es : List (K × V)) (later : List (List (K × V))) (rs : List K) → WeighAsKeys es
      → PutsWeighAsKeys weight pair_weight later → IsRunOf (IsPutIfLight eq weight pair_weight c) (es ∷ later) rs
      → IsRunOf (IsPutIfLight eq weight key_weight c) (es ∷ later) rs
  light_run_by_key c es later [] all puts run = run
  light_run_by_key c es [] (x ∷ rs) all puts run = absurd run.0
  light_run_by_key c es (next ∷ later) (x ∷ rs) all puts run = split (ltb (weight x) c)
      (λ t. let light = ltb-true (weight x) c t in
      let put = put_by_key c x es next all (puts 0) (run.0.light light) in
      (record { light = λ l. put.0; heavy = λ h. absurd (omega (arith, light, h)) }, light_run_by_key c next later rs put.1 (λ i. puts (suc i)) run.1))
      (λ f. let heavy = ltb-false (weight x) c f in
      let same = run.0.heavy heavy in (
        record { light = λ l. absurd (omega (arith, l, heavy)); heavy = λ h. same },
        light_run_by_key c next later rs (subst (λ l. WeighAsKeys l) (sym same) all) (λ i. puts (suc i)) run.1,
      ))

module _ {K V : Type 0} (eq : K → K → Bool) (pair_weight : K → V → ℕ) where
  -- a key that is held has an entry, beside which the others are less by its size
  pub held_entry : (x : K) (es : List (K × V)) → holds eq x (keys_of es) ≡ true → (e : K × V) × (lookup_entry (eq x) es ≡ Some e)
      × (eq x e.0 ≡ true) × (1 + pair_weight e.0 e.1 + size_of pair_weight (without eq x es) ≡ size_of pair_weight es)
  held_entry x [] h = cc
  held_entry x (e ∷ es) h =
      split (eq x e.0)
      (λ t. (e, rw t refl, t, rw t (sym (size_of-cons pair_weight e es))))
      (λ f. let (d, found, same, size) = held_entry x es (rw f at h) in
      (d, rw f found, same, rw f (omega (arith, size_of-cons pair_weight e (without eq x es), size_of-cons pair_weight e es, size))))

  -- keys that are the same have the same entry
  without_same : IsEquivalence eq → (x y : K) (es : List (K × V)) → eq x y ≡ true → without eq x es ≡ without eq y es
  without_same laws x y [] same = refl
  without_same laws x y (e ∷ es) same = rw (laws.congr x y e.0 same, without_same laws x y es same) refl

module _ {K : Type 0} (eq : K → K → Bool) where
  light_marks_after : (weight : K → ℕ) (c : ℕ) (past rs : List K)
      → marks_where (λ x. ltb (weight x) c) (marks_of_light_after eq weight c past rs) rs
      ≡ marks_by_size_after eq weight c past (filter (λ x. ltb (weight x) c) rs)
  light_marks_after weight c past [] = refl
  light_marks_after weight c past (x ∷ rs) = split (ltb (weight x) c)
      (λ t. rw (t, t) (ap (λ ms. hit_by_size eq weight c x past ∷ ms) (light_marks_after weight c (x ∷ past) rs)))
      (λ f. rw (f, f) (light_marks_after weight c past rs))

  pub light_marks_are_of_others : LightMarksAreOfOthers eq
  light_marks_are_of_others weight c rs = light_marks_after weight c [] rs

module _ {K : Type 0} (eq : K → K → Bool) (V : Type 0) where
  pub sized_puts_hit : IsEquivalence eq → SizedPutsHit eq V
  sized_puts_hit laws weight pair_weight c rs later same puts run =
      held_before_marks_by_size eq laws weight same (λ k (v : V). weight k) (λ k v. refl) c rs later
      (run_by_key eq weight pair_weight c [] later rs tt puts run)

  pub light_puts_hit : IsEquivalence eq → LightPutsHit eq V
  light_puts_hit laws weight pair_weight c rs later same puts run =
      held_before_marks_of_light eq laws weight same (λ k (v : V). weight k) (λ k v. refl) c rs later
      (light_run_by_key eq weight pair_weight c [] later rs tt puts run)

  pub touches_are_puts : IsEquivalence eq → TouchesArePuts eq V
  touches_are_puts laws pair_weight c x es small held =
      let (e, found, same, size) = held_entry eq pair_weight x es held in
      let rest = without eq x es in
      let room : size_of pair_weight rest ≤ c - 1 - pair_weight e.0 e.1 = omega (arith, size, small) in
      let all = too_long_fits pair_weight (c - 1 - pair_weight e.0 e.1) rest rest (whole_is_too_long pair_weight (c - 1 - pair_weight e.0 e.1) rest) room in
      record {
        key = e.0;
        value = e.1;
        same = same;
        light = omega (arith, size, small);
        entries = rw (found, ← without_same eq pair_weight laws x e.0 es same) (ap (λ l. e ∷ l) all);
      }

  module _ (laws : IsEquivalence eq) (weight : K → ℕ) (pair_weight : K → V → ℕ) (c : ℕ) (rs : List K) (later : List (List (K × V)))
      (same : SameWeights eq weight) (puts : PutsWeighAsKeys weight pair_weight later) (run : IsSizedPutRun eq pair_weight c ([] ∷ later) rs) where
    -- the size of the puts whose key is not held before them is what is missed
    not_held_size : size_of_misses weight (held_before eq ([] ∷ later) rs) rs ≡ missed_size eq weight c rs
    not_held_size = ap (λ ms. size_of_misses weight ms rs) (sized_puts_hit laws weight pair_weight c rs later same puts run)
        ∙ sym (missed_by_marks eq weight c [] rs)

    pub sized_puts_compete : IsCompetitiveBySize eq weight c rs (size_of_misses weight (held_before eq ([] ∷ later) rs) rs)
    sized_puts_compete = subst (IsCompetitiveBySize eq weight c rs) (sym not_held_size) (competitive_by_size eq laws weight same c rs)

    pub sized_puts_compete_from_any_start : IsCompetitiveBySizeFromAnyStart eq weight c rs (size_of_misses weight (held_before eq ([] ∷ later) rs) rs)
    sized_puts_compete_from_any_start =
        subst (IsCompetitiveBySizeFromAnyStart eq weight c rs) (sym not_held_size) (competitive_by_size_from_any_start eq laws weight same c rs)
