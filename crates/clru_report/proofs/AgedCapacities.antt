-- From the size of all keys on, capacities miss the same under an age limit: so the last one that a pass counts at has what misses there.
use Rattle.std.proofs.Common.{◌≡◌, ℕ, zero, suc, ◌+◌, ◌-◌, ◌^◌, ◌<◌, ◌≤◌, ◌⊎◌, inl, inr, Bool, true, false, cond, not, ◌&&◌, nat_lt, Option, Some, List, [], ◌∷◌, ◌++◌, get_or, length, map, reverse, append-nil, refl, sym, ap, ◌∙◌, arith}
use Rattle.std.proofs.lemmas.Bool.{and_parts, eqb-false, le-leb, ltb-false, ltb-true, lt-ltb}
use Rattle.std.proofs.lemmas.Bool.Decides.{nat_tests}
use Rattle.std.proofs.lemmas.List.{get_or-map}
use Rattle.std.specs.Cmp.{IsEquivalence}
use Rattle.std.specs.Int.NonZero.{non_zero_usize_get}
use Rattle.std.specs.List.{count_by, filter, range_with_len}
use Rattle.std.specs.Map.{keys_of}
use Rattle.std.specs.Prelude.{◌==◌}
use Rattle.clru_curve.proofs.AgedPassing.{misses_weightless}
use Rattle.clru_curve.specs.AgedPasses.{aged_misses_at}
use Rattle.clru_curve.specs.SizedAgedPasses.{aged_missed_size, aged_misses_by_size}
use Rattle.clru_model.proofs.Cases.{split}
use Rattle.clru_model.proofs.Distinct.{span_within}
use Rattle.clru_model.proofs.Marks.{reverse-cons-append}
use Rattle.clru_model.proofs.Spans.{total_weightless}
use Rattle.clru_model.proofs.Views.{map-reverse}
use Rattle.clru_model.specs.Ages.{aged_hit, aged_marks_after}
use Rattle.clru_model.specs.Requests.{distinct, holds, since}
use Rattle.clru_model.specs.Sizes.{SameWeights, hit_by_size, total}
use Rattle.clru_model.specs.Spans.{size_of_misses}
use Rattle.clru_text.specs.RoundNumbers.{round_number}
use Rattle.clru_text.specs.declared.options.Capacities.{Capacities}
use Rattle.clru_text.specs.declared.options.Capacities.TheVariants.{Usual, Each, Named, HitRatio, ByteHitRatio}
use Rattle.clru_report.specs.Capacities.{aged_capacities, usual}
use Rattle.clru_report.specs.PlainRows.{AreNumbersAt}

-- two capacities are the same, or both are at least n
abbrev pub AreAlikeFrom : (n c d : ℕ) → Type 0
AreAlikeFrom n c d = (c ≡ d) ⊎ ((n ≤ c) × (n ≤ d))

module _ {K : Type 0} (eq : K → K → Bool) (laws : IsEquivalence eq) (weight : K → ℕ) (same : SameWeights eq weight) where
  -- later requests take nothing from the size of all keys
  total_stays : (past rs : List (K × ℕ)) → total eq weight (keys_of past) ≤ total eq weight (keys_of (reverse rs ++ past))
  total_stays past [] = omega arith
  total_stays past (r ∷ rs) =
      let one : total eq weight (keys_of past) ≤ total eq weight (keys_of (r ∷ past)) =
      split (holds eq r.0 (keys_of past)) (λ t. rw t (omega arith)) (λ f. rw f (omega arith)) in
      omega (arith, one, total_stays (r ∷ past) rs, ap (λ l. total eq weight (keys_of l)) (reverse-cons-append (λ x y. true) r rs past))

  module _ (n c d : ℕ) (alike : AreAlikeFrom n c d) where
    hits_alike : (x : K) (past : List K) → total eq weight past ≤ n → hit_by_size eq weight c x past ≡ hit_by_size eq weight d x past
    hits_alike x past within = elim alike [
      | inl is ↦ rw is refl
      | inr far ↦ split (holds eq x past)
          (λ t. let span = span_within eq laws weight same x past t in
          let n : ℕ = 1 + weight x + total eq weight (since eq x past) in
          rw (t, le-leb n c (omega (arith, span, within, far.0)), le-leb n d (omega (arith, span, within, far.1))) refl)
          (λ f. rw f refl)
    ]

    module _ (idle age : Option ℕ) where
      marks_alike : (past fetches rs : List (K × ℕ)) → total eq weight (keys_of (reverse rs ++ past)) ≤ n
          → aged_marks_after eq (hit_by_size eq weight c) idle age past fetches rs
          ≡ aged_marks_after eq (hit_by_size eq weight d) idle age past fetches rs
      marks_alike past fetches [] within = refl
      marks_alike past fetches (r ∷ rs) within =
          let later : total eq weight (keys_of (reverse rs ++ r ∷ past)) ≤ n =
          omega (arith, within, ap (λ l. total eq weight (keys_of l)) (reverse-cons-append (λ x y. true) r rs past)) in
          let now = hits_alike r.0 (keys_of past) (omega (arith, within, total_stays past (r ∷ rs))) in
          let here : aged_hit eq (hit_by_size eq weight c) idle age r past fetches ≡ aged_hit eq (hit_by_size eq weight d) idle age r past fetches = rw now refl in
          split (aged_hit eq (hit_by_size eq weight d) idle age r past fetches)
          (λ t. rw (t, here ∙ t) (ap (λ ms. true ∷ ms) (marks_alike (r ∷ past) fetches rs later)))
          (λ f. rw (f, here ∙ f) (ap (λ ms. false ∷ ms) (marks_alike (r ∷ past) (r ∷ fetches) rs later)))

    module _ (idle : Option ℕ) (age : ℕ) (requests : List (K × ℕ)) (within : total eq weight (reverse (keys_of requests)) ≤ n) where
      all_alike : aged_marks_after eq (hit_by_size eq weight c) idle (Some age) [] [] requests
          ≡ aged_marks_after eq (hit_by_size eq weight d) idle (Some age) [] [] requests
      all_alike = marks_alike idle (Some age) [] [] requests (omega (
        arith,
        within,
        ap (λ l. total eq weight (keys_of l)) (append-nil (reverse requests)),
        ap (total eq weight) (map-reverse (λ (r : K × ℕ). r.0) requests),
      ))

      pub aged_misses_alike : aged_misses_by_size eq weight idle age c requests ≡ aged_misses_by_size eq weight idle age d requests
      aged_misses_alike = ap (λ ms. count_by not ms) all_alike

      pub aged_missed_alike : aged_missed_size eq weight idle age c requests ≡ aged_missed_size eq weight idle age d requests
      aged_missed_alike = ap (λ ms. size_of_misses weight ms (keys_of requests)) all_alike

-- by keys
same_by_keys : {K : Type 0} (eq : K → K → Bool) (idle : Option ℕ) (age : ℕ) (requests : List (K × ℕ)) (k : ℕ)
    → aged_misses_by_size eq (λ _. 0) idle age k requests ≡ aged_misses_at eq idle age k requests
same_by_keys eq idle age requests k = ap (λ (l : List ℕ). get_or l 0 0) (misses_weightless eq idle age requests (k ∷ []))

pub aged_keys_alike : {K : Type 0} (eq : K → K → Bool) (laws : IsEquivalence eq) (n c d : ℕ) → AreAlikeFrom n c d → (idle : Option ℕ) (age : ℕ)
    (requests : List (K × ℕ)) → distinct eq (reverse (keys_of requests)) ≤ n → aged_misses_at eq idle age c requests ≡ aged_misses_at eq idle age d requests
aged_keys_alike eq laws n c d alike idle age requests within =
    sym (same_by_keys eq idle age requests c)
    ∙ aged_misses_alike eq laws (λ _. 0) (λ x y t. refl) n c d alike idle age requests
    (omega (arith, within, total_weightless eq (λ _. 0) (λ _. refl) (reverse (keys_of requests))))
    ∙ same_by_keys eq idle age requests d

-- each number is greater than the one before, of which the first is given
abbrev is_ascending : ℕ → List ℕ → Bool
is_ascending x [] = true
is_ascending x (y ∷ ys) = nat_lt x y && is_ascending y ys

-- the numbers below n, and n
abbrev below_and : ℕ → List ℕ → List ℕ
below_and n xs = filter (λ c. nat_lt c n) xs ++ cond (n == 0) [] (n ∷ [])

-- of two such lists of one in order, for n and for no less, the second one has what the first one has, or no less than n
module _ (n most : ℕ) (less : n ≤ most) where
  none_below : (x : ℕ) (xs : List ℕ) → is_ascending x xs ≡ true → n ≤ x → filter (λ c. nat_lt c n) xs ≡ []
  none_below x [] up high = refl
  none_below x (y ∷ ys) up high =
      let parts = and_parts (nat_lt x y) (is_ascending y ys) up in let next = ltb-true x y parts.0 in
      let not_less : nat_lt y n ≡ false = grind (arith, nat_tests) in
      rw not_less (none_below y ys parts.1 (omega (arith, next, high)))

  first_high : 0 < n → (x : ℕ) (xs : List ℕ) → is_ascending x xs ≡ true → n ≤ x
      → (0 < length (below_and most xs)) × (n ≤ get_or (below_and most xs) 0 0)
  first_high some x [] up high =
      let no_zero : (most == 0) ≡ false = grind (arith, nat_tests) in rw no_zero (omega arith, less)
  first_high some x (y ∷ ys) up high =
      let parts = and_parts (nat_lt x y) (is_ascending y ys) up in let next = ltb-true x y parts.0 in
      let above : n ≤ y = omega (arith, next, high) in
      split (nat_lt y most)
      (λ t. rw t (omega arith, above))
      (λ f. rw f (first_high some y ys parts.1 above))

  alike_at : (x : ℕ) (xs : List ℕ) → is_ascending x xs ≡ true → (i : ℕ) → i < length (below_and n xs)
      → (i < length (below_and most xs)) × AreAlikeFrom n (get_or (below_and most xs) i 0) (get_or (below_and n xs) i 0)
  alike_at x [] up i inside = split (n == 0)
      (λ t. absurd (omega (arith, rw t at inside)))
      (λ f. let some : 0 < n = omega (arith, eqb-false n 0 f) in
      let no_zero : (most == 0) ≡ false = grind (arith, nat_tests) in
      let first : i ≡ 0 = omega (arith, rw f at inside) in
      rw (first, f, no_zero) (omega arith, inr (less, omega arith)))
  alike_at x (y ∷ ys) up i inside =
      let parts = and_parts (nat_lt x y) (is_ascending y ys) up in
      split (nat_lt y n)
      (λ t. let low = ltb-true y n t in
      let lower : nat_lt y most ≡ true = lt-ltb y most (omega (arith, low, less)) in
      rw (t, lower) (next y ys (alike_at y ys parts.1) i (rw t at inside)))
      (λ f. let above = ltb-false y n f in
      let none = none_below y ys parts.1 above in
      split (n == 0)
      (λ z. absurd (omega (arith, rw (f, none, z) at inside)))
      (λ z. let some : 0 < n = omega (arith, eqb-false n 0 z) in
      let first : i ≡ 0 = omega (arith, rw (f, none, z) at inside) in
      let high = first_at some y ys parts.1 above in
      rw (first, f, none, z) (high.0, inr (high.1, omega arith))))
    where
      next : (y : ℕ) (ys : List ℕ)
          → ((i : ℕ) → i < length (below_and n ys)
          → (i < length (below_and most ys)) × AreAlikeFrom n (get_or (below_and most ys) i 0) (get_or (below_and n ys) i 0))
          → (i : ℕ) → i < length (y ∷ below_and n ys) → (i < length (y ∷ below_and most ys)) × AreAlikeFrom n (get_or (y ∷ below_and most ys) i 0) (get_or (y ∷ below_and n ys) i 0)
      next y ys later zero inside = (omega arith, inl refl)
      next y ys later (suc i) inside = let at = later i (omega (arith, inside)) in (omega (arith, at.0), at.1)

      first_at : 0 < n → (y : ℕ) (ys : List ℕ) → is_ascending y ys ≡ true → n ≤ y
          → (0 < length (below_and most (y ∷ ys))) × (n ≤ get_or (below_and most (y ∷ ys)) 0 0)
      first_at some y ys up high = split (nat_lt y most)
          (λ t. rw t (omega arith, high))
          (λ f. rw f (first_high some y ys up high))

rounds_ascend : is_ascending 0 (map round_number (range_with_len 0 60)) ≡ true
rounds_ascend = refl

-- a number that is the same from n on has at the capacities of a table what is counted at all
pub numbers_at : {A : Type 0} (capacities : Capacities A) (n : ℕ) → n ≤ 2 ^ 64 - 1 → (m : ℕ → ℕ)
    → ((c d : ℕ) → AreAlikeFrom n c d → m c ≡ m d) → (numbers : List ℕ) → numbers ≡ map m (aged_capacities capacities (2 ^ 64 - 1))
    → AreNumbersAt m (aged_capacities capacities n) numbers
numbers_at Usual n few m alike numbers are i inside =
    let there = alike_at n (2 ^ 64 - 1) few 0 (map round_number (range_with_len 0 60)) rounds_ascend i inside in
    ap (λ ns. get_or ns i 0) are ∙ get_or-map m (usual (2 ^ 64 - 1)) i 0 0 there.0 ∙ alike _ _ there.1
numbers_at Each n few m alike numbers are i inside = absurd (omega (arith, inside))
numbers_at (Named named) n few m alike numbers are i inside =
    ap (λ ns. get_or ns i 0) are ∙ get_or-map m (map non_zero_usize_get named.items) i 0 0 inside
numbers_at (HitRatio r) n few m alike numbers are i inside = absurd (omega (arith, inside))
numbers_at (ByteHitRatio r) n few m alike numbers are i inside = absurd (omega (arith, inside))
