-- What is known of the requests that were looked up, and what a pass holds, after one more.
use Rattle.std.proofs.Common.{◌≡◌, ℕ, zero, suc, ◌+◌, ◌-◌, ◌^◌, ◌<◌, ◌≤◌, ◌↔◌, Bool, true, false, List, [], ◌∷◌, ◌++◌, length, get_or, set, drop, take, reverse, slice_get, Option, None, Some, IfSome, inl, inr, refl, sym, ap, ◌∙◌, subst, arith}
use Rattle.std.proofs.Math.Seq.{drop-cons}
use Rattle.std.proofs.lemmas.Bool.{cases_lt}
use Rattle.std.proofs.lemmas.List.{get_or-set_other, get_or-set_same, reverse-append, take-append-drop, take_more}
use Rattle.std.proofs.lemmas.List.Sums.{sum_by-cons, sum_by_push}
use Rattle.std.proofs.lemmas.Option.{get_or_from_slice_get, slice_get_within}
use Rattle.std.specs.Cmp.{IsEquivalence}
use Rattle.std.specs.List.{sum_by}
use Rattle.std.specs.Map.{lookup, set_value}
use Rattle.clru_linked_map.specs.KeyTables.{with_key}
use Rattle.clru_linked_map.proofs.KeyTables.{length-with_key, lookup-with_key}
use Rattle.clru_model.proofs.LatestRequests.{latest_more}
use Rattle.clru_model.specs.Requests.{IsLatestOf, distinct}
use Rattle.clru_curve.specs.declared.numbered.Numbered.{Numbered}
use Rattle.clru_curve.specs.declared.ahead.Ahead.{Ahead}
use Rattle.clru_curve.specs.declared.sized.error.SizedRequestError.{SizedRequestError}
use Rattle.clru_curve.specs.Ahead.{ArePlaced, AreLatest, HasMoved, HaveWeights, HoldsLatest, nothing, up_to_some}
use Rattle.clru_curve.specs.LatestSizes.{IsLiveAt, live_from, total_from}
use Rattle.clru_curve.specs.Rising.{has_value}
use Rattle.clru_curve.specs.SizedCurves.{size_of_all}
use Rattle.clru_curve.specs.SizedPasses.{IsFirstRefused, IsTooLarge, key_of}
use Rattle.clru_curve.specs.SizedPositionPasses.{CountedBySize, IsSizedPositionPass}
use Rattle.clru_curve.specs.Tree.{up_to}
use Rattle.clru_curve.proofs.Ranks.{IsRanked-none, distinct_measures, same_some}
use Rattle.clru_curve.proofs.SizedPassing.{ranked_again, ranked_new}
use Rattle.clru_curve.proofs.UpTo.{up_by-le}

-- what stands at an index
pub some_there : {X : Type 0} (xs : List X) (i : ℕ) → i < length xs → (x : X) × (slice_get xs i ≡ Some x)
some_there [] i inside = absurd (omega (arith, inside))
some_there (x ∷ xs) zero inside = (x, refl)
some_there (x ∷ xs) (suc i) inside = some_there xs i (omega (arith, inside))

-- the first elements measure no more than more of them
pub sum_within : {X : Type 0} (f : X → ℕ) (xs : List X) (i j : ℕ) → i ≤ j → sum_by f (take i xs) ≤ sum_by f (take j xs)
sum_within f xs zero j le = omega arith
sum_within f xs (suc i) zero le = absurd (omega (arith, le))
sum_within f [] (suc i) (suc j) le = omega arith
sum_within f (x ∷ xs) (suc i) (suc j) le =
    omega (arith, sum_by-cons f x (take i xs), sum_by-cons f x (take j xs), sum_within f xs i j (omega (arith, le)))

-- the requests with one more
module _ {K : Type 0} (keys : List K) (at : ℕ) (x : K) (here : slice_get keys at ≡ Some x) where
  taken_more : take (at + 1) keys ≡ take at keys ++ x ∷ []
  taken_more = take_more keys at x (slice_get_within keys at x here) ∙ ap (λ k. take at keys ++ k ∷ []) (get_or_from_slice_get keys at x x here)

  pub turned_more : reverse (take (at + 1) keys) ≡ x ∷ reverse (take at keys)
  turned_more = ap (λ l. reverse l) taken_more ∙ reverse-append (take at keys) (x ∷ [])

  pub size_more : (weight : K → ℕ) → size_of_all weight (take (at + 1) keys) ≡ size_of_all weight (take at keys) + (1 + weight x)
  size_more weight = ap (size_of_all weight) taken_more ∙ sum_by_push (λ y. 1 + weight y) (take at keys) x

  -- it is the first that is refused
  pub refused_here : (weight : K → ℕ) (refusal : SizedRequestError K) → key_of refusal ≡ x → size_of_all weight (take at keys) < 2 ^ 64
      → IsTooLarge refusal ↔ (2 ^ 64 ≤ size_of_all weight (take at keys) + (1 + weight x)) → IsFirstRefused weight keys refusal
  refused_here weight refusal back fits too_large = record {
    taken = take at keys;
    rest = drop (suc at) keys;
    first =
        sym (take-append-drop at keys)
        ∙ ap (λ l. take at keys ++ l) (drop-cons keys at x (slice_get_within keys at x here)
        ∙ ap (λ k. k ∷ drop (suc at) keys) (get_or_from_slice_get keys at x x here ∙ sym back));
    fits = fits;
    too_large = subst (λ k. IsTooLarge refusal ↔ (2 ^ 64 ≤ size_of_all weight (take at keys) + (1 + weight k))) (sym back) too_large;
  }

  -- what is known of it where it was looked up
  module _ (first end : ℕ) (ahead : List Ahead) (order : first ≤ at) (low : at < end) where
    whole : first + (at - first) ≡ at
    whole = omega (arith, order)

    pub latest_at : (eq : K → K → Bool) → AreLatest eq keys first end ahead
        → IsLatestOf eq (reverse (take at keys)) x (get_or ahead (at - first) nothing).latest
    latest_at eq are = subst (λ i. IsLatestOf eq (reverse (take i keys)) x (get_or ahead (at - first) nothing).latest) whole
        (are (at - first) x (omega (arith, whole, low)) (ap (slice_get keys) whole ∙ here))

    pub weight_at : (weight : K → ℕ) → HaveWeights weight keys first end ahead → weight x ≡ (get_or ahead (at - first) nothing).weight
    weight_at weight are = are (at - first) x (omega (arith, whole, low)) (ap (slice_get keys) whole ∙ here)

  -- it was looked up too
  module _ (first : ℕ) (ahead : List Ahead) (order : first ≤ at) (room : at - first < length ahead) (a : Ahead) where
    -- what holds of it and of those before holds of all
    with_one : (P : ℕ → K → Ahead → Type 0) → P at x a
        → ((j : ℕ) (y : K) → first + j < at → slice_get keys (first + j) ≡ Some y → P (first + j) y (get_or ahead j nothing))
        → (j : ℕ) (y : K) → first + j < at + 1 → slice_get keys (first + j) ≡ Some y
        → P (first + j) y (get_or (set ahead (at - first) a) j nothing)
    with_one P one before j y low there = elim (cases_lt (first + j) at) [
      | inl lt ↦ subst (P (first + j) y) (sym (get_or-set_other ahead (at - first) j a nothing (λ e. omega (arith, e, lt, order)))) (before j y lt there)
      | inr ge ↦ let same : j ≡ at - first = omega (arith, low, ge, order) in
          let whole : first + j ≡ at = omega (arith, low, ge) in
          let key : y ≡ x = same_some (sym there ∙ ap (slice_get keys) whole ∙ here) in
          let read : get_or (set ahead (at - first) a) j nothing ≡ a =
          ap (λ i. get_or (set ahead (at - first) a) i nothing) same ∙ get_or-set_same ahead (at - first) a nothing room in
          subst (P (first + j) y) (sym read) (subst (λ i. P i y a) (sym whole) (subst (λ z. P at z a) (sym key) one))
    ]

    pub latest_with : (eq : K → K → Bool) → IsLatestOf eq (reverse (take at keys)) x a.latest → AreLatest eq keys first at ahead
        → AreLatest eq keys first (at + 1) (set ahead (at - first) a)
    latest_with eq one before = with_one (λ i y b. IsLatestOf eq (reverse (take i keys)) y b.latest) one before

    pub weights_with : (weight : K → ℕ) → weight x ≡ a.weight → HaveWeights weight keys first at ahead
        → HaveWeights weight keys first (at + 1) (set ahead (at - first) a)
    weights_with weight one before = with_one (λ i y b. weight y ≡ b.weight) one before

module _ {K : Type 0} (eq : K → K → Bool) where
  pub placed_none : ArePlaced eq [] []
  placed_none = record { latest = λ x. record { known = refl; position = tt }; few = omega arith }

  -- there is one such position at most
  latest_unique : (past : List K) (x : K) (a b : Option ℕ) → IsLatestOf eq past x a → IsLatestOf eq past x b → a ≡ b
  latest_unique past x None None at there = refl
  latest_unique past x None (Some q) at there = let no : false ≡ true = at.known ∙ sym there.known in cc
  latest_unique past x (Some p) None at there = let no : true ≡ false = at.known ∙ sym there.known in cc
  latest_unique past x (Some p) (Some q) at there = ap (λ (r : ℕ). Some r) (omega (arith, at.position, there.position))

module _ {K : Type 0} (eq : K → K → Bool) (laws : IsEquivalence eq) (past : List K) (x : K) where
  -- a table with one more request
  pub placed_more : (positions : List (K × ℕ)) (n : ℕ) → n ≡ length past → ArePlaced eq past positions
      → ArePlaced eq (x ∷ past) (with_key eq x n positions)
  placed_more positions n here is = record {
    latest = λ y. latest_more eq past x y n here (lookup (eq y) positions) (lookup (eq y) (with_key eq x n positions)) (is.latest y)
        (lookup-with_key eq laws y x n positions);
    few = omega (arith, is.few, length-with_key eq x n positions);
  }

  module _ (c : CountedBySize) (is : HoldsLatest eq past c) (latest : Option ℕ) (at : IsLatestOf eq past x latest) where
    found_there : lookup (eq x) is.positions ≡ latest
    found_there = latest_unique eq past x (lookup (eq x) is.positions) latest (is.placed.latest x) at

    pub was_held : IfSome latest (λ p. IsLiveAt c.sizes p)
    was_held = live latest found_there
      where
        live : (o : Option ℕ) → lookup (eq x) is.positions ≡ o → IfSome o (λ p. IsLiveAt c.sizes p)
        live None absent = tt
        live (Some p) found = omega (arith, is.ranked.latest x p found)

    pub holds_more : (c' : CountedBySize) → HasMoved latest c c' → HoldsLatest eq (x ∷ past) c'
    holds_more c' moved = more latest found_there moved.sizes
      where
        n : ℕ
        n = c.requests

        next : c'.requests ≡ suc n
        next = omega (arith, moved.requests)

        more : (o : Option ℕ) → lookup (eq x) is.positions ≡ o
            → ((t : ℕ) → live_from c'.sizes t + up_to_some o t ≡ live_from c.sizes t + up_to t n) → HoldsLatest eq (x ∷ past) c'
        more None absent counts = record {
          positions = (x, n) ∷ is.positions;
          placed = let new : with_key eq x n is.positions ≡ (x, n) ∷ is.positions = rw absent refl in
              subst (λ ps. ArePlaced eq (x ∷ past) ps) new (placed_more is.positions n is.requests is.placed);
          ranked = rw next (ranked_new eq laws is.positions n x (λ y. 1) (distinct eq) (distinct_measures eq laws) past (live_from c.sizes) (live_from c'.sizes)
              is.ranked absent (λ t. omega (arith, counts t)));
          requests = omega (arith, next, is.requests);
        }
        more (Some p) found counts = record {
          positions = set_value (eq x) is.positions n;
          placed = let again : with_key eq x n is.positions ≡ set_value (eq x) is.positions n = rw found refl in
              subst (λ ps. ArePlaced eq (x ∷ past) ps) again (placed_more is.positions n is.requests is.placed);
          ranked = rw next (ranked_again eq laws is.positions n x (λ y. 1) (distinct eq) (distinct_measures eq laws) past (live_from c.sizes) (live_from c'.sizes)
              is.ranked p found counts);
          requests = omega (arith, next, is.requests);
        }

-- before the first request no size is held
none_live : (ss : List Numbered) (t : ℕ) → total_from ss 0 ≡ 0 → live_from ss t ≡ 0
none_live [] t none = refl
none_live (s ∷ ss) t none =
    let empty : s.value ≡ 0 = omega (arith, none, up_by-le s.value 0 s.number (omega arith)) in
    rw (no_value s empty) (omega (arith, none_live ss t (omega (arith, none))))
  where
    no_value : (s : Numbered) → s.value ≡ 0 → has_value s ≡ false
    no_value s empty = grind arith

pub holds_none : {K : Type 0} (eq : K → K → Bool) (weight : K → ℕ) (idle : ℕ) (c : CountedBySize)
    → IsSizedPositionPass eq weight idle [] c → HoldsLatest eq [] c
holds_none eq weight idle c is = record {
  positions = [];
  placed = placed_none eq;
  ranked = let none : c.requests ≡ 0 = is.taken.requests in
      rw none (IsRanked-none eq (λ x. 1) (distinct eq) (live_from c.sizes) (λ t. none_live c.sizes t is.taken.held));
  requests = is.taken.requests;
}
