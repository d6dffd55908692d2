-- What a pass has taken, after one more request.
use Rattle.std.proofs.Common.{◌≡◌, ℕ, suc, ◌+◌, ◌<◌, ◌≤◌, Bool, true, false, cond, List, [], ◌∷◌, ◌++◌, length, get_or, set, take, reverse, Option, Some, None, is_some, refl, sym, ap, ◌∙◌, subst, arith}
use Rattle.std.specs.Cmp.{IsEquivalence}
use Rattle.std.specs.Prelude.{sum}
use Rattle.std.specs.Map.{lookup, set_value}
use Rattle.std.proofs.lemmas.Map.{length-set_value}
use Rattle.clru_linked_map.proofs.KeyTables.{moved_again}
use Rattle.clru_model.specs.Requests.{holds, distinct, since}
use Rattle.clru_model.proofs.Cases.{split}
use Rattle.clru_model.proofs.Distinct.{since-cons}
use Rattle.clru_curve.specs.Curves.{HasMissesOf}
use Rattle.clru_model.specs.Distances.{distance}
use Rattle.clru_curve.specs.declared.numbered.Numbered.{Numbered}
use Rattle.clru_curve.specs.Latest.{ones_from}
use Rattle.clru_curve.specs.Tree.{up_to}
use Rattle.clru_curve.specs.Passes.{Pass, pass, IsPass}
use Rattle.clru_curve.proofs.Histograms.{IsHistogram-none, IsHistogram-new, IsHistogram-again, distance_inside, distance_few, HasMissesOf-by}
use Rattle.clru_curve.proofs.Ranks.{same_some, distinct_measures, IsRanked-none, IsRanked-same, IsRanked-new, IsRanked-again}

module _ {K : Type 0} (eq : K → K → Bool) where
  -- before the first request
  pub IsPass-none : {S : Type 0} {b : S} → IsPass eq [] (pass [] [] 0 [] b)
  IsPass-none = record {
    ranked = IsRanked-none eq (λ x. 1) (distinct eq) (ones_from []) (λ p. refl);
    counted = IsHistogram-none eq;
    requests = refl;
    latest = λ x q at. cc;
  }

  -- the same bits in other blocks
  pub IsPass-same : {S : Type 0} {b : S} (past : List K) (positions : List (K × ℕ)) (bs cs : List Numbered) (n : ℕ) (h : List ℕ) → ((p : ℕ) → ones_from cs p ≡ ones_from bs p)
      → IsPass eq past (pass positions bs n h b) → IsPass eq past (pass positions cs n h b)
  IsPass-same past positions bs cs n h same is = record {
    ranked = IsRanked-same eq (λ x. 1) (distinct eq) past positions n (ones_from bs) (ones_from cs) same is.ranked;
    counted = is.counted;
    requests = is.requests;
    latest = is.latest;
  }

module _ {K S : Type 0} {b : S} (eq : K → K → Bool) (laws : IsEquivalence eq) (past : List K) (positions : List (K × ℕ)) (bs : List Numbered) (n : ℕ) (h : List ℕ)
    (x : K) (is : IsPass eq past (pass positions bs n h b)) where
  -- a key that is not known was not requested
  not_held : lookup (eq x) positions ≡ None → holds eq x past ≡ false
  not_held absent = sym (is.ranked.known x) ∙ ap is_some absent

  -- and one that was not requested is not known
  pub absent_key : holds eq x past ≡ false → lookup (eq x) positions ≡ None
  absent_key new = none_of (lookup (eq x) positions) (is.ranked.known x ∙ new)
    where
      none_of : (o : Option ℕ) → is_some o ≡ false → o ≡ None
      none_of None h = refl
      none_of (Some p) h = cc

  pub distance_none : lookup (eq x) positions ≡ None → None ≡ distance eq x past
  distance_none absent = rw (not_held absent) refl

  -- after one more request of x, each key has a position that is that of its latest one
  latest_more : (moved : List (K × ℕ)) → ((y : K) → lookup (eq y) moved ≡ cond (eq x y) (Some n) (lookup (eq y) positions))
      → (y : K) (q : ℕ) → lookup (eq y) moved ≡ Some q → q + 1 + length (since eq y (x ∷ past)) ≡ length (x ∷ past)
  latest_more moved are y q at = split (eq x y)
      (λ t. let back : eq y x ≡ true = laws.symm y x ∙ t in
      let here : Some n ≡ Some q = rw (are y, t) at at in
      let none : length (since eq y (x ∷ past)) ≡ 0 = rw (since-cons eq y x past, back) refl in
      omega (arith, same_some here, none, is.requests))
      (λ f. let back : eq y x ≡ false = laws.symm y x ∙ f in
      let there : lookup (eq y) positions ≡ Some q = rw (are y, f) at at in
      let more : length (since eq y (x ∷ past)) ≡ suc (length (since eq y past)) = rw (since-cons eq y x past, back) refl in
      omega (arith, more, is.latest y q there))

  pub IsPass-new : (cs : List Numbered) → lookup (eq x) positions ≡ None → ((p : ℕ) → ones_from cs p ≡ ones_from bs p + up_to p n)
      → IsPass eq (x ∷ past) (pass ((x, n) ∷ positions) cs (n + 1) (h ++ 0 ∷ []) b)
  IsPass-new cs absent counts =
      let one : n + 1 ≡ suc n = omega arith in
      let moved : (y : K) → lookup (eq y) ((x, n) ∷ positions) ≡ cond (eq x y) (Some n) (lookup (eq y) positions) =
      λ y. ap (λ b. cond b (Some n) (lookup (eq y) positions)) (laws.symm y x) in
      rw one (record {
        ranked = IsRanked-new eq laws (λ x. 1) (distinct eq) (distinct_measures eq laws)
            past positions ((x, n) ∷ positions) n (ones_from bs) (ones_from cs) x is.ranked moved (not_held absent) counts
            (omega (arith, is.ranked.few));
        counted = IsHistogram-new eq laws past h x is.counted (not_held absent);
        requests = ap suc is.requests;
        latest = latest_more ((x, n) ∷ positions) moved;
      })

  -- a key with a position was requested there
  module _ (p : ℕ) (found : lookup (eq x) positions ≡ Some p) where
    was_held : holds eq x past ≡ true
    was_held = sym (is.ranked.known x) ∙ ap is_some found

    pub distance_some : Some (ones_from bs (suc p)) ≡ distance eq x past
    distance_some = rw was_held (ap (λ d. Some d) (is.ranked.rank x p found))

    pub distance_below : ones_from bs (suc p) < length h
    distance_below = omega (arith, distance_inside eq laws past h x is.counted was_held, is.ranked.rank x p found)

    pub number_few : get_or h (ones_from bs (suc p)) 0 ≤ n
    number_few =
        let few = distance_few eq laws past h x is.counted was_held in
        omega (arith, few, is.requests, ap (λ d. get_or h d 0) (is.ranked.rank x p found))

    pub IsPass-again : (cs : List Numbered) → ((q : ℕ) → ones_from cs q + up_to q p ≡ ones_from bs q + up_to q n)
        → IsPass eq (x ∷ past) (pass (set_value (eq x) positions n) cs (n + 1) (set h (ones_from bs (suc p)) (get_or h (ones_from bs (suc p)) 0 + 1)) b)
    IsPass-again cs counts =
        let one : n + 1 ≡ suc n = omega arith in
        let rank = is.ranked.rank x p found in
        let moved : (y : K) → lookup (eq y) (set_value (eq x) positions n) ≡ cond (eq x y) (Some n) (lookup (eq y) positions) =
        moved_again eq laws positions x n p found in
        rw (one, rank) (record {
          ranked = IsRanked-again eq laws (λ x. 1) (distinct eq) (distinct_measures eq laws)
              past positions (set_value (eq x) positions n) n (ones_from bs) (ones_from cs) x is.ranked moved p found counts
              (omega (arith, length-set_value (eq x) positions n, is.ranked.few));
          counted = IsHistogram-again eq laws past h x is.counted was_held;
          requests = ap suc is.requests;
          latest = latest_more (set_value (eq x) positions n) moved;
        })

module _ {K S : Type 0} (eq : K → K → Bool) (past : List K) (p : Pass K S) (old curve result : List ℕ) (is : IsPass eq past p) (from : old ≡ p.histogram) where
  -- no sum of the numbers passes that of the requests
  pub sums_within : (k : ℕ) → sum (take k old) ≤ p.requests
  sums_within k = omega (arith, is.counted.hits k, is.requests, ap (λ h. sum (take k h)) from)

  module _ (to : result ≡ curve) (len : length curve ≡ length old) where
    pub curve_distinct : length result ≡ distinct eq past
    curve_distinct = ap (λ l. length l) to ∙ len ∙ ap (λ l. length l) from ∙ is.counted.distinct

    pub curve_misses : ((i : ℕ) → i < length old → get_or curve i 0 + sum (take (suc i) old) ≡ p.requests)
        → HasMissesOf eq (reverse past) result
    curve_misses at =
        subst (λ l. HasMissesOf eq (reverse past) l) (sym to)
        (HasMissesOf-by eq past p.histogram curve is.counted (len ∙ ap (λ l. length l) from)
        (λ i within. let here = at i (omega (arith, within, ap (λ l. length l) from)) in
        omega (arith, here, ap (λ h. sum (take (suc i) h)) from, is.requests)))
