-- A floor of the volumes of requests is that of their misses.
use Rattle.std.proofs.Common.{◌≡◌, ℕ, zero, suc, ◌+◌, ◌-◌, ◌*◌, ◌/◌, ◌<◌, ◌≤◌, nat_le, leb-true, Bool, false, List, [], ◌∷◌, length, get_or, take, map, reverse, inl, inr, refl, sym, ap, ◌∙◌, subst, arith}
use Rattle.std.proofs.lemmas.Bool.{cases_lt, leb-false}
use Rattle.std.proofs.lemmas.List.{length-map, length-reverse, length-take-le, reverse-reverse, take_all}
use Rattle.std.proofs.lemmas.List.Elements.{All-contains, All-from_recursion, Contains-get_or}
use Rattle.std.proofs.lemmas.List.Sorted.{Contains-permutation, IsPermutation-sym, sum_by-IsPermutation, length_permutation}
use Rattle.std.proofs.lemmas.List.Sums.{sum_by-cons, sum_by_more, prefix_len-le-length, prefix_len_passes, prefix_len_stops}
use Rattle.std.proofs.lemmas.Nat.{div_below}
use Rattle.std.specs.List.{AllByRecursion, Contains, prefix_len, sum_by}
use Rattle.std.specs.List.Sorted.{IsPermutation, IsNonDecreasingBy}
use Rattle.clru_model.specs.Floor.{most_hits, volumes_after, floor_misses}
use Rattle.clru_model.specs.Requests.{distinct}
use Rattle.clru_least.proofs.Prices.{spared, greatest_all, greatest_part}
use Rattle.clru_least.proofs.Reusing.{reuses_many, volumes_are, spared_volumes, each_volume}
use Rattle.clru_least.specs.FloorNumbers.{Floored, AreSums, IsFloorOfVolumes, IsFloorOf}
use Rattle.clru_least.specs.Reuses.{Reused, reuses_after, volume_of, IsFloorPass}

-- of the numbers each counts once
ones : (ns : List ℕ) → sum_by (λ _. 1) ns ≡ length ns
ones [] = refl
ones (n ∷ ns) = omega (arith, ones ns, sum_by-cons (λ (_ : ℕ). 1) n ns)

once : (ns : List ℕ) → sum_by (λ n. n * 1) ns ≡ sum_by (λ n. n) ns
once [] = refl
once (n ∷ ns) = omega (arith, once ns, sum_by-cons (λ n. n * 1) n ns, sum_by-cons (λ n. n) n ns)

-- the first sums that are paid for, and the next that is not
module _ (b : ℕ) (ns sums : List ℕ) (are : AreSums ns sums) where
  paid : (k : ℕ) → k ≡ prefix_len (λ v. nat_le v b) sums → sum_by (λ n. n) (take k ns) ≤ b
  paid zero is = omega arith
  paid (suc k) is =
      let few = prefix_len-le-length (λ v. nat_le v b) sums in
      let inside : k < length ns = omega (arith, is, few, are.same_length) in
      let passes = leb-true (get_or sums k 0) b (prefix_len_passes (λ v. nat_le v b) sums k 0 (omega (arith, is))) in
      omega (arith, passes, are.sums_up k inside)

  stopped : (k : ℕ) → k ≡ prefix_len (λ v. nat_le v b) sums → k < length ns → b < sum_by (λ n. n) (take (k + 1) ns)
  stopped k is inside =
      let fails = leb-false (get_or sums k 0) b
      (subst (λ j. nat_le (get_or sums j 0) b ≡ false) (sym is) (prefix_len_stops (λ v. nat_le v b) sums 0 (omega (arith, is, inside, are.same_length)))) in
      let next : suc k ≡ k + 1 = omega arith in
      omega (arith, fails, are.sums_up k inside, ap (λ j. sum_by (λ n. n) (take j ns)) next)

module _ {K : Type 0} (eq : K → K → Bool) (weight : K → ℕ) where
  -- the greatest that prices say, where the volumes are sorted
  pub floor_of_sorted : (h : ℕ) (rs : List K) (ts sums : List ℕ) → IsPermutation (volumes_after eq weight [] rs) ts → IsNonDecreasingBy (λ v. v) ts
      → AreSums ts sums → length ts + distinct eq (reverse rs) ≡ length rs
      → floor_misses eq weight h rs ≡ length rs - prefix_len (λ v. nat_le v (h * length rs)) sums
  floor_of_sorted h rs ts sums moved rising are many =
      let b : ℕ = h * length rs in
      let vs = volumes_after eq weight [] rs in
      let k : ℕ = prefix_len (λ v. nat_le v b) sums in
      let few = prefix_len-le-length (λ v. nat_le v b) sums in
      let said : (g : ℕ) → most_hits eq weight (λ _. 1) h g rs ≡ (spared (λ v. v) (λ _. 1) g ts + b) / g =
      λ g. ap (λ a. (a + b) / g) (spared_volumes eq weight g [] rs ∙ sym (sum_by-IsPermutation (λ v. g * 1 - v * 1) vs ts moved)) in
      let pays = paid b ts sums are k refl in
      elim (cases_lt k (length ts)) [
        | inl less ↦
            let t : ℕ = get_or ts k 0 in
            let stops = stopped b ts sums are k refl less in
            let pos : 1 ≤ t = positive vs (each_volume eq weight [] rs) (Contains-permutation ts vs t (IsPermutation-sym vs ts moved) (Contains-get_or ts k 0 less)) in
            let most = greatest_part (λ v. v) (λ _. 1) (length rs) b (λ g. most_hits eq weight (λ _. 1) h g rs) ts said k (distinct eq (reverse rs)) 0 vs
            rising less (omega (arith, once (take k ts), pays)) (omega (arith, once (take (k + 1) ts), stops)) (omega (arith, ones ts, many))
            (each_volume eq weight [] rs) pos (Contains-permutation ts vs t (IsPermutation-sym vs ts moved) (Contains-get_or ts k 0 less)) in
            let next = sum_by_more (λ n. n) ts k 0 less in
            let none : (b - sum_by (λ v. v * 1) (take k ts)) / t < 1 =
            div_below (b - sum_by (λ v. v * 1) (take k ts)) t 1 pos (omega (arith, once (take k ts), next, stops, pays)) in
            most ∙ omega (arith, none, ones (take k ts), length-take-le k ts (omega (arith, less)))
        | inr more ↦
            let all : take k ts ≡ ts = take_all k ts more in
            let most = greatest_all (λ v. v) (λ _. 1) (length rs) b (λ g. most_hits eq weight (λ _. 1) h g rs) ts said (distinct eq (reverse rs)) vs
            (omega (arith, once ts, pays, ap (λ l. sum_by (λ n. n) l) all)) (omega (arith, ones ts, many)) (each_volume eq weight [] rs) in
            most ∙ omega (arith, few, more, are.same_length, many)
      ]
    where
      positive : (vs : List ℕ) → AllByRecursion (λ v. 1 ≤ v) vs → {v : ℕ} → Contains vs v → 1 ≤ v
      positive vs some among = All-contains (λ v. 1 ≤ v) vs _ (All-from_recursion (λ v. 1 ≤ v) vs some) among

  pub IsFloorOf-by : (past : List K) (p : Reused) (vs : List ℕ) (f : Floored) → IsFloorPass eq weight past p → vs ≡ map volume_of p.reuses
      → IsFloorOfVolumes vs p.requests f → IsFloorOf eq weight (reverse past) f
  IsFloorOf-by past p vs f is from of h =
      let rs = reverse past in
      let same : vs ≡ volumes_after eq weight [] rs = from ∙ ap (λ l. map volume_of l) is.reuses ∙ sym (volumes_are eq weight [] rs) in
      let n : f.requests ≡ length rs = omega (arith, of.requests_in_all, is.requests, length-reverse past) in
      let long = ap (λ l. length l) (from ∙ ap (λ l. map volume_of l) is.reuses) ∙ length-map (reuses_after eq weight [] rs) volume_of in
      let turned = ap (distinct eq) (reverse-reverse past) in
      let floor = floor_of_sorted h rs of.sorted f.volumes (subst (λ l. IsPermutation l of.sorted) same of.permutation) of.rising of.sums
      (omega (arith, long, length_permutation vs of.sorted of.permutation, turned, reuses_many eq weight past, length-reverse past)) in
      ap (λ m. m - prefix_len (λ v. nat_le v (h * m)) f.volumes) n ∙ sym floor
