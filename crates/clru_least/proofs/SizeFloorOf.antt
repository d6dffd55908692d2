-- A floor of the requests whose keys came before is that of the missed size.
use Rattle.std.proofs.Common.{◌≡◌, ℕ, ◌+◌, ◌-◌, ◌*◌, ◌/◌, ◌^◌, ◌<◌, ◌≤◌, nat_le, Bool, List, [], ◌∷◌, length, get_or, take, map, reverse, inl, inr, refl, sym, ap, ◌∙◌, subst, arith}
use Rattle.std.proofs.lemmas.Bool.{cases_lt, lt-ltb, le-ltb}
use Rattle.std.proofs.lemmas.List.{length-map, length-reverse, reverse-reverse, take_all, get_or-map}
use Rattle.std.proofs.lemmas.List.Elements.{All-contains, All-map, All-from_recursion, Contains-get_or}
use Rattle.std.proofs.lemmas.List.Sorted.{Contains-permutation, IsPermutation-map, IsPermutation-reverse, IsPermutation-sym, sum_by-IsPermutation}
use Rattle.std.proofs.lemmas.List.Sums.{sum-map, sum_by-cons, sum_by_more, prefix_len-le-length}
use Rattle.std.specs.List.{All, AllByRecursion, Contains, prefix_len, sum_by}
use Rattle.std.specs.List.Sorted.{IsPermutation, IsNonDecreasingBy}
use Rattle.clru_model.specs.Floor.{gaps_after, most_hits, floor_missed_size}
use Rattle.clru_model.specs.Sizes.{total}
use Rattle.clru_least.proofs.Prices.{spared, greatest_all, greatest_part}
use Rattle.clru_least.proofs.Reusing.{reuses_size, gaps_are, spared_sizes, each_gap, volumes_fit}
use Rattle.clru_least.proofs.SizeSums.{size_before, volume_before, paid_before, stopped_next}
use Rattle.clru_least.specs.declared.reuse.Reuse.{Reuse}
use Rattle.clru_least.specs.declared.size_floor.FloorStep.{FloorStep}
use Rattle.clru_least.specs.FloorNumbers.{FlooredBySize, floor_step, own_step, own_volume, step_before, next_part, hit_size_at, AreSteps, IsFloorOfSteps, IsSizeFloorOf}
use Rattle.clru_least.specs.Reuses.{Reused, reuses_after, volume_of, IsFloorPass, IsSoundFloor}

-- a sum over steps is that over what they are of
pub sum_own : (f : FloorStep → ℕ) (rs : List Reuse) → sum_by f (map own_step rs) ≡ sum_by (λ r. f (own_step r)) rs
sum_own f [] = refl
sum_own f (r ∷ rs) = omega (arith, sum_own f rs, sum_by-cons f (own_step r) (map own_step rs), sum_by-cons (λ r. f (own_step r)) r rs)

gaps_own : (rs : List Reuse) → map (λ s. s.gap) (map own_step rs) ≡ map (λ r. r.gap) rs
gaps_own [] = refl
gaps_own (r ∷ rs) = ap (λ l. r.gap ∷ l) (gaps_own rs)

-- what a pass knows of its requests, said of their steps
pub own_gaps : (p : Reused) → IsSoundFloor p → All (λ s. 1 ≤ s.gap) (map own_step p.reuses)
own_gaps p sound = All-map (λ s. 1 ≤ s.gap) own_step p.reuses sound.gaps

pub own_sizes : (p : Reused) → IsSoundFloor p → sum_by (λ s. s.size) (map own_step p.reuses) ≤ p.size
own_sizes p sound = omega (arith, sum_own (λ s. s.size) p.reuses, sound.sizes)

pub own_volumes_fit : (p : Reused) → IsSoundFloor p → sum_by own_volume (map own_step p.reuses) < 2 ^ 128
own_volumes_fit p sound = omega (arith, sum_own own_volume p.reuses, sum-map volume_of p.reuses, volumes_fit p sound)

-- what is paid for, in the words of the sorted steps
module _ (b : ℕ) (ts steps : List FloorStep) (are : AreSteps ts steps) where
  paid_first : (k : ℕ) → k ≡ length ts → hit_size_at b steps k ≡ sum_by (λ s. s.size) ts
  paid_first k all =
      let none : next_part b steps k ≡ 0 = rw (le-ltb k (length steps) (omega (arith, all, are.same_length))) refl in
      let size = size_before b ts steps are k (omega (arith, all, are.same_length)) in
      omega (arith, none, size, ap (λ l. sum_by (λ s. s.size) l) (take_all k ts (omega (arith, all))))

  paid_more : (k : ℕ) → k < length ts → hit_size_at b steps k
      ≡ sum_by (λ s. s.size) (take k ts) + (b - sum_by own_volume (take k ts)) / (get_or ts k (floor_step 0 0 0)).gap
  paid_more k less =
      let inside : k < length steps = omega (arith, less, are.same_length) in
      let some : next_part b steps k ≡ (b - (step_before steps k).volume) / (get_or steps k (floor_step 0 0 0)).gap = rw (lt-ltb k (length steps) inside) refl in
      let gap_is = ap (λ s. s.gap) (are.at k less) in
      let volume_is = volume_before b ts steps are k (omega (arith, inside)) in
      let size_is = size_before b ts steps are k (omega (arith, inside)) in
      let part : next_part b steps k ≡ (b - sum_by own_volume (take k ts)) / (get_or ts k (floor_step 0 0 0)).gap =
      some ∙ ap (λ g. (b - (step_before steps k).volume) / g) gap_is ∙ ap (λ v. (b - v) / (get_or ts k (floor_step 0 0 0)).gap) volume_is in
      omega (arith, part, size_is)

module _ {K : Type 0} (eq : K → K → Bool) (weight : K → ℕ) where
  -- the greatest that prices say, where the steps are sorted
  size_floor_of_sorted : (h : ℕ) (rs : List K) (ts steps : List FloorStep) → IsPermutation (map own_step (reuses_after eq weight [] rs)) ts
      → IsNonDecreasingBy (λ s. s.gap) ts → AreSteps ts steps
      → sum_by (λ s. s.size) ts + total eq weight (reverse rs) ≡ sum_by (λ x. 1 + weight x) rs
      → floor_missed_size eq weight h rs
      ≡ sum_by (λ x. 1 + weight x) rs - hit_size_at (h * length rs) steps (prefix_len (λ s. nat_le s.volume (h * length rs)) steps)
  size_floor_of_sorted h rs ts steps moved rising are all =
      let b : ℕ = h * length rs in
      let reuses = reuses_after eq weight [] rs in
      let gs = gaps_after eq [] rs in
      let k : ℕ = prefix_len (λ s. nat_le s.volume b) steps in
      let few = prefix_len-le-length (λ s. nat_le s.volume b) steps in
      let said : (g : ℕ) → most_hits eq weight (λ x. 1 + weight x) h g rs ≡ (spared (λ s. s.gap) (λ s. s.size) g ts + b) / g =
      λ g. ap (λ a. (a + b) / g) (spared_sizes eq weight g [] rs ∙ sym (sum_own (λ s. g * s.size - s.gap * s.size) reuses)
      ∙ sym (sum_by-IsPermutation (λ s. g * s.size - s.gap * s.size) (map own_step reuses) ts moved)) in
      let pays = paid_before b ts steps are k refl in
      let volume = volume_before b ts steps are k few in
      let some = each_gap eq weight [] rs in
      elim (cases_lt k (length ts)) [
        | inl less ↦
            let among = next_among rs ts moved k less in
            let pos = positive gs some among in
            let stops = stopped_next b ts steps are k refl (omega (arith, less, are.same_length)) in
            let most = greatest_part (λ s. s.gap) (λ s. s.size) (sum_by (λ x. 1 + weight x) rs) b (λ g. most_hits eq weight (λ x. 1 + weight x) h g rs) ts said
            k (total eq weight (reverse rs)) (floor_step 0 0 0) gs rising less (omega (arith, pays, volume))
            (omega (arith, stops, sum_by_more own_volume ts k (floor_step 0 0 0) less)) (omega (arith, all)) some pos among in
            most ∙ ap (λ m. sum_by (λ x. 1 + weight x) rs - m) (sym (paid_more b ts steps are k less))
        | inr more ↦
            let whole : k ≡ length ts = omega (arith, few, more, are.same_length) in
            let most = greatest_all (λ s. s.gap) (λ s. s.size) (sum_by (λ x. 1 + weight x) rs) b (λ g. most_hits eq weight (λ x. 1 + weight x) h g rs) ts said
            (total eq weight (reverse rs)) gs
            (omega (arith, pays, volume, ap (λ l. sum_by own_volume l) (take_all k ts more))) (omega (arith, all)) some in
            most ∙ omega (arith, all, paid_first b ts steps are k whole)
      ]
    where
      positive : (gs : List ℕ) → AllByRecursion (λ g. 1 ≤ g) gs → {g : ℕ} → Contains gs g → 1 ≤ g
      positive gs some among = All-contains (λ g. 1 ≤ g) gs _ (All-from_recursion (λ g. 1 ≤ g) gs some) among

      next_among : (rs : List K) (ts : List FloorStep) → IsPermutation (map own_step (reuses_after eq weight [] rs)) ts
          → (k : ℕ) → k < length ts → Contains (gaps_after eq [] rs) (get_or ts k (floor_step 0 0 0)).gap
      next_among rs ts moved k less =
          let reuses = reuses_after eq weight [] rs in
          let long : k < length (map (λ s. s.gap) ts) = omega (arith, less, length-map ts (λ s. s.gap)) in
          let there = Contains-get_or (map (λ s. s.gap) ts) k 0 long in
          let here = subst (λ g. Contains (map (λ s. s.gap) ts) g) (get_or-map (λ s. s.gap) ts k (floor_step 0 0 0) 0 less) there in
          let back = IsPermutation-sym (map (λ s. s.gap) (map own_step reuses)) (map (λ s. s.gap) ts)
          (IsPermutation-map (λ s. s.gap) (map own_step reuses) ts moved) in
          subst (λ l. Contains l (get_or ts k (floor_step 0 0 0)).gap) (gaps_own reuses ∙ sym (gaps_are eq weight [] rs))
          (Contains-permutation (map (λ s. s.gap) ts) (map (λ s. s.gap) (map own_step reuses)) (get_or ts k (floor_step 0 0 0)).gap back here)

  pub IsSizeFloorOf-by : (past : List K) (p : Reused) (own : List FloorStep) (f : FlooredBySize) → IsFloorPass eq weight past p
      → own ≡ map own_step p.reuses → IsFloorOfSteps own p.requests p.size f → IsSizeFloorOf eq weight (reverse past) f
  IsSizeFloorOf-by past p own f is from of h =
      let rs = reverse past in
      let same : own ≡ map own_step (reuses_after eq weight [] rs) = from ∙ ap (λ l. map own_step l) is.reuses in
      let n : f.requests ≡ length rs = omega (arith, of.requests_in_all, is.requests, length-reverse past) in
      let a : f.size ≡ sum_by (λ x. 1 + weight x) rs =
      omega (arith, of.size_in_all, is.size, sum_by-IsPermutation (λ x. 1 + weight x) past rs (IsPermutation-reverse past)) in
      let sizes = sum_by-IsPermutation (λ s. s.size) own of.own of.permutation ∙ ap (λ l. sum_by (λ s. s.size) l) same
      ∙ sum_own (λ s. s.size) (reuses_after eq weight [] rs) in
      let turned = ap (total eq weight) (reverse-reverse past) in
      let floor = size_floor_of_sorted h rs of.own f.steps (subst (λ l. IsPermutation l of.own) same of.permutation) of.rising of.summed
      (omega (arith, sizes, turned, reuses_size eq weight past, sum_by-IsPermutation (λ x. 1 + weight x) past rs (IsPermutation-reverse past))) in
      ap (λ m. f.size - hit_size_at (h * m) f.steps (prefix_len (λ s. nat_le s.volume (h * m)) f.steps)) n
      ∙ ap (λ m. m - hit_size_at (h * length rs) f.steps (prefix_len (λ s. nat_le s.volume (h * length rs)) f.steps)) a ∙ sym floor
