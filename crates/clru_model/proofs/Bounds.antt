-- How many misses there are at least and at most, by number and by size.
use Rattle.std.proofs.Common.{◌≡◌, ℕ, suc, ◌+◌, ◌*◌, ◌≤◌, Bool, true, not, List, [], ◌∷◌, ◌++◌, length, reverse}
use Rattle.std.proofs.Common.{leb, leb-true, ltb, ltb-true, lt-ltb, append-nil, ap, arith, mul-le-mul_left}
use Rattle.std.proofs.lemmas.Bool.{and_parts, and_from, le-leb}
use Rattle.std.proofs.lemmas.List.Elements.{recursion_from_All}
use Rattle.std.proofs.lemmas.List.Sums.{sum_by-cons}
use Rattle.std.specs.List.{AllByRecursion, sum_by, count_by}
use Rattle.clru_model.specs.Bounds.{DistinctMiss, NoMoreMiss, NoMoreSizeMisses, SizesMissMore, RoomForGreatestMissesLess}
use Rattle.clru_model.specs.Requests.{holds, distinct, since, hit, marks_after}
use Rattle.clru_model.specs.Sizes.{total, hit_by_size, marks_by_size_after, missed_size_after}
use Rattle.clru_model.proofs.Marks.{missed-le}
use Rattle.clru_model.proofs.Cases.{split}
use Rattle.clru_model.proofs.Distinct.{since-cons}
use Rattle.clru_model.proofs.Marks.{count_by-not-cons, reverse-cons-append}

module _ {K : Type 0} (eq : K → K → Bool) where
  distinct_miss_after : (k : ℕ) (past rs : List K) → distinct eq (reverse rs ++ past) ≤ count_by not (marks_after eq k past rs) + distinct eq past
  distinct_miss_after k past [] = omega arith
  distinct_miss_after k past (x ∷ rs) =
      let rest = distinct_miss_after k (x ∷ past) rs in
      rw (reverse-cons-append eq x rs past, count_by-not-cons (hit eq k x past) (marks_after eq k (x ∷ past) rs)) (split (holds eq x past)
      (λ t. let same = rw t at rest in omega arith)
      (λ f. let more = rw f at rest in rw f (omega arith)))

  pub distinct_miss : DistinctMiss eq
  distinct_miss k rs = omega (arith, distinct_miss_after k [] rs, ap (distinct eq) (append-nil (reverse rs)))

  no_more_miss_after : (k : ℕ) (past rs : List K) → count_by not (marks_after eq k past rs) ≤ length rs
  no_more_miss_after k past [] = omega arith
  no_more_miss_after k past (x ∷ rs) =
      rw (count_by-not-cons (hit eq k x past)) (omega (arith, missed-le (hit eq k x past) 1, no_more_miss_after k (x ∷ past) rs))

  pub no_more_miss : NoMoreMiss eq
  no_more_miss k rs = no_more_miss_after k [] rs

  module _ (weight : K → ℕ) where
    no_more_size_misses_after : (c : ℕ) (past rs : List K) → missed_size_after eq weight c past rs ≤ sum_by (λ x. 1 + weight x) rs
    no_more_size_misses_after c past [] = omega arith
    no_more_size_misses_after c past (x ∷ rs) =
        let rest = no_more_size_misses_after c (x ∷ past) rs in
        rw (sum_by-cons (λ y. 1 + weight y) x rs) (split (hit_by_size eq weight c x past)
        (λ t. rw t (omega (arith, rest)))
        (λ f. rw f (omega (arith, rest))))

    -- each distinct key has at least the size 1
    distinct-le-total : (past : List K) → distinct eq past ≤ total eq weight past
    distinct-le-total [] = omega arith
    distinct-le-total (x ∷ past) =
        let rest = distinct-le-total past in
        split (holds eq x past) (λ t. rw t rest) (λ f. rw f (omega (arith, rest)))

    -- what hits by size hits by as many keys
    hit_from_size : (c : ℕ) (x : K) (past : List K) → hit_by_size eq weight c x past ≡ true → hit eq c x past ≡ true
    hit_from_size c x past h =
        let n : ℕ = distinct eq (since eq x past) in
        let size : ℕ = 1 + weight x + total eq weight (since eq x past) in
        let parts = and_parts (holds eq x past) (leb size c) h in
        and_from (holds eq x past) (ltb n c) parts.0
        (lt-ltb n c (omega (arith, leb-true size c parts.1, distinct-le-total (since eq x past))))

    sizes_miss_more_after : (c : ℕ) (past rs : List K)
        → count_by not (marks_after eq c past rs) ≤ count_by not (marks_by_size_after eq weight c past rs)
    sizes_miss_more_after c past [] = omega arith
    sizes_miss_more_after c past (x ∷ rs) =
        let rest = sizes_miss_more_after c (x ∷ past) rs in
        rw (count_by-not-cons (hit eq c x past), count_by-not-cons (hit_by_size eq weight c x past)) (split (hit_by_size eq weight c x past)
        (λ t. rw (t, hit_from_size c x past t) (omega (arith, rest)))
        (λ f. rw f (omega (arith, rest, missed-le (hit eq c x past) 1))))

    module _ (g : ℕ) where
      abbrev AreUpTo : List K → Type 0
      AreUpTo past = AllByRecursion (λ x. weight x ≤ g) past

      total-le-distinct : (past : List K) → AreUpTo past → total eq weight past ≤ (g + 1) * distinct eq past
      total-le-distinct [] all = omega arith
      total-le-distinct (x ∷ past) all =
          let rest = total-le-distinct past all.1 in
          split (holds eq x past) (λ t. rw t rest) (λ f. rw f (omega (arith, rest, all.0)))

      AreUpTo_since : (x : K) (past : List K) → AreUpTo past → AreUpTo (since eq x past)
      AreUpTo_since x [] all = tt
      AreUpTo_since x (y ∷ past) all = rw (since-cons eq x y past) (split (eq x y)
          (λ t. rw t tt)
          (λ f. rw f (all.0, AreUpTo_since x past all.1)))

      -- what hits by number hits with room for as many of the greatest entries
      hit_with_room : (k : ℕ) (x : K) (past : List K) → weight x ≤ g → AreUpTo past → hit eq k x past ≡ true
          → hit_by_size eq weight ((g + 1) * k) x past ≡ true
      hit_with_room k x past here all h =
          let n : ℕ = distinct eq (since eq x past) in
          let size : ℕ = 1 + weight x + total eq weight (since eq x past) in
          let parts = and_parts (holds eq x past) (ltb n k) h in
          let less : suc n ≤ k = ltb-true n k parts.1 in
          let room : (g + 1) * suc n ≤ (g + 1) * k = mul-le-mul_left (g + 1) less in
          let most = total-le-distinct (since eq x past) (AreUpTo_since x past all) in
          and_from (holds eq x past) (leb size ((g + 1) * k)) parts.0 (le-leb size ((g + 1) * k) (omega (arith, room, most, here)))

      room_misses_less_after : (k : ℕ) (past rs : List K) → AreUpTo past → AreUpTo rs
          → count_by not (marks_by_size_after eq weight ((g + 1) * k) past rs) ≤ count_by not (marks_after eq k past rs)
      room_misses_less_after k past [] before all = omega arith
      room_misses_less_after k past (x ∷ rs) before all =
          let rest = room_misses_less_after k (x ∷ past) rs (all.0, before) all.1 in
          rw (count_by-not-cons (hit_by_size eq weight ((g + 1) * k) x past), count_by-not-cons (hit eq k x past)) (split (hit eq k x past)
          (λ t. rw (t, hit_with_room k x past all.0 before t) (omega (arith, rest)))
          (λ f. rw f (omega (arith, rest, missed-le (hit_by_size eq weight ((g + 1) * k) x past) 1))))

  pub no_more_size_misses : NoMoreSizeMisses eq
  no_more_size_misses weight c rs = no_more_size_misses_after weight c [] rs

  pub sizes_miss_more : SizesMissMore eq
  sizes_miss_more weight c rs = sizes_miss_more_after weight c [] rs

  pub room_for_greatest_misses_less : RoomForGreatestMissesLess eq
  room_for_greatest_misses_less weight g k rs all =
      room_misses_less_after weight g k [] rs tt (recursion_from_All (λ x. weight x ≤ g) rs all)
