-- The kinds of misses that lists of requests in a row have from their parts: by number and by size, and under an idle limit.
use Rattle.std.proofs.Common.{◌≡◌, ℕ, ◌+◌, Bool, true, false, cond, not, ◌&&◌, Option, None, List, [], ◌∷◌, ◌++◌, reverse, refl, sym, ap, ◌∙◌, arith}
use Rattle.std.specs.Prelude.{nat_lt, nat_le, is_some}
use Rattle.std.specs.Cmp.{IsEquivalence}
use Rattle.std.specs.List.{count_by, find}
use Rattle.std.specs.Map.{keys_of, lookup}
use Rattle.std.specs.Option.{option_map}
use Rattle.clru_model.specs.Ages.{is_recent, aged_hit, aged_marks_after, aged_misses}
use Rattle.clru_model.specs.Parts.{missed_cost, missed_cost_after, firsts, lasts, IsByLatest, IsOfParts, PartsMiss, PartsMissBySize, PartsMissSize}
use Rattle.clru_model.specs.Parts.{is_same_key, missed_size_in_idle, IdlePartsMiss, IdlePartsMissBySize, IdlePartsMissSize}
use Rattle.clru_model.specs.Requests.{holds, sum_distinct, distinct, since, hit, marks_after, misses}
use Rattle.clru_model.specs.Sizes.{SameWeights, hit_by_size, marks_by_size_after, misses_by_size, missed_size_after, missed_size}
use Rattle.clru_model.specs.Spans.{size_of_misses}
use Rattle.clru_model.proofs.Ages.{aged_hit_parts}
use Rattle.clru_model.proofs.Cases.{split}
use Rattle.clru_model.proofs.Distinct.{holds_same, sum_mono}
use Rattle.clru_model.proofs.IdleMarks.{AreFetched, idle_hit, recent_holds}
use Rattle.clru_model.proofs.Marks.{count_by-not-cons}
use Rattle.clru_model.proofs.Positions.{holds-reverse}
use Rattle.clru_model.proofs.TestedParts.{tested_parts_miss}
use Rattle.clru_model.proofs.Views.{holds-map, since-map}

module _ {K : Type 0} (hits : K → List K → Bool) where
  -- for each request in order whether it hits by the test, after the requests of the past
  abbrev pub tested_marks : List K → List K → List Bool
  tested_marks past [] = []
  tested_marks past (x ∷ rs) = hits x past ∷ tested_marks (x ∷ past) rs

  count-tested : (past rs : List K) → count_by not (tested_marks past rs) ≡ missed_cost_after hits (λ _. 1) past rs
  count-tested past [] = refl
  count-tested past (x ∷ rs) =
      count_by-not-cons (hits x past) (tested_marks (x ∷ past) rs) ∙ ap (λ n. cond (hits x past) 0 1 + n) (count-tested (x ∷ past) rs)

module _ {K : Type 0} (eq : K → K → Bool) where
  -- a key is held where its latest request is found
  found_held : (x : K) (past : List K) → holds eq x past ≡ is_some (find (eq x) past)
  found_held x [] = refl
  found_held x (y ∷ past) = split (eq x y) (λ t. rw t refl) (λ f. rw f (found_held x past))

  of_same_count : (missed also new : List K → ℕ) → ((rs : List K) → also rs ≡ missed rs) → IsOfParts eq missed new → IsOfParts eq also new
  of_same_count missed also new same parts one two =
      rw (same (one ++ two), same one, same (lasts eq one ++ firsts eq two), same two) (parts one two)

module _ {K : Type 0} (eq : K → K → Bool) (laws : IsEquivalence eq) where
  -- lists that hold the same keys have them of the same cost
  sum_same : (f : K → ℕ) → SameWeights eq f → (xs ys : List K) → ((z : K) → holds eq z xs ≡ holds eq z ys)
      → sum_distinct eq f xs ≡ sum_distinct eq f ys
  sum_same f alike xs ys same =
      let up = sum_mono eq laws f alike xs ys (λ z h. sym (same z) ∙ h) in
      let down = sum_mono eq laws f alike ys xs (λ z h. same z ∙ h) in
      omega (arith, up, down)

  -- a test of what the keys since the latest request sum up to
  sum_by_latest : (f : K → ℕ) → SameWeights eq f → (fits : K → ℕ → Bool)
      → IsByLatest eq (λ x past. holds eq x past && fits x (sum_distinct eq f (since eq x past)))
  sum_by_latest f alike fits = record {
    first = λ x past new. rw new refl;
    alike = λ x past other found behind.
        let held : holds eq x past ≡ holds eq x other = found_held eq x past ∙ ap is_some found ∙ sym (found_held eq x other) in
        rw (held, sum_same f alike (since eq x past) (since eq x other) behind) refl;
  }

  one_each : SameWeights eq (λ _. 1)
  one_each x y same = refl

  size_each : (weight : K → ℕ) → SameWeights eq weight → SameWeights eq (λ x. 1 + weight x)
  size_each weight alike x y same = ap (λ w. 1 + w) (alike x y same)

  pub hit_by_latest : (k : ℕ) → IsByLatest eq (hit eq k)
  hit_by_latest k = sum_by_latest (λ _. 1) one_each (λ x n. nat_lt n k)

  pub size_by_latest : (weight : K → ℕ) (c : ℕ) → SameWeights eq weight → IsByLatest eq (hit_by_size eq weight c)
  size_by_latest weight c alike = sum_by_latest (λ x. 1 + weight x) (size_each weight alike) (λ x n. nat_le (1 + weight x + n) c)

  of_parts : (hits : K → List K → Bool) (cost : K → ℕ) → IsByLatest eq hits → SameWeights eq cost
      → IsOfParts eq (missed_cost hits cost) (sum_distinct eq cost)
  of_parts hits cost by_latest alike one two =
      let turned = sum_same cost alike one (reverse one) (λ z. sym (holds-reverse eq z one)) in
      let law = tested_parts_miss eq laws hits cost one two by_latest in
      omega (arith, turned, law)

  misses-tested : (k : ℕ) (past rs : List K) → marks_after eq k past rs ≡ tested_marks (hit eq k) past rs
  misses-tested k past [] = refl
  misses-tested k past (x ∷ rs) = ap (λ l. hit eq k x past ∷ l) (misses-tested k (x ∷ past) rs)

  pub parts_miss : PartsMiss eq
  parts_miss k = of_same_count eq (missed_cost (hit eq k) (λ _. 1)) (misses eq k) (distinct eq)
      (λ rs. ap (count_by not) (misses-tested k [] rs) ∙ count-tested (hit eq k) [] rs)
      (of_parts (hit eq k) (λ _. 1) (hit_by_latest k) one_each)

  module _ (weight : K → ℕ) (c : ℕ) where
    sized-tested : (past rs : List K) → marks_by_size_after eq weight c past rs ≡ tested_marks (hit_by_size eq weight c) past rs
    sized-tested past [] = refl
    sized-tested past (x ∷ rs) = ap (λ l. hit_by_size eq weight c x past ∷ l) (sized-tested (x ∷ past) rs)

    size-tested : (past rs : List K)
        → missed_size_after eq weight c past rs ≡ missed_cost_after (hit_by_size eq weight c) (λ x. 1 + weight x) past rs
    size-tested past [] = refl
    size-tested past (x ∷ rs) = ap (λ n. cond (hit_by_size eq weight c x past) 0 (1 + weight x) + n) (size-tested (x ∷ past) rs)

  pub parts_miss_by_size : PartsMissBySize eq
  parts_miss_by_size weight c alike =
      of_same_count eq (missed_cost (hit_by_size eq weight c) (λ _. 1)) (misses_by_size eq weight c) (distinct eq)
      (λ rs. ap (count_by not) (sized-tested weight c [] rs) ∙ count-tested (hit_by_size eq weight c) [] rs)
      (of_parts (hit_by_size eq weight c) (λ _. 1) (size_by_latest weight c alike) one_each)

  pub parts_miss_size : PartsMissSize eq
  parts_miss_size weight c alike =
      of_same_count eq (missed_cost (hit_by_size eq weight c) (λ x. 1 + weight x)) (missed_size eq weight c)
      (sum_distinct eq (λ x. 1 + weight x)) (size-tested weight c [])
      (of_parts (hit_by_size eq weight c) (λ x. 1 + weight x) (size_by_latest weight c alike) (size_each weight alike))

module _ {K : Type 0} (eq : K → K → Bool) where
  -- hits without times, soon enough after the latest request of the key
  abbrev hits_in_idle : (K → List K → Bool) → Option ℕ → K × ℕ → List (K × ℕ) → Bool
  hits_in_idle hits idle r past = hits r.0 (keys_of past) && is_recent eq idle r past

  -- the latest request with its time
  find-keys : (x : K) (past : List (K × ℕ)) → find (eq x) (keys_of past) ≡ option_map (λ r. r.0) (find (λ r. eq x r.0) past)
  find-keys x [] = refl
  find-keys x (q ∷ past) = split (eq x q.0) (λ t. rw t refl) (λ f. rw f (find-keys x past))

  lookup-find : (x : K) (past : List (K × ℕ)) → lookup (eq x) past ≡ option_map (λ r. r.1) (find (λ r. eq x r.0) past)
  lookup-find x [] = refl
  lookup-find x (q ∷ past) = split (eq x q.0) (λ t. rw t refl) (λ f. rw f (lookup-find x past))

  same_key_laws : IsEquivalence eq → IsEquivalence (is_same_key eq)
  same_key_laws laws = record {
    refl = λ r. laws.refl r.0;
    symm = λ r q. laws.symm r.0 q.0;
    congr = λ r q s. laws.congr r.0 q.0 s.0;
  }

  idle_by_latest : (hits : K → List K → Bool) (idle : Option ℕ) → IsByLatest eq hits → IsByLatest (is_same_key eq) (hits_in_idle hits idle)
  idle_by_latest hits idle by_latest = record {
    first = λ r past new. rw (by_latest.first r.0 (keys_of past) (holds-map eq (λ q. q.0) r past ∙ new)) refl;
    alike = λ r past other found behind.
        let keys : find (eq r.0) (keys_of past) ≡ find (eq r.0) (keys_of other) =
        find-keys r.0 past ∙ ap (option_map (λ q. q.0)) found ∙ sym (find-keys r.0 other) in
        let times : lookup (eq r.0) past ≡ lookup (eq r.0) other =
        lookup-find r.0 past ∙ ap (option_map (λ q. q.1)) found ∙ sym (lookup-find r.0 other) in
        let since_keys : (z : K) → holds eq z (since eq r.0 (keys_of past)) ≡ holds eq z (since eq r.0 (keys_of other)) =
        λ z. ap (holds eq z) (since-map eq (λ q. q.0) r past) ∙ holds-map eq (λ q. q.0) (z, 0) (since (is_same_key eq) r past)
        ∙ behind (z, 0) ∙ sym (holds-map eq (λ q. q.0) (z, 0) (since (is_same_key eq) r other))
        ∙ sym (ap (holds eq z) (since-map eq (λ q. q.0) r other)) in
        rw (by_latest.alike r.0 (keys_of past) (keys_of other) keys since_keys, times) refl;
  }

module _ {K : Type 0} (eq : K → K → Bool) (laws : IsEquivalence eq) where
  -- with an idle limit alone the marks are those of the test
  idle-tested : (hits : K → List K → Bool) (idle : Option ℕ) (past fetches rs : List (K × ℕ)) → AreFetched eq laws past fetches
      → aged_marks_after eq hits idle None past fetches rs ≡ tested_marks (hits_in_idle eq hits idle) past rs
  idle-tested hits idle past fetches [] all = refl
  idle-tested hits idle past fetches (r ∷ rs) all =
      let here : aged_hit eq hits idle None r past fetches ≡ hits_in_idle eq hits idle r past = idle_hit eq laws hits idle r past fetches all in
      split (aged_hit eq hits idle None r past fetches)
      (λ t. let held = (let (hit, soon, young) = aged_hit_parts eq hits idle None r past fetches t in recent_holds eq None r fetches young) in
      let rest = idle-tested hits idle (r ∷ past) fetches rs
      (λ x h. split (eq x r.0) (λ u. holds_same eq laws x r.0 (keys_of fetches) u ∙ held) (λ v. all x (rw v at h))) in
      rw (t, sym here ∙ t) (ap (λ ms. true ∷ ms) rest))
      (λ f. let rest = idle-tested hits idle (r ∷ past) (r ∷ fetches) rs
      (λ x h. split (eq x r.0) (λ u. rw u refl) (λ v. rw v (all x (rw v at h)))) in
      rw (f, sym here ∙ f) (ap (λ ms. false ∷ ms) rest))

  size_of-tested : (hits : K × ℕ → List (K × ℕ) → Bool) (weight : K → ℕ) (past rs : List (K × ℕ))
      → size_of_misses weight (tested_marks hits past rs) (keys_of rs) ≡ missed_cost_after hits (λ r. 1 + weight r.0) past rs
  size_of-tested hits weight past [] = refl
  size_of-tested hits weight past (r ∷ rs) =
      ap (λ n. cond (hits r past) 0 (1 + weight r.0) + n) (size_of-tested hits weight (r ∷ past) rs)

  module _ (hits : K → List K → Bool) (idle : Option ℕ) (by_latest : IsByLatest eq hits) where
    idle_counts_of_parts : IsOfParts (is_same_key eq) (aged_misses eq hits idle None) (distinct (is_same_key eq))
    idle_counts_of_parts =
        of_same_count (is_same_key eq) (missed_cost (hits_in_idle eq hits idle) (λ _. 1)) (aged_misses eq hits idle None)
        (distinct (is_same_key eq))
        (λ rs. ap (count_by not) (idle-tested hits idle [] [] rs (λ x h. h)) ∙ count-tested (hits_in_idle eq hits idle) [] rs)
        (of_parts (is_same_key eq) (same_key_laws eq laws) (hits_in_idle eq hits idle) (λ _. 1)
        (idle_by_latest eq hits idle by_latest) (one_each (is_same_key eq) (same_key_laws eq laws)))

  pub idle_parts_miss : IdlePartsMiss eq
  idle_parts_miss k idle = idle_counts_of_parts (hit eq k) idle (hit_by_latest eq laws k)

  pub idle_parts_miss_by_size : IdlePartsMissBySize eq
  idle_parts_miss_by_size weight c idle alike =
      idle_counts_of_parts (hit_by_size eq weight c) idle (size_by_latest eq laws weight c alike)

  pub idle_parts_miss_size : IdlePartsMissSize eq
  idle_parts_miss_size weight c idle alike =
      let by_size = hits_in_idle eq (hit_by_size eq weight c) idle in
      let size : K × ℕ → ℕ = λ r. 1 + weight r.0 in
      of_same_count (is_same_key eq) (missed_cost by_size size) (missed_size_in_idle eq weight c idle) (sum_distinct (is_same_key eq) size)
      (λ rs. ap (λ ms. size_of_misses weight ms (keys_of rs)) (idle-tested (hit_by_size eq weight c) idle [] [] rs (λ x h. h))
      ∙ size_of-tested by_size weight [] rs)
      (of_parts (is_same_key eq) (same_key_laws eq laws) by_size size
      (idle_by_latest eq (hit_by_size eq weight c) idle (size_by_latest eq laws weight c alike))
      (λ r q same. ap (λ w. 1 + w) (alike r.0 q.0 same)))
