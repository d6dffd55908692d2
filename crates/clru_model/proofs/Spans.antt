-- Requests by size: their spans, greater sizes, room for all, and sizes that are numbers of keys.
use Rattle.std.proofs.Common.{◌≡◌, ℕ, zero, suc, ◌+◌, ◌≤◌, Bool, true, cond, not, Some, List, [], ◌∷◌, ◌++◌, map, reverse}
use Rattle.std.proofs.Common.{leb, leb-true, append-nil, refl, sym, ap, arith}
use Rattle.std.proofs.lemmas.Bool.{and_parts, and_from, le-leb}
use Rattle.std.proofs.lemmas.Bool.Decides.{nat_tests}
use Rattle.std.proofs.lemmas.Option.{same_Some}
use Rattle.std.specs.Cmp.{IsEquivalence}
use Rattle.std.specs.List.{slice_get, count_by}
use Rattle.std.specs.Option.{option_map}
use Rattle.clru_model.specs.Distances.{distance}
use Rattle.clru_model.specs.Requests.{holds, distinct, since, hit, marks_after}
use Rattle.clru_model.specs.Sizes.{SameWeights, total, span, spans_after, hit_by_size, marks_by_size_after}
use Rattle.clru_model.specs.Sizes.{misses_by_size, missed_size_after, missed_size}
use Rattle.clru_model.specs.Spans.{is_within, size_of_misses}
use Rattle.clru_model.proofs.Marks.{missed-le}
use Rattle.clru_model.proofs.Cases.{split}
use Rattle.clru_model.proofs.Marks.{count_by-not-cons, reverse-cons-append}
use Rattle.clru_model.proofs.Distinct.{span_within}

module _ {K : Type 0} (eq : K → K → Bool) (weight : K → ℕ) where
  -- a request hits at the sizes from its span on
  pub hits_within : (c : ℕ) (x : K) (past : List K) → hit_by_size eq weight c x past ≡ is_within c (span eq weight x past)
  hits_within c x past = split (holds eq x past) (λ t. rw t refl) (λ f. rw f refl)

  pub marks_within : (c : ℕ) (past requests : List K)
      → marks_by_size_after eq weight c past requests ≡ map (is_within c) (spans_after eq weight past requests)
  marks_within c past [] = refl
  marks_within c past (x ∷ rs) = cc (hits_within c x past, marks_within c (x ∷ past) rs)

  -- the size that is missed is that of the false marks
  pub missed_by_marks : (c : ℕ) (past requests : List K)
      → missed_size_after eq weight c past requests
      ≡ size_of_misses weight (marks_by_size_after eq weight c past requests) requests
  missed_by_marks c past [] = refl
  missed_by_marks c past (x ∷ rs) =
      ap (λ n. cond (hit_by_size eq weight c x past) 0 (1 + weight x) + n) (missed_by_marks c (x ∷ past) rs)

  module _ {c d : ℕ} (more : c ≤ d) where
    -- what hits still does at a greater size
    pub hit_by_size_grows : (past : List K) (x : K) → hit_by_size eq weight c x past ≡ true → hit_by_size eq weight d x past ≡ true
    hit_by_size_grows past x h =
        let n : ℕ = 1 + weight x + total eq weight (since eq x past) in
        let parts = and_parts (holds eq x past) (leb n c) h in
        and_from (holds eq x past) (leb n d) parts.0 (le-leb n d (omega (arith, more, leb-true n c parts.1)))

    pub marks_by_size_grow : (past rs : List K) (i : ℕ) → slice_get (marks_by_size_after eq weight c past rs) i ≡ Some true
        → slice_get (marks_by_size_after eq weight d past rs) i ≡ Some true
    marks_by_size_grow past [] i h = cc
    marks_by_size_grow past (x ∷ rs) zero h = ap Some (hit_by_size_grows past x (same_Some _ _ h))
    marks_by_size_grow past (x ∷ rs) (suc i) h = marks_by_size_grow (x ∷ past) rs i h

    pub misses_by_size_fall : (past rs : List K)
        → count_by not (marks_by_size_after eq weight d past rs) ≤ count_by not (marks_by_size_after eq weight c past rs)
    misses_by_size_fall past [] = omega arith
    misses_by_size_fall past (x ∷ rs) =
        let ih = misses_by_size_fall (x ∷ past) rs in
        rw (count_by-not-cons (hit_by_size eq weight d x past), count_by-not-cons (hit_by_size eq weight c x past))
        (split (hit_by_size eq weight c x past)
        (λ t. rw (t, hit_by_size_grows past x t) (omega (arith, ih)))
        (λ f. rw f (omega (arith, ih, missed-le (hit_by_size eq weight d x past) 1))))

    pub missed_size_falls : (past rs : List K) → missed_size_after eq weight d past rs ≤ missed_size_after eq weight c past rs
    missed_size_falls past [] = omega arith
    missed_size_falls past (x ∷ rs) =
        let ih = missed_size_falls (x ∷ past) rs in
        split (hit_by_size eq weight c x past)
        (λ t. rw (t, hit_by_size_grows past x t) (omega (arith, ih)))
        (λ f. split (hit_by_size eq weight d x past) (λ u. rw (f, u) (omega (arith, ih))) (λ v. rw (f, v) (omega (arith, ih))))

  module _ (none : (k : K) → weight k ≡ 0) where
    pub total_weightless : (past : List K) → total eq weight past ≡ distinct eq past
    total_weightless [] = refl
    total_weightless (x ∷ past) =
        rw (none x, total_weightless past) (split (holds eq x past) (λ t. rw t refl) (λ f. rw f (omega arith)))

    pub span_weightless : (x : K) (past : List K) → span eq weight x past ≡ option_map suc (distance eq x past)
    span_weightless x past = rw (none x, total_weightless (since eq x past)) (split (holds eq x past)
        (λ t. rw t (ap Some (omega arith)))
        (λ f. rw f refl))

    hit_weightless : (c : ℕ) (x : K) (past : List K) → hit_by_size eq weight c x past ≡ hit eq c x past
    hit_weightless c x past = rw (none x, total_weightless (since eq x past)) (split (holds eq x past)
        (λ t. rw t (grind (arith, nat_tests)))
        (λ f. rw f refl))

    pub marks_weightless : (c : ℕ) (past rs : List K) → marks_by_size_after eq weight c past rs ≡ marks_after eq c past rs
    marks_weightless c past [] = refl
    marks_weightless c past (x ∷ rs) = cc (hit_weightless c x past, marks_weightless c (x ∷ past) rs)

    pub missed_weightless : (c : ℕ) (past rs : List K)
        → missed_size_after eq weight c past rs ≡ count_by not (marks_after eq c past rs)
    missed_weightless c past [] = refl
    missed_weightless c past (x ∷ rs) =
        rw (hit_weightless c x past, none x, missed_weightless c (x ∷ past) rs)
        (sym (count_by-not-cons (hit eq c x past) (marks_after eq c (x ∷ past) rs)))

module _ {K : Type 0} (eq : K → K → Bool) (laws : IsEquivalence eq) (weight : K → ℕ) (same : SameWeights eq weight) (c : ℕ) where
  -- with room for the requests of the past and those to come, a request hits where its key was requested
  first_misses : (past rs : List K) → total eq weight (reverse rs ++ past) ≤ c
      → (count_by not (marks_by_size_after eq weight c past rs) + distinct eq past ≡ distinct eq (reverse rs ++ past))
      × (missed_size_after eq weight c past rs + total eq weight past ≡ total eq weight (reverse rs ++ past))
  first_misses past [] room = (omega arith, omega arith)
  first_misses past (x ∷ rs) room =
      let turned = reverse-cons-append eq x rs past in
      let within : total eq weight (reverse rs ++ (x ∷ past)) ≤ c = omega (arith, room, ap (total eq weight) turned) in
      let ih = first_misses (x ∷ past) rs within in
      let here : total eq weight (x ∷ past) ≤ c = omega (arith, ih.1, within) in
      rw (turned, count_by-not-cons (hit_by_size eq weight c x past) (marks_by_size_after eq weight c (x ∷ past) rs))
      (split (holds eq x past)
      (λ t. let span_fits = span_within eq laws weight same x past t in
      let before : total eq weight past ≤ c = rw t at here in
      let n : ℕ = 1 + weight x + total eq weight (since eq x past) in
      let low : leb n c ≡ true = le-leb n c (omega (arith, span_fits, before)) in
      let parts = rw t at ih in
      rw (t, low) (omega (arith, parts.0), omega (arith, parts.1)))
      (λ f. let parts = rw f at ih in
      rw f (omega (arith, parts.0), omega (arith, parts.1))))

  -- with room for all keys the first request of each misses
  pub room_misses_first : (rs : List K) → total eq weight (reverse rs) ≤ c
      → (misses_by_size eq weight c rs ≡ distinct eq (reverse rs)) × (missed_size eq weight c rs ≡ total eq weight (reverse rs))
  room_misses_first rs room =
      let whole = append-nil (reverse rs) in
      let both = first_misses [] rs (omega (arith, room, ap (total eq weight) whole)) in
      (omega (arith, both.0, ap (distinct eq) whole), omega (arith, both.1, ap (total eq weight) whole))
