-- Hits, marks and misses by the distances of requests.
use Rattle.std.proofs.Common.{◌≡◌, ℕ, ◌+◌, ◌≤◌, Bool, true, false, cond, List, [], ◌∷◌, map, reverse, refl, ap, ◌∙◌, arith}
use Rattle.std.proofs.lemmas.Bool.Decides.{nat_tests}
use Rattle.std.proofs.lemmas.List.{reverse-append, reverse-reverse}
use Rattle.std.specs.Prelude.{nat_lt}
use Rattle.std.specs.Cmp.{IsEquivalence}
use Rattle.clru_model.specs.Requests.{holds, distinct, since, hit, marks_after, misses}
use Rattle.clru_model.proofs.Cases.{split}
use Rattle.clru_model.proofs.Distinct.{since_within, distinct_since_less}
use Rattle.clru_model.proofs.Marks.{misses_push}
use Rattle.clru_model.specs.Distances.{distance, is_below, distances_after}

module _ {K : Type 0} (eq : K → K → Bool) where
  -- a request hits at the capacities above its distance
  pub hits_below : (k : ℕ) (x : K) (past : List K) → hit eq k x past ≡ is_below k (distance eq x past)
  hits_below k x past = split (holds eq x past) (λ t. rw t refl) (λ f. rw f refl)

  pub marks_below : (k : ℕ) (past requests : List K) → marks_after eq k past requests ≡ map (is_below k) (distances_after eq past requests)
  marks_below k past [] = refl
  marks_below k past (x ∷ rs) = cc (hits_below k x past, marks_below k (x ∷ past) rs)

  -- the misses after one more request, of the requests with the latest first
  pub misses-cons : (k : ℕ) (x : K) (past : List K)
      → misses eq k (reverse (x ∷ past)) ≡ misses eq k (reverse past) + cond (hit eq k x past) 0 1
  misses-cons k x past =
      ap (misses eq k) (reverse-append (x ∷ []) past) ∙ misses_push eq k (reverse past) x
      ∙ ap (λ l. misses eq k (reverse past) + cond (hit eq k x l) 0 1) (reverse-reverse past)

module _ {K : Type 0} (eq : K → K → Bool) (laws : IsEquivalence eq) where
  -- with room for all keys the first request of each misses
  pub misses-room : (k : ℕ) (past : List K) → distinct eq past ≤ k → misses eq k (reverse past) ≡ distinct eq past
  misses-room k [] room = refl
  misses-room k (x ∷ past) room =
      let pushed = misses-cons eq k x past in
      split (holds eq x past)
      (λ t. let before : distinct eq past ≤ k = rw t at room in
      let less = distinct_since_less eq laws x past past t (λ z g. since_within eq laws x z past g) in
      let low : nat_lt (distinct eq (since eq x past)) k ≡ true = grind (arith, nat_tests) in
      let here : hit eq k x past ≡ true = rw t low in
      let ih = misses-room k past before in
      rw t (pushed ∙ rw here (omega (arith, ih))))
      (λ f. let above = rw f at room in
      let here : hit eq k x past ≡ false = rw f refl in
      let ih = misses-room k past (omega (arith, above)) in
      rw f (pushed ∙ rw here (omega (arith, ih))))
