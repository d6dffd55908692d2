-- The marks of requests at a capacity and at a greater one.
use Rattle.std.proofs.Common.{◌≡◌, ℕ, zero, suc, ◌≤◌, Bool, true, not, Some, List, [], ◌∷◌, ltb, ltb-true, lt-ltb, ap, arith}
use Rattle.std.proofs.lemmas.Bool.{and_parts, and_from}
use Rattle.std.proofs.lemmas.Option.{same_Some}
use Rattle.std.specs.List.{slice_get, count_by}
use Rattle.clru_model.proofs.Cases.{split}
use Rattle.clru_model.specs.Requests.{holds, distinct, since, hit, marks_after, marks, misses}
use Rattle.clru_model.proofs.Marks.{missed-le}
use Rattle.clru_model.proofs.Marks.{count_by-not-cons}

module _ {K : Type 0} (eq : K → K → Bool) {k l : ℕ} (more : k ≤ l) where
  -- what hits still does
  pub hit_grows : (past : List K) (x : K) → hit eq k x past ≡ true → hit eq l x past ≡ true
  hit_grows past x h =
      let n : ℕ = distinct eq (since eq x past) in
      let parts = and_parts (holds eq x past) (ltb n k) h in
      and_from (holds eq x past) (ltb n l) parts.0 (lt-ltb n l (omega (arith, ltb-true n k parts.1)))

  marks_after_grow : (past rs : List K) (i : ℕ) → slice_get (marks_after eq k past rs) i ≡ Some true → slice_get (marks_after eq l past rs) i ≡ Some true
  marks_after_grow past [] i h = cc
  marks_after_grow past (x ∷ rs) zero h = ap Some (hit_grows past x (same_Some _ _ h))
  marks_after_grow past (x ∷ rs) (suc i) h = marks_after_grow (x ∷ past) rs i h

  misses_after_fall : (past rs : List K) → count_by not (marks_after eq l past rs) ≤ count_by not (marks_after eq k past rs)
  misses_after_fall past [] = omega arith
  misses_after_fall past (x ∷ rs) =
      let ih = misses_after_fall (x ∷ past) rs in
      rw (count_by-not-cons (hit eq l x past), count_by-not-cons (hit eq k x past)) (split (hit eq k x past)
      (λ t. rw (t, hit_grows past x t) (omega arith))
      (λ f. rw f (omega (arith, missed-le (hit eq l x past) 1))))

  -- a true mark stays true at a greater capacity
  pub marks_grow : (rs : List K) (i : ℕ) → slice_get (marks eq k rs) i ≡ Some true → slice_get (marks eq l rs) i ≡ Some true
  marks_grow = marks_after_grow []

  -- and there are no more misses
  pub misses_fall : (rs : List K) → misses eq l rs ≤ misses eq k rs
  misses_fall = misses_after_fall []
