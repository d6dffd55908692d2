-- The reuses and marks of requests with times under an idle limit, after one more request.
use Rattle.std.proofs.Common.{◌≡◌, ℕ, suc, ◌+◌, Bool, true, false, cond, not, Option, None, Some, List, [], ◌∷◌, ◌++◌, length, map, reverse, append-nil, refl, sym, ap, ◌∙◌, arith}
use Rattle.std.proofs.lemmas.List.{length-map, map-append, reverse-append, reverse-reverse}
use Rattle.std.specs.List.{count_by}
use Rattle.std.specs.Map.{keys_of}
use Rattle.clru_model.proofs.Cases.{split}
use Rattle.clru_model.proofs.Marks.{count_by-not-push, reverse-cons-append}
use Rattle.clru_model.specs.Ages.{is_recent, aged_marks, aged_misses, reuses_after}
use Rattle.clru_model.specs.Spans.{size_of_misses}
use Rattle.clru_curve.specs.Seen.{reuse_by}

-- one more request with the latest first is one behind the others in order
pub turned : {X : Type 0} (x : X) (xs : List X) → reverse (x ∷ xs) ≡ reverse xs ++ x ∷ []
turned x xs = reverse-append (x ∷ []) xs

pub keys_of_push : {K : Type 0} (rs : List (K × ℕ)) (r : K × ℕ) → keys_of (rs ++ r ∷ []) ≡ keys_of rs ++ r.0 ∷ []
keys_of_push {K = K} rs r = map-append (λ (e : K × ℕ). e.0) rs (r ∷ [])

pub keys_of-reverse : {K : Type 0} (rs : List (K × ℕ)) → keys_of (reverse rs) ≡ reverse (keys_of rs)
keys_of-reverse [] = refl
keys_of-reverse (r ∷ rs) =
    ap keys_of (turned r rs) ∙ keys_of_push (reverse rs) r ∙ ap (λ l. l ++ r.0 ∷ []) (keys_of-reverse rs) ∙ sym (turned r.0 (keys_of rs))

-- the size that is missed, with one more mark at the end
pub size_of_misses_push : {K : Type 0} (weight : K → ℕ) (ms : List Bool) (ks : List K) (m : Bool) (k : K) → length ms ≡ length ks
    → size_of_misses weight (ms ++ m ∷ []) (ks ++ k ∷ []) ≡ size_of_misses weight ms ks + cond m 0 (1 + weight k)
size_of_misses_push weight [] [] m k same = omega arith
size_of_misses_push weight [] (x ∷ ks) m k same = omega (arith, same)
size_of_misses_push weight (n ∷ ms) [] m k same = omega (arith, same)
size_of_misses_push weight (n ∷ ms) (x ∷ ks) m k same =
    let ih = size_of_misses_push weight ms ks m k (omega (arith, same)) in omega (arith, ih)

module _ {K : Type 0} (eq : K → K → Bool) (measure : K → List K → Option ℕ) (idle : ℕ) where
  length-reuses : (past rs : List (K × ℕ)) → length (reuses_after eq measure (Some idle) past rs) ≡ length rs
  length-reuses past [] = refl
  length-reuses past (r ∷ rs) = ap suc (length-reuses (r ∷ past) rs)

  -- the reuses with one more request at the end
  reuses_after_push : (past rs : List (K × ℕ)) (r : K × ℕ) → reuses_after eq measure (Some idle) past (rs ++ r ∷ [])
      ≡ reuses_after eq measure (Some idle) past rs ++ reuse_by eq measure idle r (reverse rs ++ past) ∷ []
  reuses_after_push past [] r = refl
  reuses_after_push past (q ∷ qs) r =
      ap (λ l. reuse_by eq measure idle q past ∷ l) (reuses_after_push (q ∷ past) qs r
      ∙ ap (λ l. reuses_after eq measure (Some idle) (q ∷ past) qs ++ reuse_by eq measure idle r l ∷ [])
      (sym (reverse-cons-append (λ x y. true) q qs past)))

  -- and so of requests with the latest first
  reuses-cons : (past : List (K × ℕ)) (r : K × ℕ) → reuses_after eq measure (Some idle) [] (reverse (r ∷ past))
      ≡ reuses_after eq measure (Some idle) [] (reverse past) ++ reuse_by eq measure idle r past ∷ []
  reuses-cons past r =
      ap (reuses_after eq measure (Some idle) []) (turned r past) ∙ reuses_after_push [] (reverse past) r
      ∙ ap (λ l. reuses_after eq measure (Some idle) [] (reverse past) ++ reuse_by eq measure idle r l ∷ [])
      (append-nil (reverse (reverse past)) ∙ reverse-reverse past)

  -- a request that comes too late has no reuse
  pub reuse-late : (r : K × ℕ) (past : List (K × ℕ)) → is_recent eq (Some idle) r past ≡ false → reuse_by eq measure idle r past ≡ None
  reuse-late r past late = rw late refl

  pub reuse-soon : (r : K × ℕ) (past : List (K × ℕ)) → is_recent eq (Some idle) r past ≡ true
      → reuse_by eq measure idle r past ≡ measure r.0 (keys_of past)
  reuse-soon r past soon = rw soon refl

  -- and neither has one of a key that has no measure
  pub reuse-new : (r : K × ℕ) (past : List (K × ℕ)) → measure r.0 (keys_of past) ≡ None → reuse_by eq measure idle r past ≡ None
  reuse-new r past none = split (is_recent eq (Some idle) r past) (λ t. rw (t, none) refl) (λ f. rw f refl)

  -- where marks are those of the reuses
  module _ (hits : K → List K → Bool) (test : Option ℕ → Bool)
      (are : (rs : List (K × ℕ)) → aged_marks eq hits (Some idle) None rs ≡ map test (reuses_after eq measure (Some idle) [] rs)) where
    marks-cons : (past : List (K × ℕ)) (r : K × ℕ) → aged_marks eq hits (Some idle) None (reverse (r ∷ past))
        ≡ aged_marks eq hits (Some idle) None (reverse past) ++ test (reuse_by eq measure idle r past) ∷ []
    marks-cons past r =
        are (reverse (r ∷ past)) ∙ ap (map test) (reuses-cons past r)
        ∙ map-append test (reuses_after eq measure (Some idle) [] (reverse past)) (reuse_by eq measure idle r past ∷ [])
        ∙ ap (λ ms. ms ++ test (reuse_by eq measure idle r past) ∷ []) (sym (are (reverse past)))

    pub aged_misses-cons : (past : List (K × ℕ)) (r : K × ℕ) → aged_misses eq hits (Some idle) None (reverse (r ∷ past))
        ≡ aged_misses eq hits (Some idle) None (reverse past) + cond (test (reuse_by eq measure idle r past)) 0 1
    aged_misses-cons past r =
        ap (count_by not) (marks-cons past r)
        ∙ count_by-not-push (aged_marks eq hits (Some idle) None (reverse past)) (test (reuse_by eq measure idle r past))

    many_marks : (rs : List (K × ℕ)) → length (aged_marks eq hits (Some idle) None rs) ≡ length (keys_of rs)
    many_marks rs =
        ap (λ (ms : List Bool). length ms) (are rs) ∙ length-map (reuses_after eq measure (Some idle) [] rs) test ∙ length-reuses [] rs
        ∙ sym (length-map rs (λ (e : K × ℕ). e.0))

    pub aged_missed-cons : (weight : K → ℕ) (past : List (K × ℕ)) (r : K × ℕ)
        → size_of_misses weight (aged_marks eq hits (Some idle) None (reverse (r ∷ past))) (keys_of (reverse (r ∷ past)))
        ≡ size_of_misses weight (aged_marks eq hits (Some idle) None (reverse past)) (keys_of (reverse past))
        + cond (test (reuse_by eq measure idle r past)) 0 (1 + weight r.0)
    aged_missed-cons weight past r =
        ap (λ ms. size_of_misses weight ms (keys_of (reverse (r ∷ past)))) (marks-cons past r)
        ∙ ap (size_of_misses weight (aged_marks eq hits (Some idle) None (reverse past) ++ test (reuse_by eq measure idle r past) ∷ []))
        (ap keys_of (turned r past) ∙ keys_of_push (reverse past) r)
        ∙ size_of_misses_push weight (aged_marks eq hits (Some idle) None (reverse past)) (keys_of (reverse past)) (test (reuse_by eq measure idle r past)) r.0
        (many_marks (reverse past))
