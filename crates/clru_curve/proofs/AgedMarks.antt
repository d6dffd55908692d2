-- The marks of requests with times under an age limit, and which of them were fetched, after one more request.
use Rattle.std.proofs.Common.{◌≡◌, ℕ, suc, ◌+◌, Bool, true, false, cond, not, Option, List, [], ◌∷◌, ◌++◌, length, reverse, append-nil, refl, sym, ap, ◌∙◌}
use Rattle.std.proofs.lemmas.List.{reverse-reverse}
use Rattle.std.specs.List.{count_by}
use Rattle.std.specs.Map.{keys_of}
use Rattle.clru_model.proofs.Cases.{split}
use Rattle.clru_model.proofs.Marks.{count_by-not-push, reverse-cons-append}
use Rattle.clru_model.specs.Ages.{aged_hit, aged_marks, aged_marks_after, aged_misses}
use Rattle.clru_model.specs.Spans.{size_of_misses}
use Rattle.clru_curve.specs.SizedAgedPasses.{fetches_of}
use Rattle.clru_curve.proofs.IdleReuses.{turned, keys_of_push, size_of_misses_push}

module _ {K : Type 0} (eq : K → K → Bool) (hits : K → List K → Bool) (idle age : Option ℕ) where
  -- the fetches after requests in order
  abbrev fetches_after : (past fetches rs : List (K × ℕ)) → List (K × ℕ)
  fetches_after past fetches [] = fetches
  fetches_after past fetches (r ∷ rs) = cond (aged_hit eq hits idle age r past fetches)
      (fetches_after (r ∷ past) fetches rs) (fetches_after (r ∷ past) (r ∷ fetches) rs)

  -- the fetches with one more request, of which the past is given
  abbrev after_one : K × ℕ → (past fetches : List (K × ℕ)) → List (K × ℕ)
  after_one r past fetches = cond (aged_hit eq hits idle age r past fetches) fetches (r ∷ fetches)

  fetches_after_push : (past fetches rs : List (K × ℕ)) (r : K × ℕ)
      → fetches_after past fetches (rs ++ r ∷ []) ≡ after_one r (reverse rs ++ past) (fetches_after past fetches rs)
  fetches_after_push past fetches [] r = refl
  fetches_after_push past fetches (q ∷ qs) r =
      let turn = sym (reverse-cons-append (λ x y. true) q qs past) in
      split (aged_hit eq hits idle age q past fetches)
      (λ t. rw t (fetches_after_push (q ∷ past) fetches qs r ∙ ap (λ l. after_one r l (fetches_after (q ∷ past) fetches qs)) turn))
      (λ f. rw f (fetches_after_push (q ∷ past) (q ∷ fetches) qs r ∙ ap (λ l. after_one r l (fetches_after (q ∷ past) (q ∷ fetches) qs)) turn))

  fetches_turned : (past : List (K × ℕ)) → fetches_after [] [] (reverse past) ≡ fetches_of eq hits idle age past
  fetches_turned [] = refl
  fetches_turned (r ∷ past) =
      ap (fetches_after [] []) (turned r past) ∙ fetches_after_push [] [] (reverse past) r
      ∙ ap (λ l. after_one r l (fetches_after [] [] (reverse past))) (append-nil (reverse (reverse past)) ∙ reverse-reverse past)
      ∙ ap (λ l. after_one r past l) (fetches_turned past)

  marks_after_push : (past fetches rs : List (K × ℕ)) (r : K × ℕ) → aged_marks_after eq hits idle age past fetches (rs ++ r ∷ [])
      ≡ aged_marks_after eq hits idle age past fetches rs ++ aged_hit eq hits idle age r (reverse rs ++ past) (fetches_after past fetches rs) ∷ []
  marks_after_push past fetches [] r = split (aged_hit eq hits idle age r past fetches) (λ t. rw t refl) (λ f. rw f refl)
  marks_after_push past fetches (q ∷ qs) r =
      let turn = sym (reverse-cons-append (λ x y. true) q qs past) in
      split (aged_hit eq hits idle age q past fetches)
      (λ t. rw t (ap (λ l. true ∷ l) (marks_after_push (q ∷ past) fetches qs r
      ∙ ap (λ l. aged_marks_after eq hits idle age (q ∷ past) fetches qs
      ++ aged_hit eq hits idle age r l (fetches_after (q ∷ past) fetches qs) ∷ []) turn)))
      (λ f. rw f (ap (λ l. false ∷ l) (marks_after_push (q ∷ past) (q ∷ fetches) qs r
      ∙ ap (λ l. aged_marks_after eq hits idle age (q ∷ past) (q ∷ fetches) qs
      ++ aged_hit eq hits idle age r l (fetches_after (q ∷ past) (q ∷ fetches) qs) ∷ []) turn)))

  -- the marks with one more request, the latest first
  marks-cons : (r : K × ℕ) (past : List (K × ℕ)) → aged_marks eq hits idle age (reverse (r ∷ past))
      ≡ aged_marks eq hits idle age (reverse past) ++ aged_hit eq hits idle age r past (fetches_of eq hits idle age past) ∷ []
  marks-cons r past =
      ap (aged_marks_after eq hits idle age [] []) (turned r past) ∙ marks_after_push [] [] (reverse past) r
      ∙ ap (λ l. aged_marks eq hits idle age (reverse past) ++ aged_hit eq hits idle age r l (fetches_after [] [] (reverse past)) ∷ [])
      (append-nil (reverse (reverse past)) ∙ reverse-reverse past)
      ∙ ap (λ l. aged_marks eq hits idle age (reverse past) ++ aged_hit eq hits idle age r past l ∷ []) (fetches_turned past)

  pub aged_misses-cons : (r : K × ℕ) (past : List (K × ℕ)) → aged_misses eq hits idle age (reverse (r ∷ past))
      ≡ aged_misses eq hits idle age (reverse past) + cond (aged_hit eq hits idle age r past (fetches_of eq hits idle age past)) 0 1
  aged_misses-cons r past =
      ap (count_by not) (marks-cons r past)
      ∙ count_by-not-push (aged_marks eq hits idle age (reverse past)) (aged_hit eq hits idle age r past (fetches_of eq hits idle age past))

  many_marks : (past fetches rs : List (K × ℕ)) → length (aged_marks_after eq hits idle age past fetches rs) ≡ length (keys_of rs)
  many_marks past fetches [] = refl
  many_marks past fetches (r ∷ rs) = split (aged_hit eq hits idle age r past fetches)
      (λ t. rw t (ap suc (many_marks (r ∷ past) fetches rs)))
      (λ f. rw f (ap suc (many_marks (r ∷ past) (r ∷ fetches) rs)))

  pub aged_missed-cons : (weight : K → ℕ) (r : K × ℕ) (past : List (K × ℕ))
      → size_of_misses weight (aged_marks eq hits idle age (reverse (r ∷ past))) (keys_of (reverse (r ∷ past)))
      ≡ size_of_misses weight (aged_marks eq hits idle age (reverse past)) (keys_of (reverse past))
      + cond (aged_hit eq hits idle age r past (fetches_of eq hits idle age past)) 0 (1 + weight r.0)
  aged_missed-cons weight r past =
      let mark = aged_hit eq hits idle age r past (fetches_of eq hits idle age past) in
      ap (λ ms. size_of_misses weight ms (keys_of (reverse (r ∷ past)))) (marks-cons r past)
      ∙ ap (size_of_misses weight (aged_marks eq hits idle age (reverse past) ++ mark ∷ []))
      (ap keys_of (turned r past) ∙ keys_of_push (reverse past) r)
      ∙ size_of_misses_push weight (aged_marks eq hits idle age (reverse past)) (keys_of (reverse past)) mark r.0 (many_marks [] [] (reverse past))

  -- where the latest fetch of a key is, after one more request
  pub fetched-hit : (r : K × ℕ) (past : List (K × ℕ)) → aged_hit eq hits idle age r past (fetches_of eq hits idle age past) ≡ true
      → fetches_of eq hits idle age (r ∷ past) ≡ fetches_of eq hits idle age past
  fetched-hit r past t = rw t refl

  pub fetched-miss : (r : K × ℕ) (past : List (K × ℕ)) → aged_hit eq hits idle age r past (fetches_of eq hits idle age past) ≡ false
      → fetches_of eq hits idle age (r ∷ past) ≡ r ∷ fetches_of eq hits idle age past
  fetched-miss r past f = rw f refl

-- the same hits without times make the same marks
module _ {K : Type 0} (eq : K → K → Bool) (hits hits' : K → List K → Bool) (same : (x : K) (past : List K) → hits x past ≡ hits' x past)
    (idle age : Option ℕ) where
  same_marks_after : (past fetches rs : List (K × ℕ)) → aged_marks_after eq hits idle age past fetches rs ≡ aged_marks_after eq hits' idle age past fetches rs
  same_marks_after past fetches [] = refl
  same_marks_after past fetches (r ∷ rs) =
      let here : aged_hit eq hits idle age r past fetches ≡ aged_hit eq hits' idle age r past fetches = rw (same r.0 (keys_of past)) refl in
      split (aged_hit eq hits' idle age r past fetches)
      (λ t. rw (t, here ∙ t) (ap (λ l. true ∷ l) (same_marks_after (r ∷ past) fetches rs)))
      (λ f. rw (f, here ∙ f) (ap (λ l. false ∷ l) (same_marks_after (r ∷ past) (r ∷ fetches) rs)))

  pub same_aged_misses : (rs : List (K × ℕ)) → aged_misses eq hits idle age rs ≡ aged_misses eq hits' idle age rs
  same_aged_misses rs = ap (count_by not) (same_marks_after [] [] rs)
