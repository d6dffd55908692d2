-- With an idle limit alone, or with none, the marks of requests with times are those of their distances or spans.
use Rattle.std.proofs.Common.{◌≡◌, ℕ, Bool, true, false, cond, ◌&&◌, Option, None, List, [], ◌∷◌, map}
use Rattle.std.proofs.Common.{refl, sym, ap, ◌∙◌}
use Rattle.std.specs.Cmp.{IsEquivalence}
use Rattle.std.specs.Map.{keys_of}
use Rattle.clru_model.specs.Ages.{is_recent, aged_hit, aged_marks_after, reuses_after}
use Rattle.clru_model.specs.Ages.{UnlimitedMarksAreMarks, UnlimitedMarksAreMarksBySize, IdleMarksAreBelow, IdleMarksAreWithin}
use Rattle.clru_model.specs.Distances.{distance, is_below, distances_after}
use Rattle.clru_model.specs.Requests.{holds, hit}
use Rattle.clru_model.specs.Sizes.{span, spans_after, hit_by_size}
use Rattle.clru_model.specs.Spans.{is_within}
use Rattle.clru_model.proofs.Ages.{aged_hit_parts, recent_grows}
use Rattle.clru_model.proofs.Cases.{split}
use Rattle.clru_model.proofs.Distances.{hits_below, marks_below}
use Rattle.clru_model.proofs.Distinct.{holds_same}
use Rattle.clru_model.proofs.Spans.{hits_within, marks_within}

module _ {K : Type 0} (eq : K → K → Bool) where
  -- without a limit a request is soon enough where its key came before
  pub recent_unlimited : (r : K × ℕ) (rs : List (K × ℕ)) → is_recent eq None r rs ≡ holds eq r.0 (keys_of rs)
  recent_unlimited r [] = refl
  recent_unlimited r (q ∷ rs) = split (eq r.0 q.0) (λ t. rw t refl) (λ f. rw f (recent_unlimited r rs))

  pub recent_holds : (limit : Option ℕ) (r : K × ℕ) (rs : List (K × ℕ)) → is_recent eq limit r rs ≡ true → holds eq r.0 (keys_of rs) ≡ true
  recent_holds limit r rs recent = sym (recent_unlimited r rs) ∙ recent_grows eq limit None (λ n within. refl) r rs recent

module _ {K : Type 0} (eq : K → K → Bool) (laws : IsEquivalence eq) where
  -- each key that was requested was fetched
  abbrev pub AreFetched : (past fetches : List (K × ℕ)) → Type 0
  AreFetched past fetches = (x : K) → holds eq x (keys_of past) ≡ true → holds eq x (keys_of fetches) ≡ true

  module _ (hits : K → List K → Bool) (idle : Option ℕ) where
    -- with an idle limit alone
    pub idle_hit : (r : K × ℕ) (past fetches : List (K × ℕ)) → AreFetched past fetches
        → aged_hit eq hits idle None r past fetches ≡ (hits r.0 (keys_of past) && is_recent eq idle r past)
    idle_hit r past fetches all = split (is_recent eq idle r past)
        (λ t. let young : is_recent eq None r fetches ≡ true = recent_unlimited eq r fetches ∙ all r.0 (recent_holds eq idle r past t) in
        rw (t, young) (split (hits r.0 (keys_of past)) (λ u. rw u refl) (λ v. rw v refl)))
        (λ f. rw f (split (hits r.0 (keys_of past)) (λ u. rw u refl) (λ v. rw v refl)))

    module _ (test : Option ℕ → Bool) (measure : K → List K → Option ℕ) (none : test None ≡ false)
        (tells : (x : K) (past : List K) → hits x past ≡ test (measure x past)) where
      idle_marks_after : (past fetches rs : List (K × ℕ)) → AreFetched past fetches
          → aged_marks_after eq hits idle None past fetches rs ≡ map test (reuses_after eq measure idle past rs)
      idle_marks_after past fetches [] all = refl
      idle_marks_after past fetches (r ∷ rs) all =
          let here : aged_hit eq hits idle None r past fetches ≡ test (cond (is_recent eq idle r past) (measure r.0 (keys_of past)) None) =
          idle_hit r past fetches all ∙ rw (tells r.0 (keys_of past)) (split (is_recent eq idle r past)
          (λ t. rw t (split (test (measure r.0 (keys_of past))) (λ u. rw u refl) (λ v. rw v refl)))
          (λ f. rw (f, none) (split (test (measure r.0 (keys_of past))) (λ u. rw u refl) (λ v. rw v refl)))) in
          split (aged_hit eq hits idle None r past fetches)
          (λ t. let held = (let (hit, soon, young) = aged_hit_parts eq hits idle None r past fetches t in recent_holds eq None r fetches young) in
          let rest = idle_marks_after (r ∷ past) fetches rs
          (λ x h. split (eq x r.0) (λ u. holds_same eq laws x r.0 (keys_of fetches) u ∙ held) (λ v. all x (rw v at h))) in
          rw (t, sym here ∙ t) (ap (λ ms. true ∷ ms) rest))
          (λ f. let rest = idle_marks_after (r ∷ past) (r ∷ fetches) rs
          (λ x h. split (eq x r.0) (λ u. rw u refl) (λ v. rw v (all x (rw v at h)))) in
          rw (f, sym here ∙ f) (ap (λ ms. false ∷ ms) rest))

  pub idle_marks_below : IdleMarksAreBelow eq
  idle_marks_below k idle rs =
      idle_marks_after (hit eq k) idle (is_below k) (distance eq) refl (hits_below eq k) [] [] rs (λ x h. h)

  pub idle_marks_within : IdleMarksAreWithin eq
  idle_marks_within weight c idle rs =
      idle_marks_after (hit_by_size eq weight c) idle (is_within c) (span eq weight) refl (hits_within eq weight c) [] [] rs (λ x h. h)

  module _ (measure : K → List K → Option ℕ) (came : (x : K) (past : List K) → holds eq x past ≡ false → measure x past ≡ None) where
    reuse_unlimited : (r : K × ℕ) (past : List (K × ℕ))
        → cond (is_recent eq None r past) (measure r.0 (keys_of past)) None ≡ measure r.0 (keys_of past)
    reuse_unlimited r past = rw (recent_unlimited eq r past) (split (holds eq r.0 (keys_of past))
        (λ t. rw t refl)
        (λ f. rw f (sym (came r.0 (keys_of past) f))))

  distances_unlimited : (past rs : List (K × ℕ)) → reuses_after eq (distance eq) None past rs ≡ distances_after eq (keys_of past) (keys_of rs)
  distances_unlimited past [] = refl
  distances_unlimited past (r ∷ rs) =
      cc (reuse_unlimited (distance eq) (λ x ks f. rw f refl) r past, distances_unlimited (r ∷ past) rs)

  spans_unlimited : (weight : K → ℕ) (past rs : List (K × ℕ))
      → reuses_after eq (span eq weight) None past rs ≡ spans_after eq weight (keys_of past) (keys_of rs)
  spans_unlimited weight past [] = refl
  spans_unlimited weight past (r ∷ rs) =
      cc (reuse_unlimited (span eq weight) (λ x ks f. rw f refl) r past, spans_unlimited weight (r ∷ past) rs)

  pub unlimited_marks : UnlimitedMarksAreMarks eq
  unlimited_marks k rs =
      idle_marks_below k None rs ∙ ap (map (is_below k)) (distances_unlimited [] rs) ∙ sym (marks_below eq k [] (keys_of rs))

  pub unlimited_marks_by_size : UnlimitedMarksAreMarksBySize eq
  unlimited_marks_by_size weight c rs =
      idle_marks_within weight c None rs ∙ ap (map (is_within c)) (spans_unlimited weight [] rs) ∙ sym (marks_within eq weight c [] (keys_of rs))
