-- Requests without times miss under an idle limit what they miss without it.
use Rattle.std.proofs.Common.{◌≡◌, ℕ, ◌-◌, Bool, true, false, not, ◌&&◌, Option, None, Some, is_some, List, [], ◌∷◌, ◌++◌, reverse, refl, sym, ap, ◌∙◌, subst, arith}
use Rattle.std.specs.Cmp.{IsEquivalence}
use Rattle.std.specs.List.{All, count_by}
use Rattle.std.specs.Map.{keys_of, lookup}
use Rattle.std.specs.Option.{option_map_or}
use Rattle.std.proofs.lemmas.Bool.{le-leb}
use Rattle.std.proofs.lemmas.List.Elements.{All-head, All-map, All-nil, All-push, All-same, All-tail}
use Rattle.clru_curve.specs.Curves.{HasMissesOf}
use Rattle.clru_curve.specs.IdlePasses.{HasIdleMissesOf, idle_misses}
use Rattle.clru_curve.specs.Seen.{timeless}
use Rattle.clru_curve.specs.SizedIdlePasses.{idle_missed_size, idle_misses_by_size}
use Rattle.clru_curve.proofs.IdleReuses.{keys_of-reverse, turned}
use Rattle.clru_model.proofs.Cases.{split}
use Rattle.clru_model.proofs.IdleMarks.{recent_unlimited, unlimited_marks, unlimited_marks_by_size}
use Rattle.clru_model.proofs.Spans.{missed_by_marks}
use Rattle.clru_model.specs.Ages.{aged_hit, aged_marks_after, is_in_limit, is_recent}
use Rattle.clru_model.specs.Requests.{IsLatestOf, hit, holds, misses}
use Rattle.clru_model.specs.Sizes.{hit_by_size, missed_size, misses_by_size}
use Rattle.clru_model.specs.Spans.{size_of_misses}

pub all_reversed : {X : Type 0} (P : X → Type 0) (xs : List X) → All P xs → All P (reverse xs)
all_reversed P [] all = All-nil P
all_reversed P (x ∷ xs) all =
    All-same P (reverse (x ∷ xs)) (reverse xs ++ x ∷ []) (turned x xs)
    (All-push P (reverse xs) x (all_reversed P xs (All-tail P x xs all)) (All-head P x xs all))

-- requests without times are of the same keys
pub keys_timeless : {K : Type 0} (ks : List K) → keys_of (timeless ks) ≡ ks
keys_timeless [] = refl
keys_timeless (k ∷ ks) = ap (λ l. k ∷ l) (keys_timeless ks)

pub none_late : {K : Type 0} (ks : List K) → All (λ r. r.1 ≡ 0) (timeless ks)
none_late {K = K} ks = All-map (λ (r : K × ℕ). r.1 ≡ 0) (λ (key : K). (key, 0)) ks (λ i d low. refl)

module _ {K : Type 0} (eq : K → K → Bool) (idle : ℕ) where
  -- at the time 0 no request comes late
  recent_timeless : (r : K × ℕ) (past : List (K × ℕ)) → r.1 ≡ 0 → is_recent eq (Some idle) r past ≡ is_recent eq None r past
  recent_timeless r past zero = at (lookup (eq r.0) past)
    where
      at : (o : Option ℕ) → option_map_or (λ time. is_in_limit (Some idle) (r.1 - time)) o false
          ≡ option_map_or (λ time. is_in_limit None (r.1 - time)) o false
      at None = refl
      at (Some t) = le-leb (r.1 - t) idle (omega (arith, zero))

  -- and each whose key came before comes soon enough
  pub recent_held : (r : K × ℕ) (past : List (K × ℕ)) → r.1 ≡ 0 → is_recent eq (Some idle) r past ≡ holds eq r.0 (keys_of past)
  recent_held r past zero = recent_timeless r past zero ∙ recent_unlimited eq r past

  -- what is said of keys is said of their requests at the time 0
  module _ (past : List K) (key : K) (latest : Option ℕ) (is : IsLatestOf eq past key latest) where
    pub latest_timeless : IsLatestOf eq (keys_of (timeless past)) key latest
    latest_timeless = subst (λ ks. IsLatestOf eq ks key latest) (sym (keys_timeless past)) is

    pub soon_timeless : is_some latest ≡ is_recent eq (Some idle) (key, 0) (timeless past)
    soon_timeless = is.known ∙ sym (recent_held (key, 0) (timeless past) refl ∙ ap (holds eq key) (keys_timeless past))

  marks_timeless : (hits : K → List K → Bool) (past fetches rs : List (K × ℕ)) → All (λ r. r.1 ≡ 0) rs
      → aged_marks_after eq hits (Some idle) None past fetches rs ≡ aged_marks_after eq hits None None past fetches rs
  marks_timeless hits past fetches [] all = refl
  marks_timeless hits past fetches (r ∷ rs) all =
      let zero = All-head (λ (q : K × ℕ). q.1 ≡ 0) r rs all in let rest = All-tail (λ (q : K × ℕ). q.1 ≡ 0) r rs all in
      let here : aged_hit eq hits (Some idle) None r past fetches ≡ aged_hit eq hits None None r past fetches =
      ap (λ b. hits r.0 (keys_of past) && b && is_recent eq None r fetches) (recent_timeless r past zero) in
      split (aged_hit eq hits None None r past fetches)
      (λ t. rw (here ∙ t, t) (ap (λ ms. true ∷ ms) (marks_timeless hits (r ∷ past) fetches rs rest)))
      (λ f. rw (here ∙ f, f) (ap (λ ms. false ∷ ms) (marks_timeless hits (r ∷ past) (r ∷ fetches) rs rest)))

module _ {K : Type 0} (eq : K → K → Bool) (laws : IsEquivalence eq) (idle : ℕ) (rs : List (K × ℕ)) (all : All (λ r. r.1 ≡ 0) rs) where
  pub misses_timeless : (k : ℕ) → idle_misses eq idle k rs ≡ misses eq k (keys_of rs)
  misses_timeless k = ap (count_by not) (marks_timeless eq idle (hit eq k) [] [] rs all ∙ unlimited_marks eq laws k rs)

  module _ (weight : K → ℕ) (c : ℕ) where
    pub sized_misses_timeless : idle_misses_by_size eq weight idle c rs ≡ misses_by_size eq weight c (keys_of rs)
    sized_misses_timeless =
        ap (count_by not) (marks_timeless eq idle (hit_by_size eq weight c) [] [] rs all ∙ unlimited_marks_by_size eq laws weight c rs)

    pub missed_size_timeless : idle_missed_size eq weight idle c rs ≡ missed_size eq weight c (keys_of rs)
    missed_size_timeless =
        ap (λ ms. size_of_misses weight ms (keys_of rs))
        (marks_timeless eq idle (hit_by_size eq weight c) [] [] rs all ∙ unlimited_marks_by_size eq laws weight c rs)
        ∙ sym (missed_by_marks eq weight c [] (keys_of rs))

-- a curve of requests at the time 0 is that of their keys
pub has_timeless : {K : Type 0} (eq : K → K → Bool) → IsEquivalence eq → (idle : ℕ) (past : List (K × ℕ)) → All (λ r. r.1 ≡ 0) past
    → (curve : List ℕ) → HasIdleMissesOf eq idle (reverse past) curve → HasMissesOf eq (reverse (keys_of past)) curve
has_timeless eq laws idle past none curve has k some =
    has k some ∙ misses_timeless eq laws idle (reverse past) (all_reversed (λ r. r.1 ≡ 0) past none) k ∙ ap (misses eq k) (keys_of-reverse past)
