-- Requests with times that are compared by a view of their keys hit as their views do.
use Rattle.std.proofs.Common.{◌≡◌, ℕ, ◌-◌, Bool, true, false, cond, not, ◌&&◌, Option, None, Some, List, [], ◌∷◌, map, nat_lt, refl, ap, ◌∙◌}
use Rattle.std.specs.List.{count_by}
use Rattle.std.specs.Map.{keys_of, lookup}
use Rattle.std.specs.Option.{option_map_or}
use Rattle.clru_curve.specs.AgedPasses.{aged_misses_at}
use Rattle.clru_curve.specs.IdlePasses.{idle_misses}
use Rattle.clru_model.proofs.Cases.{split}
use Rattle.clru_model.proofs.Views.{same, distinct-map, holds-map, since-map}
use Rattle.clru_model.specs.Ages.{is_in_limit, is_recent, aged_hit, aged_marks_after}
use Rattle.clru_model.specs.Requests.{distinct, hit, holds, since}

module _ {X Y : Type 0} (eq : Y → Y → Bool) (view : X → Y) where
  -- what a request shows
  abbrev pub viewed : X × ℕ → Y × ℕ
  viewed r = (view r.0, r.1)

  pub keys-view : (rs : List (X × ℕ)) → keys_of (map viewed rs) ≡ map view (keys_of rs)
  keys-view [] = refl
  keys-view (r ∷ rs) = ap (λ ks. view r.0 ∷ ks) (keys-view rs)

  -- the latest time of a key is that of its view
  lookup-view : (x : X) (rs : List (X × ℕ)) → lookup (eq (view x)) (map viewed rs) ≡ lookup (same eq view x) rs
  lookup-view x [] = refl
  lookup-view x (r ∷ rs) = ap (λ o. cond (eq (view x) (view r.0)) (Some r.1) o) (lookup-view x rs)

  pub recent-view : (limit : Option ℕ) (r : X × ℕ) (rs : List (X × ℕ))
      → is_recent eq limit (viewed r) (map viewed rs) ≡ is_recent (same eq view) limit r rs
  recent-view limit r rs = ap (λ o. option_map_or (λ time. is_in_limit limit (r.1 - time)) o false) (lookup-view r.0 rs)

  -- where a request hits without times as its view does, it does so with them
  module _ (hits : Y → List Y → Bool) (own : X → List X → Bool) (idle age : Option ℕ)
      (alike : (x : X) (past : List X) → hits (view x) (map view past) ≡ own x past) where
    aged_hit-view : (r : X × ℕ) (past fetches : List (X × ℕ))
        → aged_hit eq hits idle age (viewed r) (map viewed past) (map viewed fetches) ≡ aged_hit (same eq view) own idle age r past fetches
    aged_hit-view r past fetches =
        ap (λ b. b && is_recent eq idle (viewed r) (map viewed past) && is_recent eq age (viewed r) (map viewed fetches))
        (ap (hits (view r.0)) (keys-view past) ∙ alike r.0 (keys_of past))
        ∙ ap (λ b. own r.0 (keys_of past) && b && is_recent eq age (viewed r) (map viewed fetches)) (recent-view idle r past)
        ∙ ap (λ b. own r.0 (keys_of past) && is_recent (same eq view) idle r past && b) (recent-view age r fetches)

    pub aged_marks-view : (past fetches rs : List (X × ℕ))
        → aged_marks_after eq hits idle age (map viewed past) (map viewed fetches) (map viewed rs)
        ≡ aged_marks_after (same eq view) own idle age past fetches rs
    aged_marks-view past fetches [] = refl
    aged_marks-view past fetches (r ∷ rs) =
        let here = aged_hit-view r past fetches in
        split (aged_hit (same eq view) own idle age r past fetches)
        (λ t. rw (here ∙ t, t) (ap (λ ms. true ∷ ms) (aged_marks-view (r ∷ past) fetches rs)))
        (λ f. rw (here ∙ f, f) (ap (λ ms. false ∷ ms) (aged_marks-view (r ∷ past) (r ∷ fetches) rs)))

  module _ (k : ℕ) where
    hit-view : (x : X) (past : List X) → hit eq k (view x) (map view past) ≡ hit (same eq view) k x past
    hit-view x past =
        ap (λ b. b && nat_lt (distinct eq (since eq (view x) (map view past))) k) (holds-map eq view x past)
        ∙ ap (λ n. holds (same eq view) x past && nat_lt n k)
        (ap (distinct eq) (since-map eq view x past) ∙ distinct-map eq view (since (same eq view) x past))

    -- as many views miss under an idle limit
    pub idle_misses-view : (idle : ℕ) (rs : List (X × ℕ)) → idle_misses eq idle k (map viewed rs) ≡ idle_misses (same eq view) idle k rs
    idle_misses-view idle rs =
        ap (count_by not) (aged_marks-view (hit eq k) (hit (same eq view) k) (Some idle) None hit-view [] [] rs)

    -- and under an age limit
    pub aged_misses-view : (idle : Option ℕ) (age : ℕ) (rs : List (X × ℕ))
        → aged_misses_at eq idle age k (map viewed rs) ≡ aged_misses_at (same eq view) idle age k rs
    aged_misses-view idle age rs =
        ap (count_by not) (aged_marks-view (hit eq k) (hit (same eq view) k) idle (Some age) hit-view [] [] rs)
