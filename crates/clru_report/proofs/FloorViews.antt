-- The floor of requests that are compared by a view of them is that of their views.
use Rattle.std.proofs.Common.{◌≡◌, ℕ, suc, ◌+◌, ◌-◌, ◌*◌, ◌/◌, max, Bool, cond, List, [], ◌∷◌, length, map, reverse, refl, sym, ap, ◌∙◌}
use Rattle.std.proofs.lemmas.List.{length-map}
use Rattle.clru_curve.proofs.SizeViews.{size-view, total-view}
use Rattle.clru_model.proofs.Views.{same, distinct-map, holds-map, map-reverse, since-map}
use Rattle.clru_model.specs.Floor.{floor_misses, floor_missed_size, gap, gaps_after, greatest_of, most_hits, spared_after, volume, volumes_after}
use Rattle.clru_model.specs.Requests.{distinct, holds}
use Rattle.clru_model.specs.Sizes.{total}
use Rattle.std.specs.List.{sum_by}

greatest_alike : (f g : ℕ → ℕ) → ((v : ℕ) → f v ≡ g v) → (n : ℕ) (ms : List ℕ) → greatest_of f n ms ≡ greatest_of g n ms
greatest_alike f g alike n [] = refl
greatest_alike f g alike n (m ∷ ms) =
    ap (λ k. max k (greatest_of f n ms)) (alike m) ∙ ap (max (g m)) (greatest_alike f g alike n ms)

module _ {X Y : Type 0} (eq : Y → Y → Bool) (weight : Y → ℕ) (view : X → Y) where
  -- a request weighs what its view does
  abbrev seen : X → ℕ
  seen x = weight (view x)

  gap-view : (x : X) (past : List X) → gap eq (view x) (map view past) ≡ gap (same eq view) x past
  gap-view x past = ap (λ ls. suc (length ls)) (since-map eq view x past) ∙ ap suc (length-map _ view)

  volume-view : (x : X) (past : List X) → volume eq weight (view x) (map view past) ≡ volume (same eq view) seen x past
  volume-view x past = ap (λ g. g * (1 + weight (view x))) (gap-view x past)

  volumes-view : (past rs : List X) → volumes_after eq weight (map view past) (map view rs) ≡ volumes_after (same eq view) seen past rs
  volumes-view past [] = refl
  volumes-view past (x ∷ rs) =
      let later = volumes_after eq weight (map view (x ∷ past)) (map view rs) in
      let held = holds (same eq view) x past in
      ap (λ b. cond b (volume eq weight (view x) (map view past) ∷ later) later) (holds-map eq view x past)
      ∙ ap (λ v. cond held (v ∷ later) later) (volume-view x past)
      ∙ ap (λ vs. cond held (volume (same eq view) seen x past ∷ vs) vs) (volumes-view (x ∷ past) rs)

  spared-view : (price : Y → ℕ) (past rs : List X) → spared_after eq weight price (map view past) (map view rs)
      ≡ spared_after (same eq view) seen (λ x. price (view x)) past rs
  spared-view price past [] = refl
  spared-view price past (x ∷ rs) =
      let later = spared_after eq weight price (map view (x ∷ past)) (map view rs) in
      let held = holds (same eq view) x past in
      ap (λ b. cond b (price (view x) - volume eq weight (view x) (map view past)) 0 + later) (holds-map eq view x past)
      ∙ ap (λ v. cond held (price (view x) - v) 0 + later) (volume-view x past)
      ∙ ap (λ n. cond held (price (view x) - volume (same eq view) seen x past) 0 + n) (spared-view price (x ∷ past) rs)

  hits-view : (worth : Y → ℕ) (h g : ℕ) (rs : List X)
      → most_hits eq weight worth h g (map view rs) ≡ most_hits (same eq view) seen (λ x. worth (view x)) h g rs
  hits-view worth h g rs =
      ap (λ s. (s + h * length (map view rs)) / g) (spared-view (λ y. g * worth y) [] rs)
      ∙ ap (λ n. (spared_after (same eq view) seen (λ x. g * worth (view x)) [] rs + h * n) / g) (length-map rs view)

  pub floor-view : (h : ℕ) (rs : List X) → floor_misses eq weight h (map view rs) ≡ floor_misses (same eq view) seen h rs
  floor-view h rs =
      let of_view = λ (v : ℕ). length (map view rs) - most_hits eq weight (λ _. 1) h v (map view rs) in
      let of_keys = λ (v : ℕ). length rs - most_hits (same eq view) seen (λ _. 1) h v rs in
      ap (greatest_of of_view (distinct eq (reverse (map view rs)))) (volumes-view [] rs)
      ∙ ap (λ n. greatest_of of_view n (volumes_after (same eq view) seen [] rs))
      (ap (distinct eq) (sym (map-reverse view rs)) ∙ distinct-map eq view (reverse rs))
      ∙ greatest_alike of_view of_keys
      (λ v. ap (λ n. n - most_hits eq weight (λ _. 1) h v (map view rs)) (length-map rs view)
      ∙ ap (λ k. length rs - k) (hits-view (λ _. 1) h v rs))
      (distinct (same eq view) (reverse rs)) (volumes_after (same eq view) seen [] rs)

  gaps-view : (past rs : List X) → gaps_after eq (map view past) (map view rs) ≡ gaps_after (same eq view) past rs
  gaps-view past [] = refl
  gaps-view past (x ∷ rs) =
      let later = gaps_after eq (map view (x ∷ past)) (map view rs) in
      let held = holds (same eq view) x past in
      ap (λ b. cond b (gap eq (view x) (map view past) ∷ later) later) (holds-map eq view x past)
      ∙ ap (λ g. cond held (g ∷ later) later) (gap-view x past)
      ∙ ap (λ gs. cond held (gap (same eq view) x past ∷ gs) gs) (gaps-view (x ∷ past) rs)

  pub size_floor-view : (h : ℕ) (rs : List X) → floor_missed_size eq weight h (map view rs) ≡ floor_missed_size (same eq view) seen h rs
  size_floor-view h rs =
      let size = λ (y : Y). 1 + weight y in
      let of_view = λ (g : ℕ). sum_by size (map view rs) - most_hits eq weight size h g (map view rs) in
      let of_keys = λ (g : ℕ). sum_by (λ x. 1 + seen x) rs - most_hits (same eq view) seen (λ x. 1 + seen x) h g rs in
      ap (greatest_of of_view (total eq weight (reverse (map view rs)))) (gaps-view [] rs)
      ∙ ap (λ n. greatest_of of_view n (gaps_after (same eq view) [] rs))
      (ap (total eq weight) (sym (map-reverse view rs)) ∙ total-view eq weight view (reverse rs))
      ∙ greatest_alike of_view of_keys
      (λ g. ap (λ n. n - most_hits eq weight size h g (map view rs)) (size-view eq weight view rs)
      ∙ ap (λ k. sum_by (λ x. 1 + seen x) rs - k) (hits-view size h g rs))
      (total (same eq view) seen (reverse rs)) (gaps_after (same eq view) [] rs)
