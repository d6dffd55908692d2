-- Requests that are compared by a view of them hit as their views do.
use Rattle.std.proofs.Common.{◌≡◌, ℕ, ◌+◌, Bool, cond, not, ◌&&◌, ◌||◌, List, [], ◌∷◌, ◌++◌, map, reverse, take, nat_lt, refl, sym, ap, ◌∙◌}
use Rattle.std.specs.List.{count_by, prefix_len}
use Rattle.std.proofs.lemmas.List.{map-append, take-map}
use Rattle.std.proofs.lemmas.Grind.{reverse_onto}
use Rattle.clru_model.specs.Requests.{holds, distinct, since, hit, marks, marks_after, misses}

-- the views of a list read backwards
pub map-reverse : {X Y : Type 0} (f : X → Y) (xs : List X) → map f (reverse xs) ≡ reverse (map f xs)
map-reverse f [] = refl
map-reverse f (x ∷ xs) =
    ap (map f) (reverse_onto xs x []) ∙ map-append f (reverse xs) (x ∷ []) ∙ ap (λ ys. ys ++ f x ∷ []) (map-reverse f xs)
    ∙ sym (reverse_onto (map f xs) (f x) [])

module _ {X Y : Type 0} (eq : Y → Y → Bool) (view : X → Y) where
  -- two requests are the same if their views are
  abbrev pub same : X → X → Bool
  same x y = eq (view x) (view y)

  -- how many views from the front on pass
  prefix_len-map : (p : Y → Bool) (xs : List X) → prefix_len p (map view xs) ≡ prefix_len (λ x. p (view x)) xs
  prefix_len-map p [] = refl
  prefix_len-map p (x ∷ xs) = ap (λ n. cond (p (view x)) (1 + n) 0) (prefix_len-map p xs)

  -- a key is among the views as it is among what they show
  pub holds-map : (x : X) (ks : List X) → holds eq (view x) (map view ks) ≡ holds same x ks
  holds-map x [] = refl
  holds-map x (k ∷ ks) = ap (λ b. eq (view x) (view k) || b) (holds-map x ks)

  -- there are as many distinct views
  pub distinct-map : (ks : List X) → distinct eq (map view ks) ≡ distinct same ks
  distinct-map [] = refl
  distinct-map (x ∷ earlier) =
      ap (λ b. cond b (distinct eq (map view earlier)) (1 + distinct eq (map view earlier))) (holds-map x earlier)
      ∙ ap (λ n. cond (holds same x earlier) n (1 + n)) (distinct-map earlier)

  -- the views since the last request of one
  pub since-map : (x : X) (past : List X) → since eq (view x) (map view past) ≡ map view (since same x past)
  since-map x past =
      ap (λ n. take n (map view past)) (prefix_len-map (λ y. not (eq (view x) y)) past) ∙ take-map view _ past

  -- a request hits as its view does
  hit-map : (k : ℕ) (past : List X) (x : X) → hit eq k (view x) (map view past) ≡ hit same k x past
  hit-map k past x =
      ap (λ b. b && nat_lt (distinct eq (since eq (view x) (map view past))) k) (holds-map x past)
      ∙ ap (λ n. holds same x past && nat_lt n k)
      (ap (distinct eq) (since-map x past) ∙ distinct-map (since same x past))

  -- the same after the requests of the past
  marks_after-map : (past : List X) (k : ℕ) (rs : List X)
      → marks_after eq k (map view past) (map view rs) ≡ marks_after same k past rs
  marks_after-map past k [] = refl
  marks_after-map past k (x ∷ rs) =
      ap (λ b. b ∷ marks_after eq k (map view (x ∷ past)) (map view rs)) (hit-map k past x)
      ∙ ap (λ bs. hit same k x past ∷ bs) (marks_after-map (x ∷ past) k rs)

  -- and from the first request on
  pub marks-map : (k : ℕ) (rs : List X) → marks eq k (map view rs) ≡ marks same k rs
  marks-map k rs = marks_after-map [] k rs

  -- so as many views miss
  pub misses-map : (k : ℕ) (rs : List X) → misses eq k (map view rs) ≡ misses same k rs
  misses-map k rs = ap (count_by not) (marks-map k rs)
