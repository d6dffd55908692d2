-- Sizes as they are seen: what one of them is, and those that are not 0.
use Rattle.std.proofs.Common.{◌≡◌, ℕ, ◌<◌, Bool, List, [], ◌∷◌, length, get_or, set, map, refl, sym, ap, ◌∙◌}
use Rattle.std.proofs.lemmas.List.{get_or-map, map-set}
use Rattle.std.specs.List.{filter}
use Rattle.clru_model.proofs.Cases.{split}
use Rattle.clru_curve.specs.declared.numbered.Numbered.{Numbered}
use Rattle.clru_curve.specs.Rising.{numbered, number_at, value_at}

module _ {X : Type 0} (f : X → Numbered) (xs : List X) (i : ℕ) (x : X) (inside : i < length xs) (is : x ≡ get_or xs i x) where
  pub seen_at : f x ≡ get_or (map f xs) i (numbered 0 0)
  seen_at = ap f is ∙ sym (get_or-map f xs i x (numbered 0 0) inside)

  pub number_seen : (f x).number ≡ number_at (map f xs) i
  number_seen = ap (λ s. s.number) seen_at

  pub value_seen : (f x).value ≡ value_at (map f xs) i
  value_seen = ap (λ s. s.value) seen_at

  -- another one in its place, of size 0
  pub emptied : (y : X) → f y ≡ numbered (f x).number 0 → map f (set xs i y) ≡ set (map f xs) i (numbered (number_at (map f xs) i) 0)
  emptied y e = map-set f xs i y ∙ ap (λ s. set (map f xs) i s) (e ∙ ap (λ n. numbered n 0) number_seen)

-- those that pass a test, seen before or after
pub filter-map : {X Y : Type 0} (test : Y → Bool) (f : X → Y) (xs : List X) → map f (filter (λ x. test (f x)) xs) ≡ filter test (map f xs)
filter-map test f [] = refl
filter-map test f (x ∷ xs) = split (test (f x))
    (λ t. rw t (ap (λ l. f x ∷ l) (filter-map test f xs)))
    (λ e. rw e (filter-map test f xs))
