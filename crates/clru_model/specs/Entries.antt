-- Entry lists: pairs of a key and a value, the most recently used first, the keys pairwise not the same. Public clauses cite
-- them.
use Rattle.std.specs.Prelude.{◌≡◌, ℕ, zero, suc, ◌+◌, ◌-◌, ◌≤◌, nat_le, Bool, if◌then◌else◌, Option, None, is_some, List, [], ◌∷◌, ◌++◌, length, take, drop, reverse, slice_get}
use Rattle.std.specs.List.{sum_by}
use Rattle.std.specs.Option.{option_map_or}
use Rattle.std.specs.Map.{lookup, lookup_entry, remove_entry}

module _ {K V : Type 0} where
  -- by the words for a key x, or for a form of one, as a `&str` is of a `String`
  module _ {X : Type 0} (eq : X → K → Bool) where
    -- the pairs less the one whose key is the same as x
    abbrev pub without : X → List (K × V) → List (K × V)
    without x es = remove_entry (eq x) es

    -- the pair of x first, and the others in their order
    abbrev pub touch : X → List (K × V) → List (K × V)
    touch x es = option_map_or (λ e. e ∷ without x es) (lookup_entry (eq x) es) es

    -- the pair of x last, and the others in their order
    abbrev pub demote : X → List (K × V) → List (K × V)
    demote x es = option_map_or (λ e. without x es ++ e ∷ []) (lookup_entry (eq x) es) es

  module _ (eq : K → K → Bool) where
    -- a plain put under the capacity c: a key that is held stays with the new value, and a new pair drops what is past the capacity
    abbrev pub plain_put : ℕ → K → V → List (K × V) → List (K × V)
    plain_put c x v es = option_map_or (λ e. (e.0, v) ∷ without eq x es) (lookup_entry (eq x) es)
        ((x, v) ∷ take (c - 1) es)

    -- the pair that a plain put of x drops: the last one, where x is not held and the list has c pairs
    abbrev pub plain_drop : ℕ → K → List (K × V) → Option (K × V)
    plain_drop c x es = if is_some (lookup (eq x) es) then None else slice_get es (c - 1)

  -- the pairs with another value in front
  abbrev pub with_front : V → List (K × V) → List (K × V)
  with_front v [] = []
  with_front v (e ∷ es) = (e.0, v) ∷ es

  -- the pairs with another value at an index, which is counted from 0
  abbrev pub with_value_at : ℕ → V → List (K × V) → List (K × V)
  with_value_at i v [] = []
  with_value_at zero v (e ∷ es) = (e.0, v) ∷ es
  with_value_at (suc i) v (e ∷ es) = e ∷ with_value_at i v es

  module _ (weight : K → V → ℕ) where
    -- the sum of the pairs' weights
    abbrev pub weight_of : List (K × V) → ℕ
    weight_of es = sum_by (λ e. weight e.0 e.1) es

    -- the length and the weight together
    abbrev pub size_of : List (K × V) → ℕ
    size_of es = length es + weight_of es

    -- the longest beginning whose size is at most c
    unfoldable pub fit : ℕ → List (K × V) → List (K × V)
    fit c [] = []
    fit c (e ∷ es) = if nat_le (1 + weight e.0 e.1) c then e ∷ fit (c - (1 + weight e.0 e.1)) es else []

    -- what comes after it
    abbrev pub past_fit : ℕ → List (K × V) → List (K × V)
    past_fit c es = drop (length (fit c es)) es

    -- p is a beginning of the list, its size is at most c, and no longer one has that
    pub record IsLongestFit (c : ℕ) (es p : List (K × V)) : Type 0 where
      pub rest : List (K × V)
      pub begins : es ≡ p ++ rest
      pub fits : size_of p ≤ c
      pub longest : (q back : List (K × V)) → es ≡ q ++ back → size_of q ≤ c → length q ≤ length p

  -- a weighted put under the capacity c: the new pair with the new key, before what of the others fits beside it
  abbrev pub weighted_put : (K → K → Bool) → (K → V → ℕ) → ℕ → K → V → List (K × V) → List (K × V)
  weighted_put eq weight c x v es = (x, v) ∷ fit weight (c - 1 - weight x v) (without eq x es)

  -- the pairs that it drops, the last one first
  abbrev pub weighted_drops : (K → K → Bool) → (K → V → ℕ) → ℕ → K → V → List (K × V) → List (K × V)
  weighted_drops eq weight c x v es = reverse (past_fit weight (c - 1 - weight x v) (without eq x es))
