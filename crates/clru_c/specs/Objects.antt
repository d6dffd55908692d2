-- Requests of objects, each a key with a size. Public clauses cite them.
use Rattle.std.specs.Prelude.{◌≡◌, ℕ, ◌-◌, ◌^◌, ◌<◌, ◌≤◌, Bool, ◌&&◌, List, length, nat_eq, reverse, slice_index, EachIndex, SomeIndex, Contains}
use Rattle.std.specs.List.{zip}
use Rattle.clru_curve.specs.SizedCurves.{size_of_all, greatest_of}
use Rattle.clru_model.specs.Sizes.{total, misses_by_size, missed_size}
use Rattle.clru_c.specs.declared.codes.TheConstants.{OK, TOO_LARGE, TOO_SMALL}
use Rattle.clru_c.specs.Arrays.{AreBelow}
use Rattle.clru_c.specs.Codes.{IsOfArguments}

-- one key in one size: a key of another size is another object
abbrev pub same_object : ℕ × ℕ → ℕ × ℕ → Bool
same_object x y = nat_eq x.0 y.0 && nat_eq x.1 y.1

-- what an object weighs: an entry takes 1 and its weight of a capacity, so its size, or 1 where that is 0
abbrev pub weight_of : ℕ × ℕ → ℕ
weight_of object = object.1 - 1

-- at each index the requests that miss at the capacity at that index, and their size; beside them the size of the distinct objects
pub record AreSizedMisses (requests : List (ℕ × ℕ)) (capacities misses sizes : List ℕ) (n : ℕ) : Type 0 where
  pub missed : AreBelow (λ i m. m ≡ misses_by_size same_object weight_of (slice_index capacities i) requests)
      misses (length misses)
  pub missed_sizes : AreBelow (λ i m. m ≡ missed_size same_object weight_of (slice_index capacities i) requests)
      sizes (length sizes)
  pub distinct_size : n ≡ total same_object weight_of (reverse requests)

-- the code of a call by size, where sizes stand beside the keys and two arrays of answers beside the capacities: too large is the
-- sum of all sizes, and too small, where it is not, a capacity that is not above the greatest weight
pub record IsSizedCode (keys sizes capacities misses missed_sizes : List ℕ) (code : ℕ) : Type 0 where
  pub arguments : IsOfArguments (Contains capacities 0)
      ((length sizes ≡ length keys) × (length misses ≡ length capacities)
      × (length missed_sizes ≡ length capacities)) code
  pub too_large : code ≡ TOO_LARGE → 2 ^ 64 ≤ size_of_all weight_of (zip keys sizes)
  pub not_too_large : code ≡ OK → size_of_all weight_of (zip keys sizes) < 2 ^ 64
  pub too_small : code ≡ TOO_SMALL
      → SomeIndex capacities (λ i. slice_index capacities i ≤ greatest_of weight_of (reverse (zip keys sizes)))
  pub small_alone : code ≡ TOO_SMALL → size_of_all weight_of (zip keys sizes) < 2 ^ 64
  pub none_too_small : code ≡ OK
      → EachIndex capacities (λ i. greatest_of weight_of (reverse (zip keys sizes)) < slice_index capacities i)
  pub known : code ≤ TOO_SMALL

-- the code of a call for floors by size, where sizes stand beside the keys and two arrays of answers beside the rooms: too large is the
-- sum of all sizes
pub record IsFloorCode (keys sizes rooms misses missed_sizes : List ℕ) (code : ℕ) : Type 0 where
  pub arguments : IsOfArguments (Contains rooms 0)
      ((length sizes ≡ length keys) × (length misses ≡ length rooms) × (length missed_sizes ≡ length rooms)) code
  pub too_large : code ≡ TOO_LARGE → 2 ^ 64 ≤ size_of_all weight_of (zip keys sizes)
  pub not_too_large : code ≡ OK → size_of_all weight_of (zip keys sizes) < 2 ^ 64
  pub known : code ≤ TOO_LARGE
