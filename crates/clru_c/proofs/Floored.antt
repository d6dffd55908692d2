-- Arrays of floors, and what the law says of them.
use Rattle.std.proofs.Common.{◌≡◌, ℕ, List, length, slice_index, ◌∙◌, arith}
use Rattle.clru_model.specs.Floor.{FloorIsBelow, SizeFloorIsBelow}
use Rattle.clru_least.specs.FloorNumbers.{Floored, FlooredBySize, IsFloorOf, IsSizeFloorOf, floor_at, size_floor_at}
use Rattle.clru_c.specs.Arrays.{AreBelow, AreFloors, AreSizeFloors}
use Rattle.clru_c.specs.Objects.{same_object, weight_of}
use Rattle.clru_c.proofs.Objects.{same_weights}

module _ (requests : List (ℕ × ℕ)) (rooms array : List ℕ) where
  pub are_floors : (f : Floored) → IsFloorOf same_object weight_of requests f → FloorIsBelow same_object
      → AreBelow (λ i n. n ≡ floor_at f (slice_index rooms i)) array (length array) → AreFloors same_object weight_of requests rooms array
  are_floors f is law at i inside =
      let here = at i inside ∙ is (slice_index rooms i) in record {
        exact = here;
        none_fewer = λ schedule serves. omega (arith, here, law weight_of (slice_index rooms i) schedule requests same_weights serves);
      }

  pub are_size_floors : (f : FlooredBySize) → IsSizeFloorOf same_object weight_of requests f → SizeFloorIsBelow same_object
      → AreBelow (λ i n. n ≡ size_floor_at f (slice_index rooms i)) array (length array) → AreSizeFloors same_object weight_of requests rooms array
  are_size_floors f is law at i inside =
      let here = at i inside ∙ is (slice_index rooms i) in record {
        exact = here;
        none_less = λ schedule serves. omega (arith, here, law weight_of (slice_index rooms i) schedule requests same_weights serves);
      }
