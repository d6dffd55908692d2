-- Worked rows of the floor, of what hits take, and of what schedules miss by size.
use Rattle.std.proofs.Common.{◌≡◌, ℕ, ◌+◌, List, [], ◌∷◌, refl, nat_eq}
use Rattle.clru_model.specs.Floor.{floor_misses, floor_missed_size, most_hits, price_of_hits, spared_after}
use Rattle.clru_model.specs.SizedSchedule.{schedule_missed_size}

abbrev in_turn : List ℕ
in_turn = 0 ∷ 1 ∷ 0 ∷ 1 ∷ 0 ∷ 1 ∷ []

-- each hit takes two positions of six, so with room for one key three hit
floor_in_turn : floor_misses nat_eq (λ _. 0) 1 in_turn ≡ 3
floor_in_turn = refl

-- with room for both only the first requests miss
floor_of_both : floor_misses nat_eq (λ _. 0) 2 in_turn ≡ 2
floor_of_both = refl

-- a key 1 that weighs 1 takes twice as much, so two of the other hit
floor_by_size : floor_misses nat_eq (λ k. k) 1 in_turn ≡ 4
floor_by_size = refl

size_floor : floor_missed_size nat_eq (λ k. k) 1 in_turn ≡ 6
size_floor = refl

-- a price of 3 a hit is 1 above each volume of 2, for four requests, and a room of 1 pays 6 more: at most (4 + 6) / 3 hits
paid_at_three : most_hits nat_eq (λ _. 0) (λ _. 1) 1 3 in_turn ≡ 3
paid_at_three = refl

spared_at_three : spared_after nat_eq (λ _. 0) (λ _. 3) [] in_turn ≡ 4
spared_at_three = refl

-- key 1 is held before its second request: its hit counts for its price, and its size is not missed
abbrev holds_one : List (List ℕ)
holds_one = [] ∷ (1 ∷ []) ∷ (1 ∷ []) ∷ (0 ∷ []) ∷ []

hit_is_priced : price_of_hits nat_eq (λ k. 10 + k) holds_one (1 ∷ 1 ∷ 0 ∷ []) ≡ 11
hit_is_priced = refl

hit_is_not_missed : schedule_missed_size nat_eq (λ k. k) holds_one (1 ∷ 1 ∷ 0 ∷ []) ≡ 3
hit_is_not_missed = refl
