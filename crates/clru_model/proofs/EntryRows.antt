-- Puts into small entry lists, worked out by hand: the definitions compute to them. A value is its own weight.
use Rattle.std.proofs.Common.{◌≡◌, ℕ, ◌-◌, ◌^◌, ◌%◌, Bool, [], ◌∷◌, refl}
use Rattle.std.specs.Prelude.{nat_eq, Some, None}
use Rattle.clru_model.specs.Entries.{touch, plain_put, plain_drop, weighted_put, weighted_drops, fit, size_of}

abbrev pub itself : ℕ → ℕ → ℕ
itself key value = value

-- keys are the same where their last digits are
abbrev last_digit : ℕ → ℕ → Bool
last_digit a b = nat_eq (a % 10) (b % 10)

-- a touched pair comes first, and the others keep their order
touch_of_the_last : touch {V = ℕ} nat_eq 1 ((3, 30) ∷ (2, 20) ∷ (1, 10) ∷ []) ≡ (1, 10) ∷ (3, 30) ∷ (2, 20) ∷ []
touch_of_the_last = refl

touch_of_another : touch {V = ℕ} nat_eq 4 ((3, 30) ∷ (2, 20) ∷ []) ≡ (3, 30) ∷ (2, 20) ∷ []
touch_of_another = refl

-- a plain put keeps the stored key, and drops one pair of a full list
plain_put_on_a_held_key : plain_put {V = ℕ} last_digit 2 12 5 ((1, 10) ∷ (2, 20) ∷ []) ≡ (2, 5) ∷ (1, 10) ∷ []
plain_put_on_a_held_key = refl

plain_put_into_a_full_list : plain_put {V = ℕ} nat_eq 2 3 30 ((2, 20) ∷ (1, 10) ∷ []) ≡ (3, 30) ∷ (2, 20) ∷ []
plain_put_into_a_full_list = refl

-- the pair that it drops is the last one, of a full list that does not hold the key
plain_drop_of_a_full_list : plain_drop {V = ℕ} nat_eq 2 3 ((2, 20) ∷ (1, 10) ∷ []) ≡ Some (1, 10)
plain_drop_of_a_full_list = refl

plain_drop_on_a_held_key : plain_drop {V = ℕ} last_digit 2 12 ((1, 10) ∷ (2, 20) ∷ []) ≡ None
plain_drop_on_a_held_key = refl

plain_drop_with_room_left : plain_drop {V = ℕ} nat_eq 3 3 ((2, 20) ∷ (1, 10) ∷ []) ≡ None
plain_drop_with_room_left = refl

-- the longest beginning that fits ends before the first pair that does not, though a later one would
fit_ends_at_the_first_that_does_not : fit itself 6 ((1, 2) ∷ (2, 5) ∷ (3, 0) ∷ []) ≡ (1, 2) ∷ []
unfolding fit
fit_ends_at_the_first_that_does_not = refl

-- a weighted put takes the new key, and what fits beside the new value stays
weighted_put_on_a_held_key : weighted_put last_digit itself 8 12 3 ((2, 2) ∷ (3, 1) ∷ (4, 1) ∷ []) ≡ (12, 3) ∷ (3, 1) ∷ (4, 1) ∷ []
unfolding fit
weighted_put_on_a_held_key = refl

-- the old pair of the key is not among those that go
weighted_drops_on_a_held_key : weighted_drops last_digit itself 6 12 3 ((2, 2) ∷ (3, 1) ∷ (4, 1) ∷ []) ≡ (4, 1) ∷ []
unfolding fit
weighted_drops_on_a_held_key = refl

-- they go from the back
weighted_drops_from_the_back : weighted_drops nat_eq itself 10 2 9 ((3, 1) ∷ (1, 3) ∷ []) ≡ (1, 3) ∷ (3, 1) ∷ []
unfolding fit
weighted_drops_from_the_back = refl

-- a heavy one drops all others
weighted_put_of_a_heavy_pair : weighted_put nat_eq itself 10 2 6 ((1, 3) ∷ []) ≡ (2, 6) ∷ []
unfolding fit
weighted_put_of_a_heavy_pair = refl

-- at the greatest capacity, beside a weight near it
weighted_put_beside_a_great_weight : weighted_put nat_eq itself (2 ^ 64 - 1) 2 1 ((1, 2 ^ 64 - 4) ∷ []) ≡ (2, 1) ∷ (1, 2 ^ 64 - 4) ∷ []
unfolding fit
weighted_put_beside_a_great_weight = refl

size_at_the_greatest_capacity : size_of itself ((2, 1) ∷ (1, 2 ^ 64 - 4) ∷ []) ≡ 2 ^ 64 - 1
size_at_the_greatest_capacity = refl
