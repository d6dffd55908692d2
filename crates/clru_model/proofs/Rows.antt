-- Small lists of requests whose marks and schedules are worked out by hand: the definitions compute to them.
-- The keys a, b, c and d are 0, 1, 2 and 3.
use Rattle.std.proofs.Common.{◌≡◌, ℕ, ◌+◌, ◌-◌, ◌*◌, ◌^◌, true, false, List, [], ◌∷◌, refl, arith}
use Rattle.std.specs.Prelude.{nat_eq}
use Rattle.clru_model.specs.Requests.{marks, misses}
use Rattle.clru_model.specs.Schedule.{IsSchedule, schedule_misses}

-- a b c a
abbrev a_again_after_two_others : List ℕ
a_again_after_two_others = 0 ∷ 1 ∷ 2 ∷ 0 ∷ []

-- a b c a d b a c
abbrev pub four_keys : List ℕ
four_keys = 0 ∷ 1 ∷ 2 ∷ 0 ∷ 3 ∷ 1 ∷ 0 ∷ 2 ∷ []

-- a key hits no more after as many other keys as the capacity
marks_at_two_others_of_two : marks nat_eq 2 a_again_after_two_others ≡ false ∷ false ∷ false ∷ false ∷ []
marks_at_two_others_of_two = refl

misses_at_two_others_of_two : misses nat_eq 2 a_again_after_two_others ≡ 4
misses_at_two_others_of_two = refl

-- a key still hits after fewer other keys than the capacity
marks_at_two_others_of_three : marks nat_eq 3 a_again_after_two_others ≡ false ∷ false ∷ false ∷ true ∷ []
marks_at_two_others_of_three = refl

-- hits and misses in turn, with more keys than the capacity
marks_of_four_keys : marks nat_eq 3 four_keys ≡ false ∷ false ∷ false ∷ true ∷ false ∷ false ∷ true ∷ false ∷ []
marks_of_four_keys = refl

misses_of_four_keys : misses nat_eq 3 four_keys ≡ 6
misses_of_four_keys = refl

-- no requests have no marks and no misses
marks_of_no_requests : marks nat_eq 2 [] ≡ []
marks_of_no_requests = refl

misses_of_no_requests : misses nat_eq 2 [] ≡ 0
misses_of_no_requests = refl

-- at capacity 1 only a key that was requested just before hits
marks_at_capacity_one : marks nat_eq 1 (0 ∷ 0 ∷ 1 ∷ 0 ∷ []) ≡ false ∷ true ∷ false ∷ false ∷ []
marks_at_capacity_one = refl

misses_at_capacity_one : misses nat_eq 1 (0 ∷ 0 ∷ 1 ∷ 0 ∷ []) ≡ 3
misses_at_capacity_one = refl

-- the greatest capacity computes as any other
marks_at_greatest_capacity : marks nat_eq (2 ^ 64 - 1) (0 ∷ 1 ∷ 0 ∷ []) ≡ false ∷ false ∷ true ∷ []
marks_at_greatest_capacity = refl

misses_at_greatest_capacity : misses nat_eq (2 ^ 64 - 1) (0 ∷ 1 ∷ 0 ∷ []) ≡ 2
misses_at_greatest_capacity = refl

-- a schedule of two keys that keeps the key requested again misses less than a replay at capacity 2
abbrev keeps_a : List (List ℕ)
keeps_a = [] ∷ (0 ∷ []) ∷ (0 ∷ 1 ∷ []) ∷ (0 ∷ 2 ∷ []) ∷ (0 ∷ 2 ∷ []) ∷ []

keeps_a_is_schedule : IsSchedule nat_eq 2 keeps_a a_again_after_two_others
keeps_a_is_schedule = search arith

misses_of_keeps_a : schedule_misses nat_eq keeps_a a_again_after_two_others ≡ 3
misses_of_keeps_a = refl

-- a schedule of one key holds only the key just requested
abbrev one_key : List (List ℕ)
one_key = [] ∷ (0 ∷ []) ∷ (1 ∷ []) ∷ (2 ∷ []) ∷ (0 ∷ []) ∷ []

one_key_is_schedule : IsSchedule nat_eq 1 one_key a_again_after_two_others
one_key_is_schedule = search arith

misses_of_one_key : schedule_misses nat_eq one_key a_again_after_two_others ≡ 4
misses_of_one_key = refl

-- a schedule of three keys that knows the requests to come misses less than a replay at capacity 3
abbrev foreseeing : List (List ℕ)
foreseeing =
    [] ∷ (0 ∷ []) ∷ (0 ∷ 1 ∷ []) ∷ (0 ∷ 1 ∷ 2 ∷ []) ∷ (0 ∷ 1 ∷ 2 ∷ []) ∷ (0 ∷ 1 ∷ 3 ∷ [])
    ∷ (0 ∷ 1 ∷ 3 ∷ []) ∷ (0 ∷ 1 ∷ 3 ∷ []) ∷ (0 ∷ 1 ∷ 2 ∷ []) ∷ []

foreseeing_is_schedule : IsSchedule nat_eq 3 foreseeing four_keys
foreseeing_is_schedule = search arith

misses_of_foreseeing : schedule_misses nat_eq foreseeing four_keys ≡ 5
misses_of_foreseeing = refl

-- schedules that start with keys: up to h of them save it a miss each
abbrev starts_with_both : List (List ℕ)
starts_with_both = (0 ∷ 1 ∷ []) ∷ (0 ∷ 1 ∷ []) ∷ (0 ∷ 1 ∷ []) ∷ []

starts_with_both_is_schedule : IsSchedule nat_eq 2 starts_with_both (0 ∷ 1 ∷ [])
starts_with_both_is_schedule = search arith

misses_of_starts_with_both : schedule_misses nat_eq starts_with_both (0 ∷ 1 ∷ []) ≡ 0
misses_of_starts_with_both = refl

-- at k = h = 2 the bound is reached
both_reach_the_bound : (2 - 2 + 1) * misses nat_eq 2 (0 ∷ 1 ∷ []) ≡ 2 * 0 + 2 * (2 - 2 + 1)
both_reach_the_bound = refl

abbrev starts_with_one : List (List ℕ)
starts_with_one = (0 ∷ []) ∷ (0 ∷ []) ∷ (1 ∷ []) ∷ []

starts_with_one_is_schedule : IsSchedule nat_eq 1 starts_with_one (0 ∷ 1 ∷ [])
starts_with_one_is_schedule = search arith

misses_of_starts_with_one : schedule_misses nat_eq starts_with_one (0 ∷ 1 ∷ []) ≡ 1
misses_of_starts_with_one = refl

-- and at k = 2, h = 1
one_reaches_the_bound : (2 - 1 + 1) * misses nat_eq 2 (0 ∷ 1 ∷ []) ≡ 2 * 1 + 1 * (2 - 1 + 1)
one_reaches_the_bound = refl

abbrev starts_with_two_of_three : List (List ℕ)
starts_with_two_of_three = (0 ∷ 1 ∷ []) ∷ (0 ∷ 1 ∷ []) ∷ (0 ∷ 1 ∷ []) ∷ (0 ∷ 2 ∷ []) ∷ []

starts_with_two_of_three_is_schedule : IsSchedule nat_eq 2 starts_with_two_of_three (0 ∷ 1 ∷ 2 ∷ [])
starts_with_two_of_three_is_schedule = search arith

misses_of_starts_with_two_of_three : schedule_misses nat_eq starts_with_two_of_three (0 ∷ 1 ∷ 2 ∷ []) ≡ 1
misses_of_starts_with_two_of_three = refl

-- at k = 3, h = 2 it is 6 ≤ 7
two_of_three_keep_the_bound : (3 - 2 + 1) * misses nat_eq 3 (0 ∷ 1 ∷ 2 ∷ []) + 1 ≡ 3 * 1 + 2 * (3 - 2 + 1)
two_of_three_keep_the_bound = refl

abbrev starts_with_the_only_key : List (List ℕ)
starts_with_the_only_key = (0 ∷ []) ∷ (0 ∷ []) ∷ []

starts_with_the_only_key_is_schedule : IsSchedule nat_eq 1 starts_with_the_only_key (0 ∷ [])
starts_with_the_only_key_is_schedule = search arith

misses_of_starts_with_the_only_key : schedule_misses nat_eq starts_with_the_only_key (0 ∷ []) ≡ 0
misses_of_starts_with_the_only_key = refl

-- at k = h = 1 it is reached
the_only_key_reaches_the_bound : (1 - 1 + 1) * misses nat_eq 1 (0 ∷ []) ≡ 1 * 0 + 1 * (1 - 1 + 1)
the_only_key_reaches_the_bound = refl
