-- A list of requests whose least and whose best bypassing are worked out by hand. The keys a to e are 0 to 4.
use Rattle.std.proofs.Common.{◌≡◌, ℕ, ◌*◌, ◌≤◌, List, [], ◌∷◌, refl, arith}
use Rattle.std.proofs.lemmas.Cmp.{nat_eq_equiv}
use Rattle.std.specs.Prelude.{nat_eq}
use Rattle.clru_model.specs.Bypass.{IsBypassSchedule}
use Rattle.clru_model.specs.Least.{IsLeast}
use Rattle.clru_model.specs.Requests.{misses}
use Rattle.clru_model.specs.Schedule.{IsSchedule, schedule_misses}
use Rattle.clru_model.proofs.Bypass.{schedules_may_pass, distinct_is_floor}
use Rattle.clru_model.proofs.Least.{least_below_replay, replay_near_least}

-- a b a c a d a e
abbrev a_between_others : List ℕ
a_between_others = 0 ∷ 1 ∷ 0 ∷ 2 ∷ 0 ∷ 3 ∷ 0 ∷ 4 ∷ []

-- with room for one key a replay misses each request
misses_of_one_key : misses nat_eq 1 a_between_others ≡ 8
misses_of_one_key = refl

-- and so does the best schedule, which has to take each key in
least_of_one_key : (n : ℕ) → IsLeast nat_eq 1 a_between_others n → n ≡ 8
least_of_one_key n least =
    let above : n ≤ 8 = least_below_replay nat_eq nat_eq_equiv 1 n a_between_others (omega arith) least in
    let below : 8 ≤ 1 * n = replay_near_least nat_eq nat_eq_equiv 1 1 n a_between_others (omega arith) (omega arith) least in
    omega arith

-- who keeps a and lets the others pass by misses the first request of each key alone
abbrev keeps_a : List (List ℕ)
keeps_a = [] ∷ (0 ∷ []) ∷ (0 ∷ []) ∷ (0 ∷ []) ∷ (0 ∷ []) ∷ (0 ∷ []) ∷ (0 ∷ []) ∷ (0 ∷ []) ∷ (0 ∷ []) ∷ []

keeps_a_lets_keys_pass : IsBypassSchedule nat_eq 1 keeps_a a_between_others
keeps_a_lets_keys_pass = search arith

keeps_a_takes_not_all : IsSchedule nat_eq 1 keeps_a a_between_others → ⊥
keeps_a_takes_not_all sched = let b_is_held = sched.2.1.1 in cc

misses_of_keeps_a : schedule_misses nat_eq keeps_a a_between_others ≡ 5
misses_of_keeps_a = refl

-- a key that was neither requested nor held comes in nowhere
b_comes_unasked : IsBypassSchedule nat_eq 1 ([] ∷ (1 ∷ []) ∷ []) (0 ∷ []) → ⊥
b_comes_unasked sched = let b_came_in = sched.1 in cc

-- with room for one key more the least is as many
least_of_two_keys : (n : ℕ) → IsLeast nat_eq 2 a_between_others n → n ≡ 5
least_of_two_keys n least =
    let above : n ≤ 5 = least_below_replay nat_eq nat_eq_equiv 2 n a_between_others (omega arith) least in
    let a = least.attained in
    let below : 5 ≤ schedule_misses nat_eq ([] ∷ a.schedule) a_between_others =
    distinct_is_floor nat_eq nat_eq_equiv 2 a.schedule a_between_others (schedules_may_pass nat_eq 2 ([] ∷ a.schedule) a_between_others a.serves) in
    omega (arith, a.misses)
