-- Small runs of calls, worked out by hand: the definitions compute to them. The keys a, b and c are 0, 1 and 2.
use Rattle.std.proofs.Common.{◌≡◌, ℕ, true, false, List, [], ◌∷◌, refl, arith}
use Rattle.std.specs.Prelude.{nat_eq}
use Rattle.clru_model.specs.Entries.{touch, fit}
use Rattle.clru_model.specs.Runs.{Call, put_with_weight, pop, pop_front, pop_back, clear, peek, contains, after_all, AreTaken, IsPutRun, held_before}
use Rattle.clru_model.proofs.EntryRows.{itself}

abbrev weightless : ℕ → ℕ → ℕ
weightless key value = 0

-- two puts leave one entry at capacity 1, and two at capacity 2
abbrev two_puts : List (Call ℕ ℕ)
two_puts = put_with_weight 0 1 ∷ put_with_weight 1 2 ∷ []

two_puts_at_one : after_all nat_eq weightless 1 two_puts [] ≡ (1, 2) ∷ []
unfolding fit
two_puts_at_one = refl

two_puts_at_two : after_all nat_eq weightless 2 two_puts [] ≡ (1, 2) ∷ (0, 1) ∷ []
unfolding fit
two_puts_at_two = refl

-- why `get` is no call of such a run: it moves an entry to the front that only the greater cache holds
get_of_the_lesser : touch {V = ℕ} nat_eq 0 ((1, 2) ∷ []) ≡ (1, 2) ∷ []
get_of_the_lesser = refl

get_of_the_greater : touch {V = ℕ} nat_eq 0 ((1, 2) ∷ (0, 1) ∷ []) ≡ (0, 1) ∷ (1, 2) ∷ []
get_of_the_greater = refl

-- why each put is to be taken by both: a pair of weight 2 is too heavy for capacity 2, and goes before the others at capacity 4
abbrev one_too_heavy : List (Call ℕ ℕ)
one_too_heavy = put_with_weight 1 0 ∷ put_with_weight 0 2 ∷ []

one_too_heavy_at_two : after_all nat_eq itself 2 one_too_heavy [] ≡ (1, 0) ∷ []
unfolding fit
one_too_heavy_at_two = refl

one_too_heavy_at_four : after_all nat_eq itself 4 one_too_heavy [] ≡ (0, 2) ∷ (1, 0) ∷ []
unfolding fit
one_too_heavy_at_four = refl

one_too_heavy_is_not_taken : AreTaken itself 2 one_too_heavy → ⊥
one_too_heavy_is_not_taken taken = absurd (omega (arith, taken.1.0))

-- a run with each call
abbrev each_call : List (Call ℕ ℕ)
each_call = put_with_weight 0 0 ∷ pop_front ∷ put_with_weight 1 1 ∷ clear ∷ put_with_weight 0 1 ∷ put_with_weight 1 0 ∷ put_with_weight 2 1
    ∷ peek 1 ∷ contains 0 ∷ pop 1 ∷ put_with_weight 3 0 ∷ pop_back ∷ []

each_call_at_four : after_all nat_eq itself 4 each_call [] ≡ (3, 0) ∷ []
unfolding fit
each_call_at_four = refl

each_call_at_nine : after_all nat_eq itself 9 each_call [] ≡ (3, 0) ∷ (2, 1) ∷ []
unfolding fit
each_call_at_nine = refl

-- a b c a c, each put at capacity 2
abbrev five_puts : List (List (ℕ × ℕ))
five_puts = [] ∷ ((0, 5) ∷ []) ∷ ((1, 5) ∷ (0, 5) ∷ []) ∷ ((2, 5) ∷ (1, 5) ∷ []) ∷ ((0, 5) ∷ (2, 5) ∷ []) ∷ ((2, 6) ∷ (0, 5) ∷ []) ∷ []

five_puts_are_a_run : IsPutRun nat_eq 2 five_puts (0 ∷ 1 ∷ 2 ∷ 0 ∷ 2 ∷ [])
five_puts_are_a_run = (
  record { key = 0; value = 5; same = refl; entries = refl },
  (
    record { key = 1; value = 5; same = refl; entries = refl },
    (
      record { key = 2; value = 5; same = refl; entries = refl },
      (
        record { key = 0; value = 5; same = refl; entries = refl },
        (
          record { key = 2; value = 6; same = refl; entries = refl },
          refl,
        ),
      ),
    ),
  ),
)

held_before_five_puts : held_before nat_eq five_puts (0 ∷ 1 ∷ 2 ∷ 0 ∷ 2 ∷ []) ≡ false ∷ false ∷ false ∷ false ∷ true ∷ []
held_before_five_puts = refl
