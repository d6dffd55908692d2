-- Small lists of requests with times, worked out by hand: the definitions compute to them. The keys a and b are 0 and 1.
use Rattle.std.proofs.Common.{◌≡◌, ℕ, true, false, Some, None, List, [], ◌∷◌, slice_get, refl, sym, ap, arith}
use Rattle.std.proofs.lemmas.Option.{same_Some}
use Rattle.std.specs.Prelude.{nat_eq}
use Rattle.clru_model.specs.Ages.{NeverFall, aged_marks, aged_misses, reuses_within, versioned, is_same_version}
use Rattle.clru_model.specs.AgedRuns.{IsAgedStep, fresh_before}
use Rattle.clru_model.specs.Distances.{distance}
use Rattle.clru_model.specs.Requests.{hit, marks, misses}
use Rattle.clru_model.specs.Runs.{IsRunOf, IsPut}
use Rattle.clru_model.specs.Sizes.{hit_by_size}

-- a at 0, 4, 10, 11, 21: an age of 10 is still within the limit of 10, one of 11 is not, and the age starts again with a fetch
marks_of_age : aged_marks nat_eq (hit nat_eq 1) None (Some 10) ((0, 0) ∷ (0, 4) ∷ (0, 10) ∷ (0, 11) ∷ (0, 21) ∷ [])
    ≡ false ∷ true ∷ true ∷ false ∷ true ∷ []
marks_of_age = refl

-- the idle time starts again with each request
marks_of_idle : aged_marks nat_eq (hit nat_eq 1) (Some 10) None ((0, 0) ∷ (0, 4) ∷ (0, 14) ∷ (0, 25) ∷ (0, 26) ∷ [])
    ≡ false ∷ true ∷ true ∷ false ∷ true ∷ []
marks_of_idle = refl

-- at the limit 0 a key hits within the time of its latest request or fetch
marks_at_no_age : aged_marks nat_eq (hit nat_eq 1) None (Some 0) ((0, 7) ∷ (0, 7) ∷ (0, 8) ∷ []) ≡ false ∷ true ∷ false ∷ []
marks_at_no_age = refl

-- if times go backwards, the age counts as 0
marks_of_falling_times : aged_marks nat_eq (hit nat_eq 1) (Some 2) (Some 2) ((0, 9) ∷ (0, 3) ∷ (0, 5) ∷ (0, 8) ∷ []) ≡ false ∷ true ∷ true ∷ false ∷ []
marks_of_falling_times = refl

-- a b a a at 0, 5, 8, 15: the greater capacity has a hit that the lesser one has not, and keeps the older fetch; so then it has a
-- miss that the lesser one has not
abbrev turns : List (ℕ × ℕ)
turns = (0, 0) ∷ (1, 5) ∷ (0, 8) ∷ (0, 15) ∷ []

marks_of_turns_at_one : aged_marks nat_eq (hit nat_eq 1) None (Some 10) turns ≡ false ∷ false ∷ false ∷ true ∷ []
marks_of_turns_at_one = refl

marks_of_turns_at_two : aged_marks nat_eq (hit nat_eq 2) None (Some 10) turns ≡ false ∷ false ∷ true ∷ false ∷ []
marks_of_turns_at_two = refl

-- by size, where each key weighs 1
marks_of_turns_by_size : aged_marks nat_eq (hit_by_size nat_eq (λ _. 1) 3) None (Some 10) turns ≡ false ∷ false ∷ false ∷ true ∷ []
marks_of_turns_by_size = refl

-- with an idle limit the reuse after 8 counts as a first request
distances_of_turns : reuses_within nat_eq (distance nat_eq) None turns ≡ None ∷ None ∷ Some 1 ∷ Some 0 ∷ []
distances_of_turns = refl

distances_of_turns_within_seven : reuses_within nat_eq (distance nat_eq) (Some 7) turns ≡ None ∷ None ∷ None ∷ Some 0 ∷ []
distances_of_turns_within_seven = refl

-- the recipe: a version more where the fetch is too old
versions_of_turns : versioned nat_eq (Some 10) turns ≡ (0, 1) ∷ (1, 1) ∷ (0, 1) ∷ (0, 2) ∷ []
versions_of_turns = refl

-- it misses more: the lesser capacity has fetched a anew at 8, which the recipe does not know
marks_of_versions_of_turns : marks (is_same_version nat_eq) 1 (versioned nat_eq (Some 10) turns) ≡ false ∷ false ∷ false ∷ false ∷ []
marks_of_versions_of_turns = refl

-- why times must not fall: a b a a at 20, 20, 5, 16
abbrev falls_back : List (ℕ × ℕ)
falls_back = (0, 20) ∷ (1, 20) ∷ (0, 5) ∷ (0, 16) ∷ []

misses_of_falls_back : aged_misses nat_eq (hit nat_eq 1) None (Some 10) falls_back ≡ 4
misses_of_falls_back = refl

misses_of_versions_of_falls_back : misses (is_same_version nat_eq) 1 (versioned nat_eq (Some 10) falls_back) ≡ 3
misses_of_versions_of_falls_back = refl

turns_never_fall : NeverFall 0 turns
turns_never_fall = search arith

first_value : {p e : ℕ × ℕ} {es rest : List (ℕ × ℕ)} → p ∷ es ≡ e ∷ rest → e.1 ≡ p.1
first_value {p} {e} is = ap (λ (q : ℕ × ℕ). q.1) (sym (same_Some p e (ap (λ l. slice_get l 0) is)))

-- the turns at capacity 1, where a value is the time of its fetch
abbrev turns_run : List (List (ℕ × ℕ))
turns_run = [] ∷ ((0, 0) ∷ []) ∷ ((1, 5) ∷ []) ∷ ((0, 8) ∷ []) ∷ ((0, 8) ∷ []) ∷ []

turns_are_a_run : IsRunOf (IsAgedStep nat_eq (λ v. v) (Some 10) (IsPut nat_eq 1)) turns_run turns
turns_are_a_run = (
  record {
    fresh = λ t. cc;
    stale = λ _. record { key = 0; value = 0; same = refl; entries = refl };
    fetched = λ _ e rest is. first_value is;
  },
  (
    record {
      fresh = λ t. cc;
      stale = λ _. record { key = 1; value = 5; same = refl; entries = refl };
      fetched = λ _ e rest is. first_value is;
    },
    (
      record {
        fresh = λ t. cc;
        stale = λ _. record { key = 0; value = 8; same = refl; entries = refl };
        fetched = λ _ e rest is. first_value is;
      },
      (record { fresh = λ _. refl; stale = λ f. cc; fetched = λ f. cc }, refl),
    ),
  ),
)

fresh_before_turns : fresh_before nat_eq (λ v. v) (Some 10) turns_run turns ≡ false ∷ false ∷ false ∷ true ∷ []
fresh_before_turns = refl
