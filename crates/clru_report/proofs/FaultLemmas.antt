-- Which fault lines have, and which capacities beside them.
use Rattle.std.proofs.Common.{◌≡◌, ℕ, ◌+◌, ◌≤◌, ◌^◌, Bool, true, false, cond, ltb-true, nat_le, ◌||◌, List, [], ◌∷◌, Option, None, Some, map, inl, inr, refl, ap, ◌∙◌}
use Rattle.std.specs.Prelude.{nat_lt}
use Rattle.std.specs.Int.NonZero.{non_zero_usize_get}
use Rattle.std.specs.List.{All, list_any}
use Rattle.std.specs.Option.{is_none, option_or}
use Rattle.std.proofs.lemmas.Bool.{cases_lt, le-leb, lt-leb, le-ltb, lt-ltb}
use Rattle.std.proofs.lemmas.List.Elements.{All-weaker}
use Rattle.std.proofs.lemmas.List.Folds.{Any-from_list_any, list_any_at, list_any_none}
use Rattle.clru_text.specs.Choices.{is_summary, is_whole}
use Rattle.clru_text.specs.Faults.{is_of_writing}
use Rattle.clru_text.specs.Sizes.{size_of_line, weight_of_line}
use Rattle.clru_text.specs.declared.fault.Fault.{Fault}
use Rattle.clru_text.specs.declared.fault.Fault.TheVariants.{BadCapacity, Memory, Reading, Writing, Closed, NoSize, TooLarge, TooSmall}
use Rattle.clru_text.specs.declared.options.Capacities.{Capacities}
use Rattle.clru_text.specs.declared.options.Capacities.TheVariants.{Usual, Each, Named, HitRatio, ByteHitRatio}
use Rattle.clru_text.specs.declared.options.Form.{Form}
use Rattle.clru_text.specs.declared.options.Form.TheVariants.{Table, Json, Picture, Summary}
use Rattle.clru_text.specs.declared.options.Options.{Options}
use Rattle.clru_text.specs.declared.options.Sample.{Sample}
use Rattle.clru_text.specs.declared.options.Sample.TheVariants.{Whole, OneIn, Taken}
use Rattle.clru_report.specs.Capacities.{sized_capacities_of}
use Rattle.clru_report.specs.Passes.{IsOfLines}
use Rattle.clru_report.specs.Refusals.{NamesBelow, fault_beside, fault_from, fault_of, names_below, IsRefusedBy, IsRefusedFor}
use Rattle.clru_report.specs.Sizes.{greatest_size}

module _ (number size : ℕ) (line : List ℕ) (rest : List (List ℕ)) where
  abbrev with_it : ℕ
  with_it = size + (1 + weight_of_line line)

  abbrev by_size : Bool → Option Fault
  by_size large = cond large (Some TooLarge) (fault_from (number + 1) with_it rest)

  -- a line without a size is told
  pub none_told : size_of_line line ≡ None → fault_from number size (line ∷ rest) ≡ Some (NoSize number)
  none_told none = ap (λ o. cond (is_none o) (Some (NoSize number)) (by_size (nat_le (2 ^ 64) with_it))) none

  module _ (own : ℕ) (sized : size_of_line line ≡ Some own) where
    told_by_size : fault_from number size (line ∷ rest) ≡ by_size (nat_le (2 ^ 64) with_it)
    told_by_size = ap (λ o. cond (is_none o) (Some (NoSize number)) (by_size (nat_le (2 ^ 64) with_it))) sized

    -- so is one that takes the sizes past the greatest number
    pub large_told : 2 ^ 64 ≤ with_it → fault_from number size (line ∷ rest) ≡ Some TooLarge
    large_told large = told_by_size ∙ ap by_size (le-leb (2 ^ 64) with_it large)

    -- after any other the next line is looked at
    pub next_told : (2 ^ 64 ≤ with_it → ⊥) → fault_from number size (line ∷ rest) ≡ fault_from (number + 1) with_it rest
    next_told fits = elim (cases_lt with_it (2 ^ 64)) [
      | inl low ↦ told_by_size ∙ ap by_size (lt-leb (2 ^ 64) with_it low)
      | inr large ↦ absurd (fits large)
    ]

pub any_shown : {X : Type 0} (p : ℕ → Bool) (f : X → ℕ) (xs : List X) → list_any (λ x. p (f x)) xs ≡ list_any p (map f xs)
any_shown p f [] = refl
any_shown p f (x ∷ xs) = ap (λ b. p (f x) || b) (any_shown p f xs)

module _ {A : Type 0} where
  -- where no capacity is below a number, none is named
  pub none_named : (asked : Capacities A) (m s : ℕ → ℕ) (requests size g d n : ℕ) (table : List ℕ)
      → All (λ c. n ≤ c) (sized_capacities_of asked m s requests size g d table)
      → names_below asked n ≡ false
  none_named Usual m s requests size g d n table all = refl
  none_named Each m s requests size g d n table all = refl
  none_named (HitRatio r) m s requests size g d n table all = refl
  none_named (ByteHitRatio r) m s requests size g d n table all = refl
  none_named (Named named) m s requests size g d n table all =
      list_any_none (λ c. nat_lt c n) (map non_zero_usize_get named.items)
      (All-weaker (λ c. n ≤ c) (λ c. nat_lt c n ≡ false) (λ c h. le-ltb c n h) (map non_zero_usize_get named.items) all)

  -- one that is named below it is found
  pub one_named : (asked : Capacities A) (n : ℕ) → NamesBelow asked n → names_below asked n ≡ true
  one_named Usual n is = absurd is
  one_named Each n is = absurd is
  one_named (HitRatio r) n is = absurd is
  one_named (ByteHitRatio r) n is = absurd is
  one_named (Named named) n is =
      let at = is.1 in
      list_any_at (λ c. nat_lt c n) (map non_zero_usize_get named.items) at.0 is.0 at.1
      (ap (λ c. nat_lt c n) at.2 ∙ lt-ltb is.0 n is.2)

  -- and one that is found is named
  pub named_one : (asked : Capacities A) (n : ℕ) → names_below asked n ≡ true → NamesBelow asked n
  named_one Usual n is = cc is
  named_one Each n is = cc is
  named_one (HitRatio r) n is = cc is
  named_one (ByteHitRatio r) n is = cc is
  named_one (Named named) n is =
      let found = Any-from_list_any (λ c. nat_lt c n) (map non_zero_usize_get named.items) is in
      (found.1, (found.0, found.2, found.3), ltb-true found.1 n found.4)

  -- capacities of which one is too small have that fault, if the form has capacities
  pub some_beside : (form : Form) (asked : Capacities A) (n : ℕ) → is_summary form ≡ false → names_below asked n ≡ true
      → fault_beside form asked n ≡ Some (TooSmall n)
  some_beside Table asked n rows h = ap (λ b. cond b (Some (TooSmall n)) None) h
  some_beside Json asked n rows h = ap (λ b. cond b (Some (TooSmall n)) None) h
  some_beside Picture asked n rows h = ap (λ b. cond b (Some (TooSmall n)) None) h
  some_beside Summary asked n rows h = cc rows

  -- capacities of which none is too small have no fault
  pub none_beside : (form : Form) (asked : Capacities A) (n : ℕ) → names_below asked n ≡ false → fault_beside form asked n ≡ None
  none_beside Table asked n h = ap (λ b. cond b (Some (TooSmall n)) None) h
  none_beside Json asked n h = ap (λ b. cond b (Some (TooSmall n)) None) h
  none_beside Picture asked n h = ap (λ b. cond b (Some (TooSmall n)) None) h
  none_beside Summary asked n h = refl

  module _ (options : Options A) (lines : List (List ℕ)) where
    abbrev beside : Option Fault
    beside = fault_beside options.form options.capacities (greatest_size lines)

    -- the fault of a line is that of all
    pub told_of_line : (fault : Fault) → fault_from 1 0 lines ≡ Some fault → fault_of options lines ≡ Some fault
    told_of_line fault h = ap (λ o. option_or o beside) h

    -- where lines have none, it is what stands beside them
    pub told_beside : (told : Option Fault) → fault_from 1 0 lines ≡ None → beside ≡ told → fault_of options lines ≡ told
    told_beside told free h = ap (λ o. option_or o beside) free ∙ h

-- why lines have no curve is no fault of writing
pub lines_unwritten : (lines : List (List ℕ)) (fault : Fault) → IsOfLines fault lines → is_of_writing fault ≡ false
lines_unwritten lines BadCapacity why = refl
lines_unwritten lines Memory why = refl
lines_unwritten lines Reading why = refl
lines_unwritten lines Writing why = absurd why
lines_unwritten lines Closed why = absurd why
lines_unwritten lines (NoSize n) why = refl
lines_unwritten lines TooLarge why = refl
lines_unwritten lines (TooSmall n) why = refl

-- of a whole log the fault is that of all lines
pub refused_whole : {A : Type 0} (sample : Sample) (fault : Fault) (options : Options A) (lines : List (List ℕ)) → is_whole sample ≡ true
    → IsRefusedFor fault options lines → IsRefusedBy sample fault options lines
refused_whole Whole fault options lines whole is = is
refused_whole (OneIn n) fault options lines whole is = cc whole
refused_whole (Taken n all) fault options lines whole is = cc whole
