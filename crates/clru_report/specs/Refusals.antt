-- Which inputs have no report by size, and why. Public clauses cite them.
use Rattle.std.specs.Prelude.{◌≡◌, ℕ, ◌+◌, ◌<◌, ◌≤◌, ◌^◌, Bool, true, false, nat_lt, List, map, take, Option, None, Some, IsNone, IsSomeAnd, if◌then◌else◌}
use Rattle.std.specs.Int.NonZero.{non_zero_usize_get}
use Rattle.std.specs.List.{Contains, list_any, slice_get}
use Rattle.std.specs.Option.{option_or}
use Rattle.clru_text.specs.Lines.{lines_of}
use Rattle.clru_text.specs.Sizes.{HaveSizes, size_of_line}
use Rattle.clru_text.specs.Times.{rests_of}
use Rattle.clru_text.specs.declared.fault.Fault.{Fault}
use Rattle.clru_text.specs.declared.fault.Fault.TheVariants.{BadCapacity, Memory, Reading, Writing, Closed, NoSize, TooLarge, TooSmall}
use Rattle.clru_text.specs.declared.options.Capacities.{Capacities}
use Rattle.clru_text.specs.declared.options.Capacities.TheVariants.{Usual, Each, Named, HitRatio, ByteHitRatio}
use Rattle.clru_text.specs.declared.options.Form.{Form}
use Rattle.clru_text.specs.declared.options.Form.TheVariants.{Table, Json, Picture, Summary}
use Rattle.clru_text.specs.declared.options.Options.{Options}
use Rattle.clru_text.specs.declared.options.Sample.{Sample}
use Rattle.clru_text.specs.declared.options.Sample.TheVariants.{Whole, OneIn, Taken}
use Rattle.clru_text.specs.declared.options.Times.{Times}
pub use Rattle.clru_report.specs.LineFaults.{fault_from}
use Rattle.clru_report.specs.OneSize.{counted_lines}
use Rattle.clru_report.specs.Sizes.{greatest_size, size_of_lines}
use Rattle.clru_report.specs.Timed.{IsUntimed}

-- the line of this number, counted from 1, is the first that begins with no size
abbrev pub IsFirstWithout : ℕ → List (List ℕ) → Type 0
IsFirstWithout n lines = (before : ℕ) × (n ≡ before + 1) × HaveSizes (take before lines)
    × IsSomeAnd (slice_get lines before) (λ line. IsNone (size_of_line line))

-- one of the named capacities is below this number
abbrev pub NamesBelow : {A : Type 0} → Capacities A → ℕ → Type 0
NamesBelow Usual n = ⊥
NamesBelow Each n = ⊥
NamesBelow (Named named) n = (capacity : ℕ) × Contains (map non_zero_usize_get named.items) capacity × (capacity < n)
NamesBelow (HitRatio r) n = ⊥
NamesBelow (ByteHitRatio r) n = ⊥

-- the same as an answer; it is none of the usual ones
abbrev pub names_below : {A : Type 0} → Capacities A → ℕ → Bool
names_below Usual n = false
names_below Each n = false
names_below (Named named) n = list_any (λ c. nat_lt c n) (map non_zero_usize_get named.items)
names_below (HitRatio r) n = false
names_below (ByteHitRatio r) n = false

-- the fault of capacities where the greatest size is n, if they have one; a summary has no capacities
abbrev pub fault_beside : {A : Type 0} → Form → Capacities A → ℕ → Option Fault
fault_beside Table capacities n = if names_below capacities n then Some (TooSmall n) else None
fault_beside Json capacities n = if names_below capacities n then Some (TooSmall n) else None
fault_beside Picture capacities n = if names_below capacities n then Some (TooSmall n) else None
fault_beside Summary capacities n = None

-- why lines have no report by size, if they have none: that of the first line with a fault, and else that of the capacities
abbrev pub fault_of : {A : Type 0} → Options A → List (List ℕ) → Option Fault
fault_of options lines =
    option_or (fault_from 1 0 lines) (fault_beside options.form options.capacities (greatest_size lines))

-- the same for a sample: it is that of the first line with a fault, kept or not, since no capacity is one
abbrev pub fault_by : {A : Type 0} → Sample → Options A → List (List ℕ) → Option Fault
fault_by Whole options lines = fault_of options lines
fault_by (OneIn n) options lines = fault_from 1 0 lines
fault_by (Taken n all) options lines = fault_from 1 0 lines

-- what a fault says of the lines
abbrev pub IsSaidOf : {A : Type 0} → Fault → Options A → List (List ℕ) → Type 0
IsSaidOf BadCapacity options lines = ⊥
IsSaidOf Memory options lines = ⊥
IsSaidOf Reading options lines = ⊥
IsSaidOf Writing options lines = ⊥
IsSaidOf Closed options lines = ⊥
IsSaidOf (NoSize n) options lines = IsFirstWithout n lines
IsSaidOf TooLarge options lines = 2 ^ 64 ≤ size_of_lines lines
IsSaidOf (TooSmall n) options lines = HaveSizes lines × (n ≡ greatest_size lines) × NamesBelow options.capacities n

-- it is the fault of these lines, and what it says of them is so
abbrev pub IsRefusedFor : {A : Type 0} → Fault → Options A → List (List ℕ) → Type 0
IsRefusedFor fault options lines = (fault_of options lines ≡ Some fault) × IsSaidOf fault options lines

-- the same of all lines, or of those that a sample is taken of
abbrev pub IsRefusedBy : {A : Type 0} → Sample → Fault → Options A → List (List ℕ) → Type 0
IsRefusedBy sample fault options lines = (fault_by sample options lines ≡ Some fault) × IsSaidOf fault options lines

-- the input has no report by keys or by size, for the reason that the fault says
abbrev pub IsRefusedPlain : {A : Type 0} → Fault → Options A → List ℕ → Type 0
IsRefusedPlain fault options input = (options.sizes ≡ true)
    × IsRefusedBy options.sample fault options (counted_lines options.one_size (lines_of input))

-- nor has one whose lines begin with times, by keys, or by size, where what follows the times begins with sizes
abbrev pub IsRefusedTimed : {A : Type 0} → Bool → Fault → Options A → List ℕ → Type 0
IsRefusedTimed false fault options input = IsUntimed fault (lines_of input)
IsRefusedTimed true fault options input = IsRefusedBy options.sample fault options (rests_of (lines_of input))

-- nor has one whose lines begin with times or not
abbrev pub IsRefusedUnder : {A : Type 0} → Option Times → Fault → Options A → List ℕ → Type 0
IsRefusedUnder None fault options input = IsRefusedPlain fault options input
IsRefusedUnder (Some limits) fault options input = IsRefusedTimed options.sizes fault options input

-- the input has no report, for the reason that the fault says
abbrev pub IsRefused : {A : Type 0} → Fault → Options A → List ℕ → Type 0
IsRefused fault options input = IsRefusedUnder options.times fault options input
