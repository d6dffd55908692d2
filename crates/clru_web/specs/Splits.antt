-- What the result of a split says of the log. Public clauses cite it.
use Rattle.std.specs.Fmt.Cut.{IsTextOrCut}
use Rattle.std.specs.Prelude.{ℕ, zero, suc, Bool, true, false, List, Option}
use Rattle.clru_shares.specs.Faults.{split_fault_text}
use Rattle.clru_shares.specs.Refusals.{HasNoRoom, IsSaidOfLines}
use Rattle.clru_shares.specs.declared.fault.SplitFault.{SplitFault}
use Rattle.clru_shares.specs.declared.fault.SplitFault.TheVariants.{NoRoom}
use Rattle.clru_shares.specs.declared.form.SplitForm.{SplitForm}
use Rattle.clru_shares.specs.declared.form.SplitForm.TheVariants.{Table, Json, Picture}
use Rattle.clru_text.specs.Lines.{lines_of}
use Rattle.clru_web.specs.Answers.{IsSaid}

-- by size or by keys
abbrev pub has_sizes : ℕ → Bool
has_sizes zero = false
has_sizes (suc n) = true

-- the form of a number
abbrev pub form_of : ℕ → SplitForm
form_of zero = Table
form_of (suc zero) = Json
form_of (suc (suc n)) = Picture

-- the text is the line of a fault; what has over 160 bytes, as none has, may be cut
abbrev pub IsToldOfSplit : SplitFault → ℕ → List ℕ → Type 0
IsToldOfSplit fault room text = (what : List ℕ) × IsTextOrCut 160 (split_fault_text fault) what × IsSaid what room text

-- what a fault says of lines: by size that the budget is less than the greatest of some class, or what it says whatever the budget
abbrev pub IsSaidOfSplit : Option ℕ → Bool → Option ℕ → ℕ → SplitFault → List (List ℕ) → Type 0
IsSaidOfSplit idle sizes sample budget (NoRoom size) lines = (name : List ℕ) × HasNoRoom sizes idle sample budget size lines name
IsSaidOfSplit idle sizes sample budget fault lines = IsSaidOfLines idle sizes fault lines

-- the log has no split of the budget, for a reason that the text tells
abbrev pub HasNoSplit : Option ℕ → Bool → Option ℕ → ℕ → List ℕ → ℕ → List ℕ → Type 0
HasNoSplit idle sizes sample budget log room text =
    (fault : SplitFault) × IsSaidOfSplit idle sizes sample budget fault (lines_of log) × IsToldOfSplit fault room text
