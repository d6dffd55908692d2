-- What the fault of a split says of the log, by its status.
use Rattle.std.proofs.Common.{◌≡◌, ℕ, Bool, true, List, Option, refl, arith}
use Rattle.clru_shares.specs.Faults.{comes_of_a_line, split_status_of}
use Rattle.clru_shares.specs.Refusals.{HasNoRoom, IsSaidOfLines}
use Rattle.clru_shares.specs.declared.fault.SplitFault.{SplitFault}
use Rattle.clru_shares.specs.declared.fault.SplitFault.TheVariants.{NoTime, NoClass, TooManyClasses, NoSize, TooLarge, NoRoom, Other}
use Rattle.clru_text.specs.Faults.{is_of_input, status_of}
use Rattle.clru_text.specs.declared.fault.Fault.{Fault}
use Rattle.clru_text.specs.declared.fault.Fault.TheVariants.{BadCapacity, Memory, Reading, Writing, Closed, NoSize as NoSizeOf, TooLarge as TooLargeOf, TooSmall}
use Rattle.clru_web.specs.Splits.{IsSaidOfSplit}

of_input : (fault : Fault) → status_of fault ≡ 6 → is_of_input fault ≡ true
of_input BadCapacity is = refl
of_input Memory is = absurd (omega (arith, is))
of_input Reading is = absurd (omega (arith, is))
of_input Writing is = absurd (omega (arith, is))
of_input Closed is = absurd (omega (arith, is))
of_input (NoSizeOf n) is = refl
of_input TooLargeOf is = refl
of_input (TooSmall n) is = refl

-- one of status 6 is one of the lines, or of the budget
pub said_of_split : (idle : Option ℕ) (sizes : Bool) (sample : Option ℕ) (budget : ℕ) (fault : SplitFault) (lines : List (List ℕ))
    → split_status_of fault ≡ 6 → (comes_of_a_line fault ≡ true → IsSaidOfLines idle sizes fault lines)
    → ((size : ℕ) → fault ≡ NoRoom size → (name : List ℕ) × HasNoRoom sizes idle sample budget size lines name)
    → IsSaidOfSplit idle sizes sample budget fault lines
said_of_split idle sizes sample budget (NoTime n) lines six said room = said refl
said_of_split idle sizes sample budget (NoClass n) lines six said room = said refl
said_of_split idle sizes sample budget (TooManyClasses n) lines six said room = said refl
said_of_split idle sizes sample budget (NoSize n) lines six said room = said refl
said_of_split idle sizes sample budget TooLarge lines six said room = said refl
said_of_split idle sizes sample budget (NoRoom size) lines six said room = room size refl
said_of_split idle sizes sample budget (Other fault) lines six said room = said (of_input fault six)
