-- What is known of lines with sizes that were read one by one. No public clause cites it.
use Rattle.std.specs.Prelude.{◌≡◌, ℕ, ◌+◌, ◌++◌, Some, List, length}
use Rattle.clru_text.specs.Sizes.{HaveSizes}
use Rattle.clru_text.specs.declared.fault.Fault.{Fault}
use Rattle.clru_report.specs.LineFaults.{fault_from}
use Rattle.clru_report.specs.Passes.{IsOfLines}
use Rattle.clru_report.specs.Sizes.{size_of_lines}

-- lines have this size together, and no fault
pub record AddUpTo (lines : List (List ℕ)) (size : ℕ) : Type 0 where
  pub sizes : HaveSizes lines
  pub summed : size ≡ size_of_lines lines
  pub faults : (rest : List (List ℕ)) → fault_from 1 0 (lines ++ rest) ≡ fault_from (length lines + 1) size rest

-- lines have this fault
abbrev pub HaveFault : List (List ℕ) → Fault → Type 0
HaveFault lines fault = IsOfLines fault lines × (fault_from 1 0 lines ≡ Some fault)
