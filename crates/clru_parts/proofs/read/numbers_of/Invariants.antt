use Rattle.std.proofs.Common.{◌≡◌, ℕ, List, ◌++◌, length}
use Rattle.std.specs.List.{AllByRecursion, flat_map}
use Rattle.clru_parts.specs.Files.{Fits, number_line}
use Rattle.clru_parts.proofs.read.numbers_of.Given as goal

abbrev pub invariant-lines : goal.invariant-lines
invariant-lines g l = record {
  read : l.text ≡ flat_map number_line l.numbers.items ++ l.left;
  whole : (numbers : List ℕ) → AllByRecursion Fits numbers → l.text ≡ flat_map number_line numbers
      → (more : List ℕ) × AllByRecursion Fits more × (numbers ≡ l.numbers.items ++ more) × (l.left ≡ flat_map number_line more);
}

abbrev pub decreases-lines : goal.decreases-lines
decreases-lines g l = length l.left
