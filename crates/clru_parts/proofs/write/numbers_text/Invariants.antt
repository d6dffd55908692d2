use Rattle.std.proofs.Common.{◌≡◌, take}
use Rattle.std.specs.List.{flat_map}
use Rattle.clru_parts.specs.Files.{number_line}
use Rattle.clru_parts.proofs.write.numbers_text.Given as goal

abbrev pub invariant-loop-number : goal.invariant-loop-number
invariant-loop-number g l = l.text.items ≡ flat_map number_line (take l.number-index l.numbers)
