use Rattle.std.proofs.Common.{◌≡◌, map, length}
use Rattle.std.specs.Prelude.{◌==◌}
use denote.Text.{Utf8}
use denote.Shadow.{shadow}
use Rattle.std.specs.Int.NonZero.{non_zero_usize_get}
use Rattle.std.specs.List.{slice_split}
use Rattle.clru_text.specs.CommandLine.{numbers_and}
use Rattle.clru_text.proofs.arguments.name_capacities.Given as goal

abbrev pub invariant-parts : goal.invariant-parts
invariant-parts g l = shadow (Utf8 l.left)
    × (numbers_and (map non_zero_usize_get l.fn.named.items) (slice_split (λ b. b == 44) l.list)
    ≡ numbers_and (map non_zero_usize_get l.named.items) (slice_split (λ b. b == 44) l.left))

abbrev pub decreases-parts : goal.decreases-parts
decreases-parts g l = length l.left
