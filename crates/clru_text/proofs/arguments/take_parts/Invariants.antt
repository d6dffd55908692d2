use Rattle.std.proofs.Common.{◌≡◌, ◌++◌, map, take, drop}
use Rattle.std.specs.Int.NonZero.{non_zero_usize_get}
use Rattle.clru_text.specs.Arguments.{part_of}
use Rattle.clru_text.proofs.arguments.take_parts.Given as goal

-- those before the index are divided
abbrev pub invariant-loop-index : goal.invariant-loop-index
invariant-loop-index g l =
    let numbers = map non_zero_usize_get l.fn.named.items in
    map non_zero_usize_get l.named.items
    ≡ map (part_of (non_zero_usize_get l.one_in)) (take l.index numbers) ++ drop l.index numbers
