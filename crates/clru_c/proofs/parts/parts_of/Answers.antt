use Rattle.std.proofs.Common.{ap, length, arith, ◌+◌}
use Rattle.clru_c.specs.Parts.{missed_without, missed_with}
use Rattle.clru_c.proofs.MissRows.{length-rows, length_of_parts}
use Rattle.clru_c.proofs.parts.parts_of.Goals as goal

pub copy_from_slice-requires : goal.copy_from_slice-requires
copy_from_slice-requires g c =
    let rows = c.deref.result.now in let found = c.in-Ok-split.found.items in
    let as_many = length_of_parts missed_without missed_with 1 rows found c.in-Ok-split.ensures.best.split.parts in
    let all = length-rows (c.args.budget + 1) (length c.args.parts.now) c.args.missed.now in
    omega (arith, as_many, all, ap (λ l. length l) c.deref.ensures.value, ap (λ l. length l) c.in-Ok.ensures.rows, c.deref-2.ensures.len, ap (λ l. length l) c.deref-2.ensures.value)
