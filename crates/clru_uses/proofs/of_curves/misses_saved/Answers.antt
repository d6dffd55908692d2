use Rattle.std.proofs.Common.{arith}
use Rattle.std.specs.Int.NonZero.{non_zero_usize_get}
use Rattle.clru_uses.proofs.of_curves.misses_saved.Goals as goal

pub overflow_sub-result : goal.overflow_sub-result
overflow_sub-result c =
    let room = non_zero_usize_get c.args.room in
    let more = non_zero_usize_get c.args.more in
    let is = c.in-Ok.ensures.misses in
    omega (
      arith,
      c.misses.ensures,
      c.misses-in-Ok.ensures,
      is room c.args.room.ok,
      is more c.args.more.ok,
      c.law_growth.ensures.misses room more c.args.pages.now c.requires,
    )

pub returns-in-Ok : goal.returns-in-Ok
returns-in-Ok c =
    let room = non_zero_usize_get c.args.room in
    let more = non_zero_usize_get c.args.more in
    let is = c.in-Ok.ensures.misses in
    omega (
      arith,
      c.misses.ensures,
      c.misses-in-Ok.ensures,
      is room c.args.room.ok,
      is more c.args.more.ok,
      c.law_growth.ensures.misses room more c.args.pages.now c.requires,
    )
