use Rattle.std.proofs.Common.{◌≡◌, ◌+◌, ◌-◌, ◌*◌, ◌++◌, ◌∙◌, suc, take, drop, ap, arith}
use Rattle.std.proofs.Math.Nat.{add-mul}
use Rattle.clru_c.specs.Parts.{rows_of}
use Rattle.clru_c.proofs.MissRows.{next_row, room_for_row}
use Rattle.clru_c.proofs.parts.rows_in.Goals as goal

pub loop-preserved : goal.loop-preserved
loop-preserved g c =
    let width = c.args.budget + 1 in let count = c.args.count in let i = c.loop.counter in
    let n = count - (i + 1) in let left = count - i in let rest = c.loop.rest.now in let cut = c.split_at.ensures in
    let more = c.loop-test.true in
    let one : left ≡ suc n = omega (arith, more) in
    let one_more : left ≡ n + 1 = omega (arith, more) in
    let room = room_for_row width count (omega (arith, more)) in
    let whole : c.saturating_add.result ≡ width =
    omega (arith, room, c.requires.many, c.well_formed.1.0, c.saturating_add.ensures) in
    let next = next_row width n left rest c.split_at.result.1.now c.split_at.result.0.now c.loop.rows.items
    (rows_of width count c.args.missed.now) one (cut.front ∙ ap (λ w. take w rest) whole) (cut.back ∙ ap (λ w. drop w rest) whole)
    c.loop.invariant.rows in
    let long : left * width ≡ n * width + 1 * width = ap (λ k. k * width) one_more ∙ add-mul n 1 width in
    record {
      rows = ap (λ l. l ++ rows_of width n c.split_at.result.1.now) c.in_ok-push.ensures.items ∙ next;
      many = omega (arith, cut.back_len, whole, c.loop.invariant.many, long);
    }
