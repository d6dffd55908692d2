use Rattle.std.proofs.Common.{◌≡◌, ◌∙◌, ◌++◌, ◌<◌, [], length, sym, ap, arith}
use Rattle.std.proofs.lemmas.List.{append-nil}
use Rattle.std.proofs.lemmas.Bool.Decides.{nat_tests}
use Rattle.clru_parts.proofs.TextLemmas.{lines_more, lines_moved, next_of, none_left}
use Rattle.clru_parts.proofs.read.numbers_of.Goals as goal

pub returns-in_err-number-clause-whole : goal.returns-in_err-number-clause-whole
returns-in_err-number-clause-whole g c = λ numbers fits is.
    let left = c.lines.invariant.whole numbers fits is in
    let some : 0 < length c.lines.left.now = grind (arith, nat_tests, c.is_empty.ensures, c.lines-test.true) in
    let next = next_of c.lines.left.now left.0 some left.1 left.3 in
    absurd (c.in_err-number.ensures.whole next.n _ next.fits next.begins)

pub lines-preserved : goal.lines-preserved
lines-preserved g c = record {
  read = lines_more _ c.lines.numbers.items _ c.lines.left.now _ c.in_ok-number.number c.lines.invariant.read c.in_ok-number.ensures.read c.in-Ok.ensures.items;
  whole = λ numbers fits is.
      let left = c.lines.invariant.whole numbers fits is in
      let some : 0 < length c.lines.left.now = grind (arith, nat_tests, c.is_empty.ensures, c.lines-test.true) in
      let next = next_of c.lines.left.now left.0 some left.1 left.3 in
      let read = c.in_ok-number.ensures.whole next.n _ next.fits next.begins in (
        next.rest,
        next.all,
        lines_moved numbers c.lines.numbers.items _ left.0 next.rest next.n c.in_ok-number.number left.2 next.are read.0 c.in-Ok.ensures.items,
        read.1,
      );
}

pub returns-clause-whole : goal.returns-clause-whole
returns-clause-whole g c = λ numbers fits is.
    let left = c.lines.invariant.whole numbers fits is in
    let empty : length c.lines.left.now ≡ 0 = grind (arith, nat_tests, c.is_empty.ensures, c.lines-test.false) in
    let none : left.0 ≡ [] = none_left c.lines.left.now left.0 empty left.3 in
    sym (left.2 ∙ ap (λ l. c.lines.numbers.items ++ l) none ∙ append-nil _)
