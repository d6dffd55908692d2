use Rattle.std.proofs.Common.{◌≡◌, ◌≤◌, length, take, drop, length-drop, arith}
use Rattle.std.proofs.lemmas.List.{drop-drop}
use Rattle.std.specs.Str.Parse.{digits_value}
use Rattle.clru_log.proofs.ShapeLemmas.{halves, later_digits}
use Rattle.clru_log.proofs.shape.four_digits.Goals as goal

pub two_digits-requires-2-clause-digits : goal.two_digits-requires-2-clause-digits
two_digits-requires-2-clause-digits c = rw (← drop-drop 2 c.args.from c.args.text.now) (later_digits (drop c.args.from c.args.text.now) c.requires.digits)

pub returns-clause-value : goal.returns-clause-value
returns-clause-value c =
    let xs = drop c.args.from c.args.text.now in
    let enough : 4 ≤ length xs = omega (arith, length-drop c.args.from c.args.text.now, c.requires.within) in
    let later : c.two_digits-2.result ≡ digits_value 10 (take 2 (drop 2 xs)) = rw (drop-drop 2 c.args.from c.args.text.now) c.two_digits-2.ensures.value in
    omega (arith, halves xs enough, later, c.two_digits.ensures.value)
