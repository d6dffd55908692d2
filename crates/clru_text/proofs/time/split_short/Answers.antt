use Rattle.std.proofs.Common.{◌+◌, ◌-◌, ◌*◌, ◌^◌, length, take, drop, sym, ap, ◌∙◌, arith}
use Rattle.std.proofs.lemmas.List.{length-take-le, take_rest}
use Rattle.clru_text.specs.Times.{in_time}
use Rattle.clru_text.proofs.TimeFigures.{behind_split, decimal_named, rest_split, time_split, whole_split}
use Rattle.clru_text.proofs.time.split_short.Goals as goal

pub returns-in-Some-clause-time : goal.returns-in-Some-clause-time
returns-in-Some-clause-time c =
    whole_split c.args.line.now c.leading_number-whole.result.1 c.leading_number-whole.result.0 (c.leading_number-whole.ensures.named (omega arith))
    c.leading_number-whole.ensures.digits c.if-at-line.false c.if-line-at-eq32.true
    ∙ sym c.in_time.ensures ∙ c.in-Some.is

pub returns-in-Some-clause-rest : goal.returns-in-Some-clause-rest
returns-in-Some-clause-rest c =
    take_rest c.args.line.now (c.leading_number-whole.result.1 + 1)
    ∙ sym (behind_split c.args.line.now c.leading_number-whole.result.1 c.leading_number-whole.result.0 (c.leading_number-whole.ensures.named (omega arith))
    c.leading_number-whole.ensures.digits c.if-at-line.false c.if-line-at-eq32.true c.in-Some.time (returns-in-Some-clause-time c))

pub returns-in-Some-in_time-clause-time : goal.returns-in-Some-in_time-clause-time
returns-in-Some-in_time-clause-time c =
    let line = c.args.line.now in let at = c.leading_number-whole.result.1 in let places = c.leading_number-part.result.1 in
    let behind = take (length line - (at + 1)) (drop (at + 1) line) in
    time_split line behind at places (take_rest line (at + 1)) c.leading_number-whole.ensures.digits c.leading_number-part.ensures.digits
    c.if-at-line.false c.if-line-at-ne46.false c.if-places-behind.false c.if-behind-places-ne32.false
    ∙ decimal_named (take at line) (take places behind) c.leading_number-whole.result.0 c.leading_number-part.result.0 places
    (c.leading_number-whole.ensures.named (omega arith)) (c.leading_number-part.ensures.named (omega arith)) (length-take-le places behind c.leading_number-part.ensures.within)
    ∙ ap (λ m. in_time (c.leading_number-whole.result.0 * 10 ^ 6 + m)) (sym c.millionths_of.ensures.value) ∙ sym c.in_time-2.ensures ∙ c.in-Some-in_time.is

pub returns-in-Some-in_time-clause-rest : goal.returns-in-Some-in_time-clause-rest
returns-in-Some-in_time-clause-rest c =
    let line = c.args.line.now in let at = c.leading_number-whole.result.1 in let places = c.leading_number-part.result.1 in
    let behind = take (length line - (at + 1)) (drop (at + 1) line) in
    take_rest behind (places + 1)
    ∙ sym (rest_split line behind at places (take_rest line (at + 1)) c.leading_number-whole.ensures.digits c.leading_number-part.ensures.digits
    c.if-at-line.false c.if-line-at-ne46.false c.if-places-behind.false c.if-behind-places-ne32.false c.in-Some-in_time.time (returns-in-Some-in_time-clause-time c))
