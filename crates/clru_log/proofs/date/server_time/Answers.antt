use Rattle.std.proofs.Common.{take, drop, ap, sym, ◌∙◌}
use Rattle.std.proofs.lemmas.List.{take_rest}
use Rattle.std.specs.Option.{option_and_then}
use Rattle.clru_log.specs.Dates.{month_named, time_on}
use Rattle.clru_log.specs.Shapes.{number_at}
use Rattle.clru_log.proofs.DayLemmas.{same_days}
use Rattle.clru_log.proofs.date.server_time.Goals as goal

pub returns-in-Some : goal.returns-in-Some
returns-in-Some c =
    let text = c.args.text.now in
    let same = same_days c.four_digits.result c.month_named.result c.two_digits.result (number_at 7 4 text) (month_named (take 3 (drop 3 text))) (number_at 0 2 text)
    c.four_digits.ensures.value c.month_named.ensures c.two_digits.ensures.value in
    c.time_on.ensures ∙ ap (λ xs. time_on xs c.in-Some.days) (take_rest text 12)
    ∙ ap (option_and_then (time_on (drop 12 text))) (sym c.in-Some.is ∙ c.days_to.ensures.days ∙ same)

pub returns-in-None : goal.returns-in-None
returns-in-None c =
    let text = c.args.text.now in
    let same = same_days c.four_digits.result c.month_named.result c.two_digits.result (number_at 7 4 text) (month_named (take 3 (drop 3 text))) (number_at 0 2 text)
    c.four_digits.ensures.value c.month_named.ensures c.two_digits.ensures.value in
    ap (option_and_then (time_on (drop 12 text))) (sym c.in-None.is ∙ c.days_to.ensures.days ∙ same)
