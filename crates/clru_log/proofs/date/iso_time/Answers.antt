use Rattle.std.proofs.Common.{◌≡◌, true, get_or, drop, ap, sym, ◌∙◌}
use Rattle.std.proofs.lemmas.List.{take_rest}
use Rattle.std.specs.Option.{option_and_then}
use Rattle.clru_log.specs.Dates.{is_separator, time_on}
use Rattle.clru_log.specs.Shapes.{number_at}
use Rattle.clru_log.proofs.DayLemmas.{same_days}
use Rattle.clru_log.proofs.date.iso_time.Goals as goal

pub returns-in-Some : goal.returns-in-Some
returns-in-Some c =
    let text = c.args.text.now in
    let parted : is_separator (get_or text 10 0) ≡ true = sym c.is_separator.ensures ∙ c.if-not-is_separator.false in
    let same = same_days c.four_digits.result c.two_digits.result c.two_digits-2.result (number_at 0 4 text) (number_at 5 2 text) (number_at 8 2 text)
    c.four_digits.ensures.value c.two_digits.ensures.value c.two_digits-2.ensures.value in
    rw parted (c.time_on.ensures ∙ ap (λ xs. time_on xs c.in-Some.days) (take_rest text 11)
    ∙ ap (option_and_then (time_on (drop 11 text))) (sym c.in-Some.is ∙ c.days_to.ensures.days ∙ same))

pub returns-in-None : goal.returns-in-None
returns-in-None c =
    let text = c.args.text.now in
    let parted : is_separator (get_or text 10 0) ≡ true = sym c.is_separator.ensures ∙ c.if-not-is_separator.false in
    let same = same_days c.four_digits.result c.two_digits.result c.two_digits-2.result (number_at 0 4 text) (number_at 5 2 text) (number_at 8 2 text)
    c.four_digits.ensures.value c.two_digits.ensures.value c.two_digits-2.ensures.value in
    rw parted (ap (option_and_then (time_on (drop 11 text))) (sym c.in-None.is ∙ c.days_to.ensures.days ∙ same))
