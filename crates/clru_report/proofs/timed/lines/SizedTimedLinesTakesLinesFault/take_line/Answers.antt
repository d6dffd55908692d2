use Rattle.std.proofs.Common.{◌+◌, ◌++◌, ◌∷◌, IsSome, sym, ap, subst, ◌∙◌, arith}
use Rattle.std.proofs.lemmas.List.{length-map}
use Rattle.clru_text.specs.Keys.{line_of}
use Rattle.clru_text.specs.Sizes.{size_of_line, weight_of_line}
use Rattle.clru_text.specs.Times.{rest_of_line, rests_of, time_of_line}
use Rattle.clru_report.specs.Passes.{IsOfLines}
use Rattle.clru_report.specs.Refusals.{fault_from}
use Rattle.clru_report.proofs.SizedTimedLines.{sized_more, sized_refused, untimed_refused}
use Rattle.clru_report.proofs.timed.lines.SizedTimedLinesTakesLinesFault.take_line.Goals as goal

pub returns-in_default-clause-refused : goal.returns-in_default-clause-refused
returns-in_default-clause-refused g c start lines rest since counted =
    untimed_refused lines c.args.self.now.size c.args.number since.1.added counted (line_of c.args.line.now) rest
    (ap time_of_line (sym c.deref.ensures.value) ∙ c.in_default.ensures.none)

pub returns-in-Err-clause-refused : goal.returns-in-Err-clause-refused
returns-in-Err-clause-refused g c start lines rest since counted =
    let size = c.args.self.now.size in let added = since.1.added in let line = line_of c.args.line.now in let fault = c.in-Err.fault in
    let split = c.in-Some.ensures.rest ∙ ap rest_of_line c.deref.ensures.value in
    sized_refused lines size c.args.number added counted fault line rest
    (subst (λ l. IsOfLines fault (rests_of lines ++ l ∷ rests_of rest)) split
    (c.in-Err.ensures.refused (rests_of lines) (rests_of rest) added.sizes added.summed (omega (arith, counted, length-map lines rest_of_line))))
    (ap (λ l. fault_from c.args.number size (l ∷ rests_of rest)) (sym split) ∙ c.in-Err.ensures.fault (rests_of rest))

pub take_kept-requires : goal.take_kept-requires
take_kept-requires g c = let since = c.requires.2 in (weight_of_line, c.requires.0.lines.pass, c.requires.1, since.1.timed, omega (arith, c.in-Ok.ensures.sum))

pub returns-clause-taken : goal.returns-clause-taken
returns-clause-taken g c start lines since counted =
    let size = c.args.self.now.size in let line = line_of c.args.line.now in let same = c.deref.ensures.value in
    let split = c.in-Some.ensures.rest ∙ ap rest_of_line same in let e = c.in-Ok.ensures in let more = c.in-Ok.more in (
      since.0,
      record {
        timed = c.in_ok-new.ensures weight_of_line start.lines.pass lines line since.1.timed
            (ap time_of_line (sym same) ∙ c.in-Some.ensures.time) split (omega (arith, e.sum));
        added = sized_more lines size c.args.number since.1.added counted line more (subst (λ l. IsSome (size_of_line l)) split e.sized)
            (e.sum ∙ ap (λ l. size + (1 + weight_of_line l)) split)
            (λ rest. ap (λ l. fault_from c.args.number size (l ∷ rest)) (sym split) ∙ e.next rest);
      },
    )
