use Rattle.std.proofs.Common.{◌++◌, sym, ap, ◌∙◌, subst}
use Rattle.std.specs.Int.NonZero.{non_zero_usize_get}
use Rattle.clru_text.specs.Samples.{is_kept}
use Rattle.clru_text.specs.TakenRequests.{HasTakenRequest}
use Rattle.clru_text.proofs.ResultLemmas.{on_ok_map}
use Rattle.clru_report.proofs.TimedLines.{timed_skipped, timed_taken}
use Rattle.clru_report.proofs.timed.lines.take_kept.Goals as goal

pub take_request-requires : goal.take_request-requires
take_request-requires g c =
    let w = c.requires.0 in let has = c.requires.3 in
    let copied = c.in_ok-extend_from_slice.ensures.items ∙ ap (λ bytes. bytes ++ c.args.rest.now) c.clear.ensures.items in
    (w, c.requires.1, has.taken.past, has.taken.taken, c.requires.4 ∙ ap w (sym copied))

pub returns-then-not-is_kept : goal.returns-then-not-is_kept
returns-then-not-is_kept g c w start lines line has timed is weighs =
    let n = non_zero_usize_get c.args.one_in in
    timed_skipped (g.P.TakesRequests.since w start) n lines c.args.pass.now has line c.args.time timed
    (ap (is_kept n) (sym is) ∙ sym c.if-not-is_kept.ensures)

pub returns : goal.returns
returns g c w start lines line has timed is weighs =
    let n = non_zero_usize_get c.args.one_in in let Is = g.P.TakesRequests.since w start in
    let copied = c.in_ok-extend_from_slice.ensures.items ∙ ap (λ bytes. bytes ++ c.args.rest.now) c.clear.ensures.items in
    on_ok_map c.take_request.result
    (λ one. timed_taken Is n lines c.args.pass.now has line c.args.time timed c.take_request.new.self
    (ap (is_kept n) (sym is) ∙ sym c.if-not-is_kept.ensures)
    (subst (λ l. HasTakenRequest Is has.taken.past l c.args.time c.take_request.new.self) (copied ∙ is) one))
    (c.take_request.ensures w start has.taken.past has.taken.taken (weighs ∙ ap w (sym copied)))
