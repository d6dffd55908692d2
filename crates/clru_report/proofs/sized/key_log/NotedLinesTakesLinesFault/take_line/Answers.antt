use Rattle.std.proofs.Common.{◌+◌, ◌++◌, ◌∷◌, [], IsSome, sym, ap, ◌∙◌, subst, arith}
use Rattle.std.specs.HashMap.{get}
use Rattle.clru_text.specs.Keys.{line_of, same_line}
use Rattle.clru_text.specs.Sizes.{size_of_line, weight_of_line}
use Rattle.clru_report.specs.KeyLogs.{HasNoted, tails_of}
use Rattle.clru_report.specs.Passes.{IsOfLines}
use Rattle.clru_report.specs.Refusals.{fault_from}
use Rattle.clru_report.proofs.SizedSamples.{added_more, added_refused}
use Rattle.clru_report.proofs.sized.key_log.NotedLinesTakesLinesFault.take_line.Goals as goal

pub returns-in-Err-clause-refused : goal.returns-in-Err-clause-refused
returns-in-Err-clause-refused g c start lines rest since counted =
    let size = c.args.self.now.size in let added = since.0 in let line = line_of c.args.line.now in let same = c.deref.ensures.value in
    let fault = c.in-Err.fault in
    added_refused lines size added fault line rest
    (subst (λ l. IsOfLines fault (lines ++ l ∷ rest)) same (c.in-Err.ensures.refused lines rest added.sizes added.summed counted))
    (ap (λ n. fault_from n size (line ∷ rest)) (sym counted) ∙ ap (λ l. fault_from c.args.number size (l ∷ rest)) (sym same) ∙ c.in-Err.ensures.fault rest)

pub note_line-requires : goal.note_line-requires
note_line-requires g c = (c.requires.1, c.requires.2.1)

pub returns-clause-taken : goal.returns-clause-taken
returns-clause-taken g c start lines since counted =
    let size = c.args.self.now.size in let line = line_of c.args.line.now in let same = c.deref.ensures.value in let e = c.in-Ok.ensures in
    let more = c.in-Ok.more in (
      added_more lines size since.0 line more (subst (λ l. IsSome (size_of_line l)) same e.sized)
          (e.sum ∙ ap (λ l. size + (1 + weight_of_line l)) same)
          (λ rest. ap (λ n. fault_from n size (line ∷ rest)) (sym counted) ∙ ap (λ l. fault_from c.args.number size (l ∷ rest)) (sym same)
          ∙ e.next rest ∙ ap (λ n. fault_from (n + 1) more rest) counted),
      subst (λ l. HasNoted line_of (lines ++ l ∷ []) (get same_line c.note_line.new.numbers) (tails_of c.note_line.new.log)
          c.note_line.new.log.sizes.items c.note_line.new.log.requests.items) c.deref-2.ensures.value
          (c.in_ok-note_line.ensures lines (omega (arith, e.sum, ap weight_of_line (same ∙ sym c.deref-2.ensures.value))) since.1),
    )
