use Rattle.std.proofs.Common.{◌+◌, ◌++◌, ◌∷◌, IsSome, is_some, sym, ap, ◌∙◌, subst, arith}
use Rattle.std.specs.Int.NonZero.{non_zero_usize_get}
use Rattle.clru_text.specs.Keys.{line_of}
use Rattle.clru_text.specs.Samples.{kept_of}
use Rattle.clru_text.specs.Sizes.{size_of_line, weight_of_line}
use Rattle.clru_report.specs.Passes.{IsOfLines}
use Rattle.clru_report.specs.Refusals.{fault_from}
use Rattle.clru_report.proofs.SizedSamples.{added_more, added_refused}
use Rattle.clru_report.proofs.sized.pass.SizedLinesTakesLinesFault.take_line.Goals as goal

pub returns-in-Err-clause-refused : goal.returns-in-Err-clause-refused
returns-in-Err-clause-refused g c start lines rest since counted =
    let size = c.args.self.now.size in let added = since.1.added in let line = line_of c.args.line.now in let same = c.deref.ensures.value in
    let fault = c.in-Err.fault in
    added_refused lines size added fault line rest
    (subst (λ l. IsOfLines fault (lines ++ l ∷ rest)) same (c.in-Err.ensures.refused lines rest added.sizes added.summed counted))
    (ap (λ n. fault_from n size (line ∷ rest)) (sym counted) ∙ ap (λ l. fault_from c.args.number size (l ∷ rest)) (sym same) ∙ c.in-Err.ensures.fault rest)

pub take_kept-requires-clause-sized : goal.take_kept-requires-clause-sized
take_kept-requires-clause-sized g c = subst (λ l. IsSome (size_of_line l)) c.deref.ensures.value c.in-Ok.ensures.sized

pub take_kept-requires-clause-weight : goal.take_kept-requires-clause-weight
take_kept-requires-clause-weight g c = omega (arith, c.in-Ok.ensures.sum, ap weight_of_line c.deref.ensures.value)

pub take_kept-requires-clause-taken : goal.take_kept-requires-clause-taken
take_kept-requires-clause-taken g c =
    (is_some c.requires.0.reuses, kept_of (non_zero_usize_get c.args.self.now.one_in) c.requires.1, c.requires.2.1.taken)

pub returns-clause-taken : goal.returns-clause-taken
returns-clause-taken g c start lines since counted =
    let size = c.args.self.now.size in let line = line_of c.args.line.now in let same = c.deref.ensures.value in let e = c.in-Ok.ensures in
    let more = c.in-Ok.more in (
      since.0,
      record {
        added = added_more lines size since.1.added line more (subst (λ l. IsSome (size_of_line l)) same e.sized)
            (e.sum ∙ ap (λ l. size + (1 + weight_of_line l)) same)
            (λ rest. ap (λ n. fault_from n size (line ∷ rest)) (sym counted) ∙ ap (λ l. fault_from c.args.number size (l ∷ rest)) (sym same)
            ∙ e.next rest ∙ ap (λ n. fault_from (n + 1) more rest) counted);
        taken = c.in_ok-take_kept.ensures (is_some start.reuses) lines since.1.taken;
      },
    )
