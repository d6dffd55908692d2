use Rattle.std.proofs.Common.{◌++◌, take, sym, ap, ◌∙◌}
use Rattle.std.proofs.KnownBytes.{Appends-kept, Appends-trans}
use Rattle.std.proofs.lemmas.List.{take_rest}
use Rattle.clru_text.proofs.KnownLemmas.{Appends-beginning, IfErr-known, text-more}
use Rattle.clru_text.proofs.output.write_text.Goals as goal

pub writes-preserved : goal.writes-preserved
writes-preserved g c =
    let before = c.writes.invariant in
    let left = c.writes.left.now in
    let written = before.0 ++ take c.in-Ok.count left in (
      written,
      text-more c.args.text.now before.0 left c.in-Ok.count before.1 ∙ ap (λ rest. written ++ rest) (sym (take_rest left c.in-Ok.count)),
      Appends-trans _ _ _ _ _ before.2 c.in-Ok.ensures.bytes,
    )

pub returns-in-Ok-eq0-clause-cut_short : goal.returns-in-Ok-eq0-clause-cut_short
returns-in-Ok-eq0-clause-cut_short g c =
    let before = c.writes.invariant in
    Appends-beginning _ _ c.args.text.now _ _ (text-more _ before.0 c.writes.left.now c.in-Ok-eq0.field-0 before.1)
    (Appends-trans _ _ _ _ _ before.2 c.in-Ok-eq0.ensures.bytes)

pub returns-in-Err-clause-cut_short : goal.returns-in-Err-clause-cut_short
returns-in-Err-clause-cut_short g c =
    let before = c.writes.invariant in
    Appends-beginning _ _ c.args.text.now before.0 c.writes.left.now before.1 (Appends-kept _ _ _ _ before.2 c.in-Err.ensures.bytes)

pub returns-in_err-flush-clause-cut_short : goal.returns-in_err-flush-clause-cut_short
returns-in_err-flush-clause-cut_short g c =
    let before = c.writes.invariant in
    IfErr-known c.from_residual.result
    (Appends-beginning _ _ c.args.text.now before.0 c.writes.left.now before.1 (Appends-kept _ _ _ _ before.2 c.flush.ensures.bytes))
