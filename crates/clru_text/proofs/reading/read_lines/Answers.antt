use Rattle.std.specs.Result.{is_ok}
use Rattle.std.proofs.Common.{◌+◌, ◌++◌, ◌∷◌, [], ℕ, List, IfErr, append_assoc, append-nil, refl, sym, length, ap, ◌∙◌, subst, arith}
use Rattle.std.proofs.lemmas.List.{length-append}
use Rattle.clru_text.proofs.ResultLemmas.{err_all, err_map, no_ok, of_ok}
use Rattle.clru_text.proofs.reading.read_lines.Goals as goal

pub lines-init : goal.lines-init
lines-init g c = ([], c.new-buffer.ensures (g.R.Read.remaining c.args.reader.now), refl, omega arith, c.requires, tt)

pub overflow_add-number : goal.overflow_add-number
overflow_add-number g c =
    let before = c.lines.invariant in
    let fits = c.in_ok-read_line.ensures.fits (g.R.Read.remaining c.args.reader.now) before.0 before.1 c.if-branch.true in
    omega (arith, before.2, fits)

pub take_line-requires : goal.take_line-requires
take_line-requires g c =
    let before = c.lines.invariant in
    (c.args.taker.now, before.0, of_ok c.lines.taken (sym c.is_ok.ensures.value ∙ c.if-is_ok.true) before.4, ap (λ n. n + 1) before.2)

pub lines-preserved-then-is_ok : goal.lines-preserved-then-is_ok
lines-preserved-then-is_ok g c =
    let before = c.lines.invariant in let start = g.R.Read.remaining c.args.reader.now in
    let line = c.read_line.new.line.items in let first = c.args.taker.now in let e = c.in-Ok.ensures in
    let fits = c.in_ok-read_line.ensures.fits start before.0 before.1 c.if-branch.true in
    let so = of_ok c.lines.taken (sym c.is_ok.ensures.value ∙ c.if-is_ok.true) before.4 in
    let counted = ap (λ n. n + 1) before.2 in (
      before.0 ++ line ∷ [],
      c.in_ok-read_line.ensures.line start before.0 before.1 c.if-branch.true,
      omega (arith, before.2, length-append before.0 (line ∷ [])),
      omega (arith, before.2, fits),
      e.taken first before.0 so counted,
      err_all _ c.in-Ok.next (λ rest. subst (λ ls. IfErr c.in-Ok.next (λ reason. g.T.TakesLines.refused first ls reason c.take_line.new.self))
          (sym (append_assoc before.0 (line ∷ []) rest)) (e.refused first before.0 rest so counted)),
    )

pub lines-preserved : goal.lines-preserved
lines-preserved g c =
    let before = c.lines.invariant in let start = g.R.Read.remaining c.args.reader.now in
    let line = c.read_line.new.line.items in let is = sym c.is_ok.ensures.value ∙ c.if-is_ok.false in
    let fits = c.in_ok-read_line.ensures.fits start before.0 before.1 c.if-branch.true in (
      before.0 ++ line ∷ [],
      c.in_ok-read_line.ensures.line start before.0 before.1 c.if-branch.true,
      omega (arith, before.2, length-append before.0 (line ∷ [])),
      omega (arith, before.2, fits),
      no_ok _ c.lines.taken is,
      err_map c.lines.taken (λ reason so rest.
          subst (λ ls. g.T.TakesLines.refused c.args.taker.now ls reason c.lines.taker) (sym (append_assoc before.0 (line ∷ []) rest)) (so (line ∷ rest)))
          before.5,
    )

pub returns-in-Ok-taken-clause-taken : goal.returns-in-Ok-taken-clause-taken
returns-in-Ok-taken-clause-taken g c =
    let before = c.lines.invariant in let start = g.R.Read.remaining c.args.reader.now in
    let read = c.in_ok-read_line.ensures.end start before.0 before.1 c.if-branch.false in
    let lines = sym read.3.0 in
    let so = of_ok c.lines.taken (ap is_ok c.in-Ok-taken.is) before.4 in (
      read.0,
      read.1,
      read.2,
      record {
        taken = subst (λ ls. g.T.TakesLines.since c.args.taker.now ls c.lines.taker) lines so;
        counted = before.2 ∙ ap length lines;
        in_bytes = c.bytes_read.ensures ∙ read.3.1;
      },
    )

pub returns-clause-refused : goal.returns-clause-refused
returns-clause-refused g c =
    let before = c.lines.invariant in let start = g.R.Read.remaining c.args.reader.now in
    let read = c.in_ok-read_line.ensures.end start before.0 before.1 c.if-branch.false in
    let so = subst (λ r. IfErr r (λ f. (rest : List (List ℕ)) → g.T.TakesLines.refused c.args.taker.now (before.0 ++ rest) f c.lines.taker))
    c.in-Err.is before.5 in (
      read.0,
      read.1,
      read.2,
      subst (λ ls. g.T.TakesLines.refused c.args.taker.now ls c.in-Err.reason c.lines.taker) (append-nil before.0 ∙ sym read.3.0) (so []),
    )
