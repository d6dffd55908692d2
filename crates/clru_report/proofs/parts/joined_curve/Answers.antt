use Rattle.std.proofs.Common.{◌≡◌, ◌+◌, ◌∷◌, ◌++◌, [], refl, sym, ap, ◌∙◌, subst, length, arith}
use Rattle.std.proofs.lemmas.List.FromFn.{map-range_with_len_more}
use Rattle.clru_report.specs.JoinedCurves.{joined_at, joined_up_to}
use Rattle.clru_report.specs.Parts.{HasCurve}
use Rattle.clru_report.proofs.JoinedCurves.{joined}
use Rattle.clru_report.proofs.parts.joined_curve.Goals as goal

pub loop-index-preserved : goal.loop-index-preserved
loop-index-preserved g c =
    let one = c.args.one.now in let between = c.args.between.now in let two = c.args.two.now in let i = c.loop-index.index in
    let is : c.saturating_add-misses.result ≡ joined_at one between two (i + 1) = rw (
      c.saturating_add-misses.ensures,
      c.saturating_add.ensures,
      c.saturating_sub-second.ensures,
      c.misses_by_keys-in-loop-index.ensures,
      c.saturating_sub-middle.ensures,
      c.misses_by_keys.ensures,
      c.misses_by_keys-first.ensures,
    ) refl in
    c.in-Ok.ensures.items ∙ ap (λ n. c.loop-index.curve.items ++ n ∷ []) is ∙ ap (λ l. l ++ joined_at one between two (i + 1) ∷ []) c.loop-index.invariant
    ∙ sym (map-range_with_len_more (λ j. joined_at one between two (j + 1)) 0 i i (omega arith))

pub returns : goal.returns
returns g c lines more one between two few =
    let end : c.loop-index.index ≡ length c.args.between.now = omega (arith, c.loop-index-test.false, c.loop-index.auto.index-end) in
    subst (HasCurve (lines ++ more)) (sym (c.loop-index.invariant ∙ ap (joined_up_to c.args.one.now c.args.between.now c.args.two.now) end))
    (joined lines more c.args.one.now c.args.between.now c.args.two.now one between two few)
