use Rattle.std.proofs.Common.{◌+◌, ◌∷◌, reverse, take, refl, ap, ◌∙◌, subst, arith, take_all}
use Rattle.std.proofs.lemmas.List.{reverse-reverse}
use Rattle.std.proofs.lemmas.List.Sums.{sum_by-append, sum_by-cons}
use Rattle.clru_curve.specs.Seen.{timeless}
use Rattle.clru_curve.specs.SizedCurves.{IsSizedCurveOf, size_of_all}
use Rattle.clru_curve.specs.SizedPasses.{key_of}
use Rattle.clru_curve.proofs.Looking.{holds_none, placed_none, refused_here, size_more, sum_within}
use Rattle.clru_curve.proofs.Refusals.{no_memory}
use Rattle.clru_curve.proofs.Timeless.{keys_timeless, none_late}
use Rattle.clru_curve.proofs.sized.list.sized_curve.Goals as goal

pub loop-first-init : goal.loop-first-init
loop-first-init g c =
    let eq = g.K.PartialEq.eq in let w = λ (x : g.row.K.Denot). g.W.WeightScale.weight c.args.scale x tt in
    record {
      within = omega arith;
      placed = rw c.new-positions.ensures (placed_none eq);
      size = refl;
      fits = omega arith;
      held = holds_none eq w 0 c.new-pass.result (c.new-pass.ensures w 0);
      taken = λ same. c.new-pass.ensures w 0;
      room = refl;
    }

pub returns-in-Err-clause-too_large : goal.returns-in-Err-clause-too_large
returns-in-Err-clause-too_large g c fits =
    let w = λ (x : g.row.K.Denot). g.W.WeightScale.weight c.args.scale x tt in
    let r = c.in-Err.ensures.refused in let key = key_of c.in-Err.refusal in
    no_memory c.in-Err.refusal (λ too_large. omega (
      arith,
      fits,
      r.too_large.0 too_large,
      ap (size_of_all w) r.first,
      sum_by-append (λ x. 1 + w x) r.taken (key ∷ r.rest),
      sum_by-cons (λ x. 1 + w x) key r.rest,
    ))

pub returns-in-Err-count-clause-given_back : goal.returns-in-Err-count-clause-given_back
returns-in-Err-count-clause-given_back g c =
    let w = λ (x : g.row.K.Denot). g.W.WeightScale.weight c.args.scale x tt in
    let r = c.in-Err-count.ensures.refused in let at = r.0 in let keys = c.args.keys.now in let key = c.in-Err-count.key in
    let more = size_more keys at key r.3 w in
    let within = sum_within (λ x. 1 + w x) keys (at + 1) (c.loop-first.first + c.min.result) (omega (arith, r.2)) in
    refused_here keys at key r.3 w _ refl (omega (arith, more, within, c.in-Ok.ensures.fits))
    (λ no. absurd no, λ large. omega (arith, large, more, within, c.in-Ok.ensures.fits))

pub returns-clause-curve : goal.returns-clause-curve
returns-clause-curve g c same =
    let keys = c.args.keys.now in let past = reverse (take c.loop-first.first keys) in
    let w = λ (x : g.row.K.Denot). g.W.WeightScale.weight c.args.scale x tt in
    let whole = ap (λ l. reverse l) (keys_timeless past) ∙ reverse-reverse (take c.loop-first.first keys)
    ∙ take_all c.loop-first.first keys (omega (arith, c.loop-first-test.false)) in
    subst (λ l. IsSizedCurveOf g.K.PartialEq.eq w l c.into_curve.result) whole
    (c.into_curve.ensures.timeless w 0 (timeless past) same (none_late past) (c.loop-first.invariant.taken same))

pub returns-clause-passes : goal.returns-clause-passes
returns-clause-passes g c far =
    let w = λ (x : g.row.K.Denot). g.W.WeightScale.weight c.args.scale x tt in
    let whole = ap (size_of_all w) (take_all c.loop-first.first c.args.keys.now (omega (arith, c.loop-first-test.false))) in
    let bad : ⊥ = omega (arith, far, whole, c.loop-first.invariant.fits) in elim bad [ ]
