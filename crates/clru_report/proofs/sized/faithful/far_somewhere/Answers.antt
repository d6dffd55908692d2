use Rattle.std.proofs.Common.{◌≡◌, ◌≤◌, ◌<◌, length, get_or, inl, inr, ap, ◌∙◌, arith}
use Rattle.std.proofs.lemmas.Bool.{cases_lt}
use Rattle.clru_curve.specs.SizedCurves.{missed_size_within, step}
use Rattle.clru_report.specs.Faithful.{off, off_at, point_at}
use Rattle.clru_report.proofs.sized.faithful.far_somewhere.Goals as goal

pub loop-index-preserved : goal.loop-index-preserved
loop-index-preserved g c =
    let a = c.args.a in let b = c.args.b in let m = missed_size_within c.args.curve.now in
    let i = c.loop-index.index in let before = c.loop-index.invariant.0 in let from = c.loop-index.invariant.1 in
    let x = (get_or c.as_slice-steps.result.now i (step 0 0)).capacity in
    let within : i < length c.as_slice-steps.result.now = omega (arith, c.loop-index-test.true, c.steps_up_to-to.ensures.bound) in
    let low = c.steps_up_to-index.ensures.point.1 i (step 0 0) from within in
    let high = c.steps_up_to-to.ensures.point.0 i (step 0 0) (omega arith) c.loop-index-test.true in
    let is : c.off.result ≡ off_at m a b x =
    c.off.ensures ∙ ap (λ p. off p c.point_by_size-end.result c.point_by_size-here.result) c.point_by_size-start.ensures
    ∙ ap (λ p. off (point_at m a) p c.point_by_size-here.result) c.point_by_size-end.ensures
    ∙ ap (λ p. off (point_at m a) (point_at m b) p) c.point_by_size-here.ensures in
    let on : c.steps_up_to-index.result ≤ c.saturating_add-index.result =
    omega (arith, from, c.saturating_add-index.ensures, c.loop-index.auto.index-fits.fits) in
    elim (cases_lt c.loop-index.far c.off.result) [
      | inl more ↦
          let taken : c.max-far.result ≡ c.off.result = omega (arith, c.max-far.ensures, more) in
          ((x, omega (arith, low), omega (arith, high, c.requires), taken ∙ is), on)
      | inr less ↦
          let stays : c.max-far.result ≡ c.loop-index.far = omega (arith, c.max-far.ensures, less) in
          ((before.0, before.1, before.2, stays ∙ before.3), on)
    ]
