use Rattle.std.proofs.Common.{◌+◌, sym, ap, ◌∙◌, subst, arith}
use Rattle.clru_curve.specs.Curves.{misses_at}
use Rattle.clru_report.specs.Faithful.{off, off_at, point_at}
use Rattle.clru_report.specs.Scans.{IsGreatestOf}
use Rattle.clru_report.proofs.faithful.furthest_by_keys.Goals as goal

pub loop-capacity-preserved : goal.loop-capacity-preserved
loop-capacity-preserved c =
    let m = misses_at c.args.curve.now in let a = c.args.a in let b = c.args.b in let x = c.loop-capacity.capacity in
    let here = c.point_by_keys-here.result in let found = c.further-found.result in
    let at = ap (λ p. p.capacity) c.point_by_keys-here.ensures in
    let same = ap (λ p. off p c.point_by_keys-end.result here) c.point_by_keys-start.ensures
    ∙ ap (λ p. off (point_at m a) p here) c.point_by_keys-end.ensures
    ∙ ap (off (point_at m a) (point_at m b)) c.point_by_keys-here.ensures in
    subst (λ n. IsGreatestOf (off_at m a b) a b (n + 1) found.0 found.1) at
    (c.further-found.ensures (off_at m a b) a b x (ap (off_at m a b) at ∙ sym same) c.loop-capacity.invariant
    (omega (arith, at, c.loop-capacity.auto.capacity)) (omega (arith, at, c.loop-capacity-test.true)) (omega (arith, at))
    (λ y from below. absurd (omega (arith, at, from, below))))
