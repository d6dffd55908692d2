use Rattle.std.proofs.Common.{◌≡◌, ◌≤◌, ℕ, ap, ◌∙◌, arith}
use Rattle.clru_report.specs.declared.faithful.Point.{Point}
use Rattle.clru_report.specs.Faithful.{off, point_at}
use Rattle.clru_report.proofs.OffLines.{off_within}
use Rattle.clru_report.proofs.sized.faithful.most_between.Goals as goal

pub returns : goal.returns
returns c m a b start end low high y from below down up =
    let left = c.args.left in let right = c.args.right in let most = c.max-2.result in
    let is : (p : Point) (n : ℕ) → n ≡ off c.args.start c.args.end p → n ≤ most → off (point_at m a) (point_at m b) p ≤ most =
    λ p n at within. omega (arith, within, at, ap (λ q. off q c.args.end p) start ∙ ap (λ q. off (point_at m a) q p) end) in
    let first : c.max-at_ends.result ≤ most = omega (arith, c.max.ensures, c.max-2.ensures) in
    off_within m a b left.capacity right.capacity left.misses right.misses y most low high from below down up
    (is left c.off.result c.off.ensures (omega (arith, c.max-at_ends.ensures, first)))
    (is _ c.off-3.result c.off-3.ensures (omega (arith, c.max.ensures, c.max-2.ensures)))
    (is _ c.off-4.result c.off-4.ensures (omega (arith, c.max-2.ensures)))
    (is right c.off-2.result c.off-2.ensures (omega (arith, c.max-at_ends.ensures, first)))
