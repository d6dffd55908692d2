use Rattle.std.proofs.Common.{◌≡◌, ◌<◌, ℕ, ◌+◌, ◌-◌, sym, ap, ◌∙◌, subst, arith}
use Rattle.clru_report.specs.Faithful.{off, off_at, point, point_at}
use Rattle.clru_report.specs.Scans.{IsGreatestOf}
use Rattle.clru_report.proofs.OffLines.{off_piece}
use Rattle.clru_report.proofs.sized.faithful.further_on.Goals as goal

pub returns : goal.returns
returns c m f a b left right low high stays own before =
    let first = c.args.first in let next = c.args.next in let last : ℕ = next - 1 in
    let one = c.further-found.result in let two = c.further.result in
    let end : last + 1 ≡ next = omega (arith, c.requires) in
    let at : (x : ℕ) → f x ≡ off_at m a b x → m x ≡ c.args.misses → f x ≡ off c.args.start c.args.end (point x c.args.misses) =
    λ x here is. here ∙ ap (λ n. off (point_at m a) (point_at m b) (point x n)) is
    ∙ ap (λ p. off p (point_at m b) (point x c.args.misses)) (sym left)
    ∙ ap (λ p. off c.args.start p (point x c.args.misses)) (sym right) in
    let at_first = stays first (omega arith) c.requires in let own_first = own first (omega arith) c.requires in
    let at_last = stays last (omega (arith, c.requires)) (omega (arith, c.requires)) in
    let own_last = own last (omega (arith, c.requires)) (omega (arith, c.requires)) in
    let begun : IsGreatestOf f a b (first + 1) one.0 one.1 =
    c.further-found.ensures f a b first (at first own_first at_first) before low (omega (arith, c.requires, high)) (omega arith)
    (λ y from below. absurd (omega (arith, from, below))) in
    subst (λ n. IsGreatestOf f a b n two.0 two.1) end
    (c.further.ensures f a b (first + 1) (at last own_last at_last) begun (omega (arith, c.requires, low)) (omega (arith, c.requires, high))
    (omega (arith, c.requires)) (λ y from below more.
    let middle = stays y (omega (arith, from)) (omega (arith, below)) in let own_middle = own y (omega (arith, from)) (omega (arith, below)) in
    let less = off_piece m a b first y last low (omega (arith, from)) below (omega (arith, c.requires, high)) (at_first ∙ sym at_last) (middle ∙ sym at_last)
    (subst (λ n. n < off_at m a b y) own_first (subst (λ n. f first < n) own_middle (omega (arith, begun.covered first low (omega arith), more)))) in
    subst (λ n. f y < n) (sym own_last) (subst (λ n. n < off_at m a b last) (sym own_middle) less)))
