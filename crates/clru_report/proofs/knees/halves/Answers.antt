use Rattle.std.proofs.Common.{◌≡◌, ℕ, ◌+◌, ◌*◌, ◌/◌, ◌%◌, ap, arith}
use Rattle.std.proofs.lemmas.Nat.{div-add-mod'}
use Rattle.clru_report.proofs.knees.halves.Goals as goal

-- the parts of a product
product_of : (h l d r w x p : ℕ) → h * w + l ≡ x → d * w + r ≡ l * p → (h * p + d) * w + r ≡ x * p
product_of h l d r w x p whole low = omega (arith, ap (λ n. n * p) whole, low)

pub returns-clause-sum : goal.returns-clause-sum
returns-clause-sum c =
    let x = c.args.x in let p = c.args.p in let w : ℕ = 18446744073709551616 in
    product_of (x / w) (x % w) (x % w * p / w) (x % w * p % w) w x p (div-add-mod' x w) (div-add-mod' (x % w * p) w)
