-- The number that is some amount up to a bound and 0 above it.
use Rattle.std.proofs.Common.{◌≡◌, ℕ, zero, suc, ◌<◌, ◌≤◌, refl, arith}
use Rattle.clru_curve.specs.Tree.{up_by, up_to}

pub up_by-le : (a x i : ℕ) → x ≤ i → up_by a x i ≡ a
up_by-le a zero i le = refl
up_by-le a (suc x) zero le = omega arith
up_by-le a (suc x) (suc i) le = up_by-le a x i (omega arith)

pub up_by-gt : (a x i : ℕ) → i < x → up_by a x i ≡ 0
up_by-gt a zero i gt = omega arith
up_by-gt a (suc x) zero gt = refl
up_by-gt a (suc x) (suc i) gt = up_by-gt a x i (omega arith)

pub up_to-le : (x i : ℕ) → x ≤ i → up_to x i ≡ 1
up_to-le x i le = up_by-le 1 x i le

pub up_to-gt : (x i : ℕ) → i < x → up_to x i ≡ 0
up_to-gt x i gt = up_by-gt 1 x i gt
