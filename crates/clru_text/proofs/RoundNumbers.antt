-- Round numbers are no 0.
use Rattle.std.proofs.Common.{ℕ, zero, suc, ◌<◌, ◌^◌, sym, subst, arith}
use Rattle.std.proofs.Math.Nat.{mul-pos, pow-suc}

-- a power of ten is no 0
pub power_positive : (k : ℕ) → 0 < 10 ^ k
power_positive zero = omega arith
power_positive (suc k) = subst (λ n. 0 < n) (sym (pow-suc 10 k)) (mul-pos (power_positive k) (omega arith))
