use Rattle.std.proofs.Common.{◌<◌, sym, subst, arith}
use Rattle.std.proofs.Math.Nat.{mul-pos}
use Rattle.clru_text.proofs.RoundNumbers.{power_positive}
use Rattle.clru_text.proofs.round.round_at.Goals.{in-0, in-1, in_default}
use Rattle.clru_text.proofs.round.round_at.Goals as goal

pub returns-clause-positive : goal.returns-clause-positive
returns-clause-positive c =
    let digit : 0 < c.match-index-rem3.digit = elim c.match-index-rem3.branch [
      | in-0 w ↦ omega (arith, w.digit-is)
      | in-1 w ↦ omega (arith, w.digit-is)
      | in_default w ↦ omega (arith, w.digit-is)
    ] in
    mul-pos digit (subst (λ n. 0 < n) (sym c.pow.ensures) (power_positive _))
