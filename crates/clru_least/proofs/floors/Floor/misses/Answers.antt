use Rattle.std.proofs.Common.{◌*◌, length, nat_le, ap, arith}
use Rattle.std.proofs.lemmas.List.Sums.{prefix_len-le-length}
use Rattle.clru_least.proofs.floors.Floor.misses.Goals as goal

pub overflow_sub-result : goal.overflow_sub-result
overflow_sub-result g c =
    let long = ap (λ l. length l) c.deref.ensures.value in
    omega (arith, c.paid_hits.ensures, prefix_len-le-length (λ v. nat_le v (c.get.result * c.self.inside.requests)) c.deref.result.now, long, c.self.invariant.1)
