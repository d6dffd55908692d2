use Rattle.std.proofs.Common.{rules}
use Rattle.clru_curve.proofs.aged.AgedPass.with_hasher.Goals as goal

pub returns-in-Ok : goal.returns-in-Ok
returns-in-Ok g c = search (rules, c.in-Ok.ensures (λ _. 0))
