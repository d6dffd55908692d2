use Rattle.std.proofs.Common.{nat_eq, take, reverse}
use Rattle.clru_curve.specs.IdlePasses.{IsIdlePass}
use Rattle.clru_uses.proofs.idle.misses_within.Given as goal

abbrev pub invariant-loop-request : goal.invariant-loop-request
invariant-loop-request l = record { taken : IsIdlePass nat_eq l.limit (reverse (take l.request-index l.requests)) l.pass }
