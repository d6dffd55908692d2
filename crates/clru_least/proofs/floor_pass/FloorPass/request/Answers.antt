use Rattle.std.proofs.Common.{◌≡◌, ◌+◌, ◌-◌, refl, sym, subst, arith}
use Rattle.clru_model.specs.Floor.{gap}
use Rattle.clru_least.proofs.Reusing.{IsFloorPass-new, IsFloorPass-again, latest_known, latest_none}
use Rattle.clru_least.specs.Reuses.{reuse, reused, IsFloorPass}
use Rattle.clru_least.proofs.floor_pass.FloorPass.request.Goals as goal

pub returns-in-Ok-clause-taken : goal.returns-in-Ok-clause-taken
returns-in-Ok-clause-taken g c w past key is of same =
    let eq = g.K.PartialEq.eq in let s = c.self.inside in
    let was = subst (λ v. IsFloorPass eq w past v) (sym c.self.view_is) is in
    let known = latest_known eq past key c.args.latest c.in-Some.latest of c.in-Some.is in
    let far : s.requests - c.in-Some.latest ≡ gap eq key past = omega (arith, known.1, was.requests) in
    let size : c.args.weight + 1 ≡ 1 + w key = omega (arith, same) in
    let own : reuse (s.requests - c.in-Some.latest) (c.args.weight + 1) ≡ reuse (gap eq key past) (1 + w key) = cc in
    IsFloorPass-again eq w past (reused s.reuses.items s.requests s.size)
    (reused c.push.new.self.items (s.requests + 1) (s.size + (c.args.weight + 1))) key
    (reuse (s.requests - c.in-Some.latest) (c.args.weight + 1)) was known.0 own c.in-Ok.ensures.items refl (omega (arith, same))

pub returns-in-None-clause-taken : goal.returns-in-None-clause-taken
returns-in-None-clause-taken g c w past key is of same =
    let eq = g.K.PartialEq.eq in let s = c.self.inside in
    let was = subst (λ v. IsFloorPass eq w past v) (sym c.self.view_is) is in
    IsFloorPass-new eq w past (reused s.reuses.items s.requests s.size)
    (reused s.reuses.items (s.requests + 1) (s.size + (c.args.weight + 1))) key was
    (latest_none eq past key c.args.latest of c.in-None.is) refl refl (omega (arith, same))
