use Rattle.std.proofs.Common.{◌≡◌, IfOk, is_some, subst}
use Rattle.clru_curve.proofs.Forms.{form_known}
use Rattle.clru_curve.proofs.sized.pass.SizedPass.request_again_with_hash.Goals as goal

pub returns-clause-known : goal.returns-clause-known
returns-clause-known g c w past before =
    subst (λ b. IfOk c.again.result (λ s. is_some s ≡ b))
    (form_known g.K.PartialEq.eq g.met.K.Eq.laws (g.Q.Equivalent.equivalent c.args.key) (g.met.Q.Equivalent.respects_eq c.args.key)
    c.args.self.now.positions past before.ranked.known)
    c.again.ensures.known
