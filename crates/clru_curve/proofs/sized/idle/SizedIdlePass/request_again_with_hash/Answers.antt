use Rattle.std.proofs.Common.{◌≡◌, IfOk, is_some, subst}
use Rattle.std.specs.Map.{keys_of}
use Rattle.clru_curve.proofs.Forms.{form_known}
use Rattle.clru_curve.proofs.IdlePassing.{seen_known}
use Rattle.clru_curve.proofs.sized.idle.SizedIdlePass.request_again_with_hash.Goals as goal

pub returns-clause-known : goal.returns-clause-known
returns-clause-known g c w idle past before =
    let eq = g.K.PartialEq.eq in let seen = c.args.self.now.seen in
    subst (λ b. IfOk c.again.result (λ s. is_some s ≡ b))
    (form_known eq g.met.K.Eq.laws (g.Q.Equivalent.equivalent c.args.key) (g.met.Q.Equivalent.respects_eq c.args.key)
    seen (keys_of past) (seen_known eq (keys_of past) seen before.ranked.known))
    c.again.ensures.known
