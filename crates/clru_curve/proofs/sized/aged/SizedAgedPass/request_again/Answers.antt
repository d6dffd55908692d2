use Rattle.std.proofs.Common.{◌≡◌, IfOk, subst}
use Rattle.std.specs.Map.{keys_of}
use Rattle.clru_curve.proofs.Forms.{form_known}
use Rattle.clru_curve.proofs.SizedAgedPassing.{fetched_known}
use Rattle.clru_curve.proofs.sized.aged.SizedAgedPass.request_again.Goals as goal

pub returns-clause-known : goal.returns-clause-known
returns-clause-known g c w cs idle age past before =
    let eq = g.K.PartialEq.eq in let seen = c.args.self.now.seen in
    subst (λ b. IfOk c.again.result (λ taken. taken ≡ b))
    (form_known eq g.met.K.Eq.laws (g.Q.Equivalent.equivalent c.args.key) (g.met.Q.Equivalent.respects_eq c.args.key)
    seen (keys_of past) (fetched_known eq (keys_of past) seen before.ranked.known))
    c.again.ensures.known
