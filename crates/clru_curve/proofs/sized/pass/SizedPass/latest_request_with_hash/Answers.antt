use Rattle.std.proofs.Common.{Some, sym, ◌∙◌, subst}
use Rattle.clru_curve.specs.SizedPasses.{IsSizedPass}
use Rattle.clru_curve.proofs.Forms.{found_as, form_known, some_by}
use Rattle.clru_curve.proofs.sized.pass.SizedPass.latest_request_with_hash.Goals as goal

pub returns-clause-known : goal.returns-clause-known
returns-clause-known g c w past before =
    let eq = g.K.PartialEq.eq in let s = c.self.inside in
    let is = subst (λ v. IsSizedPass eq w past v) (sym c.self.view_is) before in
    cc (
      c.get.ensures,
      form_known eq g.met.K.Eq.laws (g.Q.Equivalent.equivalent c.args.key) (g.met.Q.Equivalent.respects_eq c.args.key) s.positions.entries past is.ranked.known,
    )

pub returns-clause-position : goal.returns-clause-position
returns-clause-position g c w past x before passes =
    let eq = g.K.PartialEq.eq in let s = c.self.inside in
    let is = subst (λ v. IsSizedPass eq w past v) (sym c.self.view_is) before in
    some_by c.get.result (λ p at. is.latest x p
    (found_as eq g.met.K.Eq.laws (g.Q.Equivalent.equivalent c.args.key) (g.met.Q.Equivalent.respects_eq c.args.key) s.positions.entries x (Some p) passes
    (sym c.get.ensures ∙ at)))
