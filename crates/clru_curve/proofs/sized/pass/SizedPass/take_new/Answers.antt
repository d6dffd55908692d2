use Rattle.std.proofs.Common.{◌≡◌, ◌+◌, [], ◌∷◌, ◌++◌, None, refl, sym, ap, ◌∙◌, subst, arith}
use Rattle.std.specs.Map.{lookup}
use Rattle.clru_curve.proofs.LatestSizes.{total_zero, grown_totals, grown_lives, grown_less}
use Rattle.clru_curve.proofs.SizedPassing.{IsSizedPass-new, IsSoundBySize-new, IsSoundBySize-nodes}
use Rattle.clru_curve.specs.LatestSizes.{IsSummed, sizes_from}
use Rattle.clru_curve.specs.Rising.{numbered}
use Rattle.clru_curve.specs.SizedPasses.{IsSizedPass}
use Rattle.clru_curve.proofs.sized.pass.SizedPass.take_new.Goals as goal

pub push-requires-clause-fits : goal.push-requires-clause-fits
push-requires-clause-fits g c =
    let ss = c.self.inside.latest.sizes.items in let inv = c.self.invariant in
    omega (arith, ap (λ l. sizes_from l 0) c.make_ready.ensures.sizes, total_zero ss, inv.held, c.requires.fits, ap (λ v. v.size) c.self.view_is)

pub push-requires-clause-countable : goal.push-requires-clause-countable
push-requires-clause-countable g c =
    omega (arith, c.make_ready.ensures.requests, c.self.invariant.many, c.requires.fits, ap (λ v. v.size) c.self.view_is)

pub invariant_of-self : goal.invariant_of-self
invariant_of-self g c =
    let e = c.make_ready.ensures in let ready = c.make_ready.new.self in
    let summed = subst (λ k. IsSummed c.self.inside.latest.sizes.items ready.nodes.items k) e.requests
    (subst (λ l. IsSummed l ready.nodes.items ready.requests) e.sizes e.kept) in
    rw (e.sizes, e.requests) (IsSoundBySize-nodes g.K.PartialEq.eq summed c.self.invariant)

pub returns-in_default-clause-refused : goal.returns-in_default-clause-refused
returns-in_default-clause-refused g c =
    rw (c.make_ready.ensures.sizes, c.make_ready.ensures.requests) c.self.view_is

pub invariant_of-self-in-Err : goal.invariant_of-self-in-Err
invariant_of-self-in-Err g c =
    let e = c.make_ready.ensures in let ready = c.make_ready.new.self in
    let summed = subst (λ k. IsSummed c.self.inside.latest.sizes.items ready.nodes.items k) e.requests
    (subst (λ l. IsSummed l ready.nodes.items ready.requests) e.sizes e.kept) in
    rw (c.in-Err.ensures.refused, e.sizes, e.requests) (IsSoundBySize-nodes g.K.PartialEq.eq summed c.self.invariant)

pub returns-in-Err-clause-refused : goal.returns-in-Err-clause-refused
returns-in-Err-clause-refused g c =
    rw (c.in-Err.ensures.refused, c.make_ready.ensures.sizes, c.make_ready.ensures.requests) c.self.view_is

pub invariant_of-self-2 : goal.invariant_of-self-2
invariant_of-self-2 g c =
    let eq = g.K.PartialEq.eq in let laws = g.met.K.Eq.laws in let s = c.self.inside in let inv = c.self.invariant in
    let ss = s.latest.sizes.items in let n = s.latest.requests in let e = c.make_ready.ensures in let w = c.args.weight in
    let absent = subst (λ v. lookup (eq c.args.key) v.positions ≡ None) (sym c.self.view_is) c.requires.new in
    let d = c.push.new.self in let ts = d.sizes.items in
    let grown = c.push.ensures.sizes ∙ ap (λ l. l ++ numbered c.make_ready.new.self.requests (w + 1) ∷ []) e.sizes
    ∙ ap (λ k. ss ++ numbered k (w + 1) ∷ []) e.requests in
    let requests : d.requests ≡ n + 1 = omega (arith, c.push.ensures.requests, e.requests) in
    rw (c.in_default-insert.ensures.taken, requests, e.requests)
    (IsSoundBySize-new eq laws s.positions.entries ss n s.hits.items s.size s.greatest c.args.key s.latest.nodes.items inv
    w c.greater-greatest.result (omega (arith, c.requires.fits, ap (λ v. v.size) c.self.view_is)) ts d.nodes.items
    (subst (λ k. IsSummed ts d.nodes.items k) requests c.push.ensures.kept)
    (omega (arith, grown_less ss ts ts n w (λ t. refl) (λ t. refl) grown, inv.held))
    absent
    (grown_lives ss ts ts n w (λ t. refl) (λ t. refl) grown))

pub returns-clause-taken : goal.returns-clause-taken
returns-clause-taken g c weight past same_weights before weighs =
    let eq = g.K.PartialEq.eq in let laws = g.met.K.Eq.laws in let s = c.self.inside in
    let ss = s.latest.sizes.items in let n = s.latest.requests in let e = c.make_ready.ensures in let w = c.args.weight in
    let is = subst (λ v. IsSizedPass eq weight past v) (sym c.self.view_is) before in
    let absent = subst (λ v. lookup (eq c.args.key) v.positions ≡ None) (sym c.self.view_is) c.requires.new in
    let d = c.push.new.self in let ts = d.sizes.items in
    let grown = c.push.ensures.sizes ∙ ap (λ l. l ++ numbered c.make_ready.new.self.requests (w + 1) ∷ []) e.sizes
    ∙ ap (λ k. ss ++ numbered k (w + 1) ∷ []) e.requests in
    let requests : d.requests ≡ n + 1 = omega (arith, c.push.ensures.requests, e.requests) in
    rw (c.in_default-insert.ensures.taken, requests, e.requests)
    (IsSizedPass-new eq laws s.positions.entries ss n s.hits.items s.size s.greatest c.args.key weight past is same_weights w weighs
    c.greater-greatest.result c.greater-greatest.ensures ts absent
    (grown_totals ss ts ts n w (λ t. refl) (λ t. refl) grown))

pub returns-clause-size : goal.returns-clause-size
returns-clause-size g c = omega (arith, ap (λ v. v.size) c.self.view_is)
