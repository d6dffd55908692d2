use Rattle.std.proofs.Common.{◌≡◌, ◌+◌, suc, [], ◌∷◌, ◌++◌, Some, None, is_some, refl, sym, ap, ◌∙◌, subst, arith}
use Rattle.std.specs.Map.{set_value}
use Rattle.clru_linked_map.specs.KeyTables.{with_entries}
use Rattle.clru_model.proofs.Forms.{form_is}
use Rattle.clru_curve.proofs.Forms.{key_at, found_as}
use Rattle.clru_curve.proofs.LatestSizes.{total_zero, removed_less, moved_lives, moved_totals, moved_less}
use Rattle.clru_curve.proofs.SizedPassing.{IsSoundBySize-nodes, not_too_large, IsSizedPass-again, IsSoundBySize-again, span_none, span_some, size_there}
use Rattle.clru_curve.specs.LatestSizes.{sizes_from, total_from, live_from, IsRemoved, IsSummed}
use Rattle.clru_curve.specs.Rising.{numbered}
use Rattle.clru_curve.specs.SizedPasses.{IsSizedPass}
use Rattle.clru_curve.proofs.sized.pass.SizedPass.again.Goals as goal

pub returns-in_default-replace-clause-span : goal.returns-in_default-replace-clause-span
returns-in_default-replace-clause-span g c w past x same before weighs passes =
    let eq = g.K.PartialEq.eq in let laws = g.met.K.Eq.laws in let s = c.self.inside in
    let is = subst (λ v. IsSizedPass eq w past v) (sym c.self.view_is) before in
    span_none eq laws s.positions.entries s.latest.sizes.items s.latest.requests s.hits.items s.size s.greatest x w past is
    (found_as eq laws (g.Q.Equivalent.equivalent c.args.key) (g.met.Q.Equivalent.respects_eq c.args.key) s.positions.entries x None passes
    (sym c.in_default-replace.ensures.found))

pub remove-span-requires-clause-live : goal.remove-span-requires-clause-live
remove-span-requires-clause-live g c =
    let p = c.in-Some.position in let e = c.make_ready.ensures in
    let at = key_at g.K.PartialEq.eq g.met.K.Eq.laws (g.Q.Equivalent.equivalent c.args.key) (g.met.Q.Equivalent.respects_eq c.args.key)
    c.self.inside.positions.entries p (sym c.in-Some.ensures.found) in
    omega (arith, c.self.invariant.ranked.latest at.key p at.found, ap (λ l. live_from l p) e.sizes, ap (λ l. live_from l (suc p)) e.sizes)

pub remove-span-requires-clause-fits : goal.remove-span-requires-clause-fits
remove-span-requires-clause-fits g c =
    let ss = c.self.inside.latest.sizes.items in let inv = c.self.invariant in
    omega (arith, ap (λ l. sizes_from l 0) c.make_ready.ensures.sizes, total_zero ss, inv.held, inv.fits)

pub push-requires-clause-fits : goal.push-requires-clause-fits
push-requires-clause-fits g c =
    let ss = c.self.inside.latest.sizes.items in let inv = c.self.invariant in let p = c.in-Some.position in
    let left = c.remove-span.new.self.sizes.items in
    let removed = subst (λ l. IsRemoved l p left) c.make_ready.ensures.sizes c.remove-span.ensures.removed in
    omega (arith, removed_less ss left p removed, total_zero left, inv.held, c.if-weight-self.false)

pub push-requires-clause-countable : goal.push-requires-clause-countable
push-requires-clause-countable g c =
    let inv = c.self.invariant in
    omega (arith, c.remove-span.ensures.requests, c.make_ready.ensures.requests, inv.many, c.if-weight-self.false)

pub drop_empty-requires-clause-fits : goal.drop_empty-requires-clause-fits
drop_empty-requires-clause-fits g c =
    let ss = c.self.inside.latest.sizes.items in let inv = c.self.invariant in let p = c.in-Some.position in
    let left = c.remove-span.new.self.sizes.items in let pushed = c.push.new.self.sizes.items in
    let removed = subst (λ l. IsRemoved l p left) c.make_ready.ensures.sizes c.remove-span.ensures.removed in
    let less = moved_less ss left pushed pushed p c.remove-span.new.self.requests c.args.weight (λ t. refl) (λ t. refl) removed c.push.ensures.sizes in
    omega (arith, less, total_zero pushed, inv.held, c.if-weight-self.false)

pub returns-then-weight-self-clause-too_large : goal.returns-then-weight-self-clause-too_large
returns-then-weight-self-clause-too_large g c =
    (λ _. omega (arith, c.if-weight-self.true, ap (λ v. v.size) c.self.view_is), λ _. tt)

pub invariant_of-self : goal.invariant_of-self
invariant_of-self g c =
    let e = c.make_ready.ensures in let ready = c.make_ready.new.self in
    let summed = subst (λ k. IsSummed c.self.inside.latest.sizes.items ready.nodes.items k) e.requests
    (subst (λ l. IsSummed l ready.nodes.items ready.requests) e.sizes e.kept) in
    rw (e.sizes, e.requests) (IsSoundBySize-nodes g.K.PartialEq.eq summed c.self.invariant)

pub returns-in_default-clause-refused : goal.returns-in_default-clause-refused
returns-in_default-clause-refused g c =
    rw (c.make_ready.ensures.sizes, c.make_ready.ensures.requests) c.self.view_is

pub returns-in_default-clause-too_large : goal.returns-in_default-clause-too_large
returns-in_default-clause-too_large g c = not_too_large (ap (λ v. v.size) c.self.view_is) c.if-weight-self.false

pub invariant_of-self-in_default-reserve : goal.invariant_of-self-in_default-reserve
invariant_of-self-in_default-reserve g c =
    let e = c.make_ready.ensures in let ready = c.make_ready.new.self in
    let summed = subst (λ k. IsSummed c.self.inside.latest.sizes.items ready.nodes.items k) e.requests
    (subst (λ l. IsSummed l ready.nodes.items ready.requests) e.sizes e.kept) in
    rw (e.sizes, e.requests, c.reserve.ensures.items) (IsSoundBySize-nodes g.K.PartialEq.eq summed c.self.invariant)

pub returns-in_default-reserve-clause-refused : goal.returns-in_default-reserve-clause-refused
returns-in_default-reserve-clause-refused g c =
    rw (c.make_ready.ensures.sizes, c.make_ready.ensures.requests, c.reserve.ensures.items) c.self.view_is

pub returns-in_default-reserve-clause-too_large : goal.returns-in_default-reserve-clause-too_large
returns-in_default-reserve-clause-too_large g c =
    not_too_large (ap (λ v. v.size) c.self.view_is) c.if-weight-self.false

pub invariant_of-self-in_default-replace : goal.invariant_of-self-in_default-replace
invariant_of-self-in_default-replace g c =
    let e = c.make_ready.ensures in let ready = c.make_ready.new.self in
    let summed = subst (λ k. IsSummed c.self.inside.latest.sizes.items ready.nodes.items k) e.requests
    (subst (λ l. IsSummed l ready.nodes.items ready.requests) e.sizes e.kept) in
    rw (c.in_default-replace.ensures.same refl, e.sizes, e.requests, c.reserve.ensures.items) (IsSoundBySize-nodes g.K.PartialEq.eq summed c.self.invariant)

pub returns-in_default-replace-clause-known : goal.returns-in_default-replace-clause-known
returns-in_default-replace-clause-known g c = rw (← c.self.view_is) (ap is_some c.in_default-replace.ensures.found)

pub returns-in_default-replace-clause-not_taken : goal.returns-in_default-replace-clause-not_taken
returns-in_default-replace-clause-not_taken g c none =
    rw (c.in_default-replace.ensures.same refl, c.make_ready.ensures.sizes, c.make_ready.ensures.requests, c.reserve.ensures.items) c.self.view_is

pub returns-in_default-replace-clause-too_large : goal.returns-in_default-replace-clause-too_large
returns-in_default-replace-clause-too_large g c =
    not_too_large (ap (λ v. v.size) c.self.view_is) c.if-weight-self.false

pub invariant_of-self-2 : goal.invariant_of-self-2
invariant_of-self-2 g c =
    let eq = g.K.PartialEq.eq in let laws = g.met.K.Eq.laws in let s = c.self.inside in let inv = c.self.invariant in
    let ss = s.latest.sizes.items in let n = s.latest.requests in let p = c.in-Some.position in let e = c.make_ready.ensures in let w = c.args.weight in
    let at = key_at eq laws (g.Q.Equivalent.equivalent c.args.key) (g.met.Q.Equivalent.respects_eq c.args.key)
    s.positions.entries p (sym c.in-Some.ensures.found) in
    let moved = c.in-Some.ensures.replaced refl
    ∙ ap (λ t. with_entries s.positions (set_value t s.positions.entries c.make_ready.new.self.requests)) at.same in
    let left = c.remove-span.new.self.sizes.items in let pushed = c.push.new.self.sizes.items in
    let d = c.drop_empty.new.self in let ts = d.sizes.items in
    let removed = subst (λ l. IsRemoved l p left) e.sizes c.remove-span.ensures.removed in
    let number = c.remove-span.ensures.requests ∙ e.requests in
    let grown = c.push.ensures.sizes ∙ ap (λ k. left ++ numbered k (w + 1) ∷ []) number in
    let requests : d.requests ≡ n + 1 = omega (arith, c.drop_empty.ensures.requests, c.push.ensures.requests, number) in
    let totals = c.drop_empty.ensures.totals in let lives = c.drop_empty.ensures.live in
    rw (moved, requests, c.push_reserved.ensures.items, c.reserve.ensures.items, e.requests)
    (IsSoundBySize-again eq laws s.positions.entries ss n s.hits.items s.size s.greatest at.key s.latest.nodes.items inv
    w c.greater-greatest.result (omega (arith, c.if-weight-self.false, inv.fits)) ts d.nodes.items
    (subst (λ k. IsSummed ts d.nodes.items k) requests c.drop_empty.ensures.kept)
    (omega (arith, moved_less ss left ts pushed p n w totals lives removed grown, inv.held))
    p c.remove-span.result at.found (moved_lives ss left ts pushed p n w totals lives removed grown))

pub returns-clause-span : goal.returns-clause-span
returns-clause-span g c w past x same before weighs passes =
    let eq = g.K.PartialEq.eq in let laws = g.met.K.Eq.laws in let s = c.self.inside in let p = c.in-Some.position in
    let is = subst (λ v. IsSizedPass eq w past v) (sym c.self.view_is) before in
    let found = found_as eq laws (g.Q.Equivalent.equivalent c.args.key) (g.met.Q.Equivalent.respects_eq c.args.key) s.positions.entries x (Some p) passes
    (sym c.in-Some.ensures.found) in
    ap (λ t. Some t) (c.remove-span.ensures.total ∙ ap (λ l. total_from l p) c.make_ready.ensures.sizes)
    ∙ span_some eq laws s.positions.entries s.latest.sizes.items s.latest.requests s.hits.items s.size s.greatest x w past is same c.args.weight weighs
    c.greater-greatest.result c.greater-greatest.ensures c.drop_empty.new.self.sizes.items p found

pub returns-clause-taken : goal.returns-clause-taken
returns-clause-taken g c w past x same before weighs passes some =
    let eq = g.K.PartialEq.eq in let laws = g.met.K.Eq.laws in let s = c.self.inside in let inv = c.self.invariant in
    let test = g.Q.Equivalent.equivalent c.args.key in let form = g.met.Q.Equivalent.respects_eq c.args.key in
    let ss = s.latest.sizes.items in let n = s.latest.requests in let p = c.in-Some.position in let e = c.make_ready.ensures in let v = c.args.weight in
    let is = subst (λ v. IsSizedPass eq w past v) (sym c.self.view_is) before in
    let found = found_as eq laws test form s.positions.entries x (Some p) passes (sym c.in-Some.ensures.found) in
    let moved = c.in-Some.ensures.replaced refl
    ∙ ap (λ t. with_entries s.positions (set_value t s.positions.entries c.make_ready.new.self.requests)) (form_is eq test form x passes) in
    let left = c.remove-span.new.self.sizes.items in let pushed = c.push.new.self.sizes.items in
    let d = c.drop_empty.new.self in let ts = d.sizes.items in
    let removed = subst (λ l. IsRemoved l p left) e.sizes c.remove-span.ensures.removed in
    let number = c.remove-span.ensures.requests ∙ e.requests in
    let grown = c.push.ensures.sizes ∙ ap (λ k. left ++ numbered k (v + 1) ∷ []) number in
    let requests : d.requests ≡ n + 1 = omega (arith, c.drop_empty.ensures.requests, c.push.ensures.requests, number) in
    let span = c.remove-span.ensures.total ∙ ap (λ l. total_from l p) e.sizes in
    let there = size_there eq laws s.positions.entries ss n s.hits.items s.size s.greatest x w past is same v weighs
    c.greater-greatest.result c.greater-greatest.ensures ts p found in
    rw (moved, requests, c.push_reserved.ensures.items, c.reserve.ensures.items, e.requests, span)
    (IsSizedPass-again eq laws s.positions.entries ss n s.hits.items s.size s.greatest x w past is same v weighs
    c.greater-greatest.result c.greater-greatest.ensures ts p found
    (moved_totals ss left ts pushed p n v c.drop_empty.ensures.totals c.drop_empty.ensures.live removed grown n inv.summed.rising there))

pub returns-clause-known : goal.returns-clause-known
returns-clause-known g c = rw (← c.self.view_is) (ap is_some c.in-Some.ensures.found)

pub returns-clause-size : goal.returns-clause-size
returns-clause-size g c taken = omega (arith, ap (λ v. v.size) c.self.view_is)

pub returns-clause-too_large : goal.returns-clause-too_large
returns-clause-too_large g c = not_too_large (ap (λ v. v.size) c.self.view_is) c.if-weight-self.false
