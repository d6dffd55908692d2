use Rattle.std.proofs.Common.{◌≡◌, ◌+◌, suc, [], ◌∷◌, ◌++◌, IfSome, refl, sym, ap, ◌∙◌, subst, arith}
use Rattle.std.specs.Map.{keys_of}
use Rattle.clru_model.specs.Requests.{IsLatestOf}
use Rattle.clru_curve.specs.LatestSizes.{IsLiveAt, IsRemoved, IsSummed, live_from, sizes_from, total_from}
use Rattle.clru_curve.specs.Rising.{numbered}
use Rattle.clru_curve.specs.SizedPositionPasses.{IsSizedPositionPass}
use Rattle.clru_curve.proofs.LatestSizes.{grown_less, grown_lives, grown_totals, moved_less, moved_lives, moved_totals, removed_less, total_zero}
use Rattle.clru_curve.proofs.SizedPassing.{not_too_large}
use Rattle.clru_curve.proofs.SizedPositionPassing.{none_reuse, size_at, some_reuse, sound_again, sound_new, sound_nodes, taken_again, taken_new}
use Rattle.clru_curve.proofs.sized.position.SizedPositionPass.count.Goals as goal

pub returns-then-weight-self-clause-too_large : goal.returns-then-weight-self-clause-too_large
returns-then-weight-self-clause-too_large g c =
    (λ _. omega (arith, c.if-weight-self.true, ap (λ v. v.size) c.self.view_is), λ _. tt)

pub invariant_of-self : goal.invariant_of-self
invariant_of-self g c =
    let e = c.make_ready.ensures in let ready = c.make_ready.new.self in
    let summed = subst (λ k. IsSummed c.self.inside.latest.sizes.items ready.nodes.items k) e.requests
    (subst (λ l. IsSummed l ready.nodes.items ready.requests) e.sizes e.kept) in
    rw (e.sizes, e.requests) (sound_nodes _ _ c.self.invariant ready.nodes.items summed)

pub returns-in_default-clause-refused : goal.returns-in_default-clause-refused
returns-in_default-clause-refused g c = rw (c.make_ready.ensures.sizes, c.make_ready.ensures.requests) c.self.view_is

pub returns-in_default-clause-too_large : goal.returns-in_default-clause-too_large
returns-in_default-clause-too_large g c = not_too_large (ap (λ v. v.size) c.self.view_is) c.if-weight-self.false

pub invariant_of-self-in_default-reserve : goal.invariant_of-self-in_default-reserve
invariant_of-self-in_default-reserve g c =
    let e = c.make_ready.ensures in let ready = c.make_ready.new.self in
    let summed = subst (λ k. IsSummed c.self.inside.latest.sizes.items ready.nodes.items k) e.requests
    (subst (λ l. IsSummed l ready.nodes.items ready.requests) e.sizes e.kept) in
    rw (e.sizes, e.requests, c.reserve.ensures.items) (sound_nodes _ _ c.self.invariant ready.nodes.items summed)

pub returns-in_default-reserve-clause-refused : goal.returns-in_default-reserve-clause-refused
returns-in_default-reserve-clause-refused g c =
    rw (c.make_ready.ensures.sizes, c.make_ready.ensures.requests, c.reserve.ensures.items) c.self.view_is

pub returns-in_default-reserve-clause-too_large : goal.returns-in_default-reserve-clause-too_large
returns-in_default-reserve-clause-too_large g c = not_too_large (ap (λ v. v.size) c.self.view_is) c.if-weight-self.false

pub remove-span-requires-clause-live : goal.remove-span-requires-clause-live
remove-span-requires-clause-live g c =
    let p = c.in-Some.position in let e = c.make_ready.ensures in
    let live : IsLiveAt c.self.inside.latest.sizes.items p = subst (λ o. IfSome o (λ q. IsLiveAt c.self.inside.latest.sizes.items q)) c.in-Some.is
    (subst (λ v. IfSome c.args.latest (λ q. IsLiveAt v.sizes q)) (sym c.self.view_is) c.requires.live) in
    omega (arith, live, ap (λ l. live_from l p) e.sizes, ap (λ l. live_from l (suc p)) e.sizes)

pub remove-span-requires-clause-fits : goal.remove-span-requires-clause-fits
remove-span-requires-clause-fits g c =
    let ss = c.self.inside.latest.sizes.items in let inv = c.self.invariant in
    omega (arith, ap (λ l. sizes_from l 0) c.make_ready.ensures.sizes, total_zero ss, inv.held, inv.fits)

pub push-requires-clause-fits : goal.push-requires-clause-fits
push-requires-clause-fits g c =
    let ss = c.self.inside.latest.sizes.items in let inv = c.self.invariant in let p = c.in-Some.position in
    let left = c.remove-span.new.self.sizes.items in
    let removed = subst (λ l. IsRemoved l p left) c.make_ready.ensures.sizes c.remove-span.ensures.removed in
    omega (arith, removed_less ss left p removed, total_zero left, inv.held, c.if-weight-self.false)

pub push-requires-clause-countable : goal.push-requires-clause-countable
push-requires-clause-countable g c =
    let inv = c.self.invariant in
    omega (arith, c.remove-span.ensures.requests, c.make_ready.ensures.requests, inv.many, c.if-weight-self.false)

pub drop_empty-requires-clause-fits : goal.drop_empty-requires-clause-fits
drop_empty-requires-clause-fits g c =
    let ss = c.self.inside.latest.sizes.items in let inv = c.self.invariant in let p = c.in-Some.position in
    let left = c.remove-span.new.self.sizes.items in let pushed = c.push.new.self.sizes.items in
    let removed = subst (λ l. IsRemoved l p left) c.make_ready.ensures.sizes c.remove-span.ensures.removed in
    let less = moved_less ss left pushed pushed p c.remove-span.new.self.requests c.args.weight (λ t. refl) (λ t. refl) removed c.push.ensures.sizes in
    omega (arith, less, total_zero pushed, inv.held, c.if-weight-self.false)

pub invariant_of-self-in-Some : goal.invariant_of-self-in-Some
invariant_of-self-in-Some g c =
    let s = c.self.inside in let inv = c.self.invariant in
    let ss = s.latest.sizes.items in let n = s.latest.requests in let p = c.in-Some.position in
    let e = c.make_ready.ensures in let w = c.args.weight in
    let left = c.remove-span.new.self.sizes.items in let pushed = c.push.new.self.sizes.items in
    let d = c.drop_empty.new.self in let ts = d.sizes.items in
    let removed = subst (λ l. IsRemoved l p left) e.sizes c.remove-span.ensures.removed in
    let number = c.remove-span.ensures.requests ∙ e.requests in
    let grown = c.push.ensures.sizes ∙ ap (λ k. left ++ numbered k (w + 1) ∷ []) number in
    let requests : d.requests ≡ n + 1 = omega (arith, c.drop_empty.ensures.requests, c.push.ensures.requests, number) in
    rw (requests, c.hit_if.ensures.hits, c.reserve.ensures.items)
    (sound_again _ _ inv d.nodes.items w c.greater-greatest.result (omega (arith, c.if-weight-self.false, inv.fits)) ts
    (subst (λ k. IsSummed ts d.nodes.items k) requests c.drop_empty.ensures.kept)
    (omega (arith, moved_less ss left ts pushed p n w c.drop_empty.ensures.totals c.drop_empty.ensures.live removed grown, inv.held))
    c.args.soon c.remove-span.result)

pub returns-in-Ok-reserve-clause-span : goal.returns-in-Ok-reserve-clause-span
returns-in-Ok-reserve-clause-span g c w idle past key time same before weighs latest soon =
    let eq = g.K.PartialEq.eq in let p = c.in-Some.position in
    c.hit_if.ensures.span
    ∙ some_reuse eq g.met.K.Eq.laws w idle past _ key time (subst (IsSizedPositionPass eq w idle past) (sym c.self.view_is) before)
    p (subst (IsLatestOf eq (keys_of past) key) c.in-Some.is latest) c.args.weight weighs same c.args.soon soon c.remove-span.result
    (c.remove-span.ensures.total ∙ ap (λ l. total_from l p) c.make_ready.ensures.sizes)

pub returns-in-Ok-reserve-clause-taken : goal.returns-in-Ok-reserve-clause-taken
returns-in-Ok-reserve-clause-taken g c w idle past key time same before weighs latest soon =
    let eq = g.K.PartialEq.eq in let laws = g.met.K.Eq.laws in let s = c.self.inside in
    let ss = s.latest.sizes.items in let n = s.latest.requests in let p = c.in-Some.position in
    let e = c.make_ready.ensures in let v = c.args.weight in
    let is = subst (IsSizedPositionPass eq w idle past) (sym c.self.view_is) before in
    let at = subst (IsLatestOf eq (keys_of past) key) c.in-Some.is latest in
    let left = c.remove-span.new.self.sizes.items in let pushed = c.push.new.self.sizes.items in
    let d = c.drop_empty.new.self in let ts = d.sizes.items in
    let removed = subst (λ l. IsRemoved l p left) e.sizes c.remove-span.ensures.removed in
    let number = c.remove-span.ensures.requests ∙ e.requests in
    let grown = c.push.ensures.sizes ∙ ap (λ k. left ++ numbered k (v + 1) ∷ []) number in
    let requests : d.requests ≡ n + 1 = omega (arith, c.drop_empty.ensures.requests, c.push.ensures.requests, number) in
    rw (requests, c.hit_if.ensures.hits, c.reserve.ensures.items)
    (taken_again eq laws w idle past _ key time is p at v weighs same c.args.soon soon c.remove-span.result
    (c.remove-span.ensures.total ∙ ap (λ l. total_from l p) e.sizes) c.greater-greatest.result c.greater-greatest.ensures ts
    (moved_totals ss left ts pushed p n v c.drop_empty.ensures.totals c.drop_empty.ensures.live removed grown n c.self.invariant.summed.rising
    (size_at eq laws w idle past _ key time is p at v weighs)))

pub returns-in-Ok-reserve-clause-moved : goal.returns-in-Ok-reserve-clause-moved
returns-in-Ok-reserve-clause-moved g c =
    let s = c.self.inside in let ss = s.latest.sizes.items in let n = s.latest.requests in let p = c.in-Some.position in
    let e = c.make_ready.ensures in let v = c.args.weight in
    let left = c.remove-span.new.self.sizes.items in let pushed = c.push.new.self.sizes.items in
    let d = c.drop_empty.new.self in let ts = d.sizes.items in
    let removed = subst (λ l. IsRemoved l p left) e.sizes c.remove-span.ensures.removed in
    let number = c.remove-span.ensures.requests ∙ e.requests in
    let grown = c.push.ensures.sizes ∙ ap (λ k. left ++ numbered k (v + 1) ∷ []) number in
    rw (← c.self.view_is, c.in-Some.is) (record {
      sizes = moved_lives ss left ts pushed p n v c.drop_empty.ensures.totals c.drop_empty.ensures.live removed grown;
      requests = omega (arith, c.drop_empty.ensures.requests, c.push.ensures.requests, number);
    })

pub returns-in-Ok-reserve-clause-size : goal.returns-in-Ok-reserve-clause-size
returns-in-Ok-reserve-clause-size g c = omega (arith, ap (λ v. v.size) c.self.view_is)

pub returns-in-Ok-reserve-clause-too_large : goal.returns-in-Ok-reserve-clause-too_large
returns-in-Ok-reserve-clause-too_large g c = not_too_large (ap (λ v. v.size) c.self.view_is) c.if-weight-self.false

pub push-requires-in-None-clause-fits : goal.push-requires-in-None-clause-fits
push-requires-in-None-clause-fits g c =
    let ss = c.self.inside.latest.sizes.items in let inv = c.self.invariant in
    omega (arith, ap (λ l. sizes_from l 0) c.make_ready.ensures.sizes, total_zero ss, inv.held, c.if-weight-self.false)

pub push-requires-in-None-clause-countable : goal.push-requires-in-None-clause-countable
push-requires-in-None-clause-countable g c = omega (arith, c.make_ready.ensures.requests, c.self.invariant.many, c.if-weight-self.false)

pub invariant_of-self-in-None : goal.invariant_of-self-in-None
invariant_of-self-in-None g c =
    let s = c.self.inside in let inv = c.self.invariant in
    let ss = s.latest.sizes.items in let n = s.latest.requests in let e = c.make_ready.ensures in let w = c.args.weight in
    let d = c.push-in-None.new.self in let ts = d.sizes.items in
    let grown = c.push-in-None.ensures.sizes ∙ ap (λ l. l ++ numbered c.make_ready.new.self.requests (w + 1) ∷ []) e.sizes
    ∙ ap (λ k. ss ++ numbered k (w + 1) ∷ []) e.requests in
    let requests : d.requests ≡ n + 1 = omega (arith, c.push-in-None.ensures.requests, e.requests) in
    rw requests
    (sound_new _ _ inv d.nodes.items w c.greater-greatest.result (omega (arith, c.if-weight-self.false, inv.fits)) ts
    (subst (λ k. IsSummed ts d.nodes.items k) requests c.push-in-None.ensures.kept)
    (omega (arith, grown_less ss ts ts n w (λ t. refl) (λ t. refl) grown, inv.held)))

pub returns-in-None-clause-span : goal.returns-in-None-clause-span
returns-in-None-clause-span g c w idle past key time same before weighs latest soon =
    let eq = g.K.PartialEq.eq in
    none_reuse eq g.met.K.Eq.laws w idle past _ key time (subst (IsSizedPositionPass eq w idle past) (sym c.self.view_is) before)
    (subst (IsLatestOf eq (keys_of past) key) c.in-None.is latest)

pub returns-in-None-clause-taken : goal.returns-in-None-clause-taken
returns-in-None-clause-taken g c w idle past key time same before weighs latest soon =
    let eq = g.K.PartialEq.eq in let s = c.self.inside in
    let ss = s.latest.sizes.items in let n = s.latest.requests in let e = c.make_ready.ensures in let v = c.args.weight in
    let d = c.push-in-None.new.self in let ts = d.sizes.items in
    let grown = c.push-in-None.ensures.sizes ∙ ap (λ l. l ++ numbered c.make_ready.new.self.requests (v + 1) ∷ []) e.sizes
    ∙ ap (λ k. ss ++ numbered k (v + 1) ∷ []) e.requests in
    let requests : d.requests ≡ n + 1 = omega (arith, c.push-in-None.ensures.requests, e.requests) in
    rw requests
    (taken_new eq g.met.K.Eq.laws w idle past _ key time (subst (IsSizedPositionPass eq w idle past) (sym c.self.view_is) before)
    (subst (IsLatestOf eq (keys_of past) key) c.in-None.is latest) same v weighs c.greater-greatest.result c.greater-greatest.ensures ts
    (grown_totals ss ts ts n v (λ t. refl) (λ t. refl) grown))

pub returns-in-None-clause-moved : goal.returns-in-None-clause-moved
returns-in-None-clause-moved g c =
    let s = c.self.inside in let ss = s.latest.sizes.items in let n = s.latest.requests in let e = c.make_ready.ensures in let v = c.args.weight in
    let ts = c.push-in-None.new.self.sizes.items in
    let grown = c.push-in-None.ensures.sizes ∙ ap (λ l. l ++ numbered c.make_ready.new.self.requests (v + 1) ∷ []) e.sizes
    ∙ ap (λ k. ss ++ numbered k (v + 1) ∷ []) e.requests in
    rw (← c.self.view_is, c.in-None.is) (record {
      sizes = λ t. omega (arith, grown_lives ss ts ts n v (λ t. refl) (λ t. refl) grown t);
      requests = omega (arith, c.push-in-None.ensures.requests, e.requests);
    })

pub returns-in-None-clause-size : goal.returns-in-None-clause-size
returns-in-None-clause-size g c = omega (arith, ap (λ v. v.size) c.self.view_is)

pub returns-in-None-clause-too_large : goal.returns-in-None-clause-too_large
returns-in-None-clause-too_large g c = not_too_large (ap (λ v. v.size) c.self.view_is) c.if-weight-self.false
