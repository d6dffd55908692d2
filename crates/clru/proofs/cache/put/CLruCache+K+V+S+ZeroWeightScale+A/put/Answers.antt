use Rattle.std.proofs.Common.{◌-◌, ◌∷◌, length, take, slice_get, refl, sym, ap, ◌∙◌, arith}
use Rattle.clru_model.specs.Entries.{with_front}
use Rattle.clru_model.proofs.Finding.{held, missed, touch-missed, with_front-touch, plain_put-held, plain_put-missed, first_touched}
use Rattle.clru_linked_map.specs.LinkedMap.{with_entries}
use Rattle.clru.proofs.Keeping.{IsKept-front, IsKept-new, IsCache-plain}
use Rattle.clru.proofs.LentPuts.{ready_new}
use Rattle.clru.proofs.cache.put.CLruCache+K+V+S+ZeroWeightScale+A.put.Goals as goal

pub invariant_of-self : goal.invariant_of-self
invariant_of-self g c =
    let eq = g.K.PartialEq.eq in let key = c.args.key in let v = c.args.value in let h = held (eq key) c.if-touch.ensures.found in
    IsCache-plain c.self.invariant (c.set_front.ensures.entries ∙ ap (λ m. with_entries m (with_front v m.entries)) c.touch.ensures.entries
    ∙ ap (λ l. with_entries c.self.inside.map l) (with_front-touch eq key h v))
    (IsKept-front (λ k v. 0) key v g.met.K.Eq.laws c.self.invariant.kept h refl)

pub returns-then-touch-clause-replaced : goal.returns-then-touch-clause-replaced
returns-then-touch-clause-replaced g c =
    let eq = g.K.PartialEq.eq in let key = c.args.key in
    rw (← c.self.view_is) (c.set_front.ensures.value ∙ first_touched eq key (held (eq key) c.if-touch.ensures.found) (ap (λ m. m.entries) c.touch.ensures.entries) refl)

pub returns-then-touch-clause-entries : goal.returns-then-touch-clause-entries
returns-then-touch-clause-entries g c =
    let eq = g.K.PartialEq.eq in let key = c.args.key in let v = c.args.value in let h = held (eq key) c.if-touch.ensures.found in
    rw (← c.self.view_is) (ap (λ m. m.entries) c.set_front.ensures.entries ∙ ap (λ m. with_front v m.entries) c.touch.ensures.entries
    ∙ with_front-touch eq key h v ∙ sym (plain_put-held eq key h _ v))

pub invariant_of-self-in_default : goal.invariant_of-self-in_default
invariant_of-self-in_default g c =
    let e = c.touch.ensures in let o = c.in_default.ensures in
    (ready_new c.args.key c.self.inside.scale c.self.invariant (missed (g.K.PartialEq.eq c.args.key) c.if-touch.ensures.found) e.entries e.held o.grows o.same).keeps

pub returns-in_default-clause-entries : goal.returns-in_default-clause-entries
returns-in_default-clause-entries g c =
    let e = c.touch.ensures in let o = c.in_default.ensures in
    let ready = ready_new c.args.key c.self.inside.scale c.self.invariant (missed (g.K.PartialEq.eq c.args.key) c.if-touch.ensures.found) e.entries e.held o.grows o.same in
    rw (← c.self.view_is) (ap (λ m. m.entries) ready.same)

pub returns-in_default-clause-memory : goal.returns-in_default-clause-memory
returns-in_default-clause-memory g c =
    let eq = g.K.PartialEq.eq in let key = c.args.key in let o = c.in_default.ensures in
    let m = missed (eq key) c.if-touch.ensures.found in let same = c.touch.ensures.entries ∙ ap (λ l. with_entries c.self.inside.map l) (touch-missed eq key m) in
    rw (← c.self.view_is) (λ _. record {
      absent = m.value;
      room = omega (arith, ap (λ r. length r.entries) same, o.refused.asked, ap (λ r. r.capacity) same);
      taken = omega (arith, o.refused.taken, ap (λ r. r.places) same, ap (λ r. length r.entries) same);
    })

pub invariant_of-self-2 : goal.invariant_of-self-2
invariant_of-self-2 g c =
    let key = c.args.key in let v = c.args.value in let e = c.touch.ensures in let o = c.in-Ok.ensures in let old = c.self.invariant in
    let m = missed (g.K.PartialEq.eq key) c.if-touch.ensures.found in let ready = ready_new key c.self.inside.scale old m e.entries e.held o.grows o.same in
    IsCache-plain old (c.put_front-dropped.ensures.entries ∙ ap (λ r. with_entries r ((key, v) ∷ take (r.capacity - 1) r.entries)) ready.same)
    (IsKept-new key v g.met.K.Eq.laws old.kept m.value old.some)

pub returns-clause-entries : goal.returns-clause-entries
returns-clause-entries g c =
    let eq = g.K.PartialEq.eq in let key = c.args.key in let v = c.args.value in let e = c.touch.ensures in let o = c.in-Ok.ensures in
    let m = missed (eq key) c.if-touch.ensures.found in let ready = ready_new key c.self.inside.scale c.self.invariant m e.entries e.held o.grows o.same in
    rw (← c.self.view_is) (ap (λ r. r.entries) c.put_front-dropped.ensures.entries
    ∙ ap (λ r. (key, v) ∷ take (r.capacity - 1) r.entries) ready.same ∙ sym (plain_put-missed eq key m c.self.inside.map.capacity v))

pub returns-clause-dropped : goal.returns-clause-dropped
returns-clause-dropped g c =
    let eq = g.K.PartialEq.eq in let key = c.args.key in let e = c.touch.ensures in let o = c.in-Ok.ensures in
    let m = missed (eq key) c.if-touch.ensures.found in let ready = ready_new key c.self.inside.scale c.self.invariant m e.entries e.held o.grows o.same in
    rw (← c.self.view_is, m.value) (c.put_front-dropped.ensures.pair ∙ ap (λ r. slice_get r.entries (r.capacity - 1)) ready.same)

pub returns-clause-places : goal.returns-clause-places
returns-clause-places g c =
    let e = c.touch.ensures in let o = c.in-Ok.ensures in let p = c.put_front-dropped.ensures in
    let ready = ready_new c.args.key c.self.inside.scale c.self.invariant (missed (g.K.PartialEq.eq c.args.key) c.if-touch.ensures.found) e.entries e.held o.grows o.same in
    rw (← c.self.view_is) (ready.grows c.put_front-dropped.new.self (ap (λ r. r.capacity) p.entries ∙ ap (λ r. r.capacity) ready.same)
    (ap (λ r. r.places) p.entries) p.held)

pub put_front-dropped-requires-clause-hash : goal.put_front-dropped-requires-clause-hash
put_front-dropped-requires-clause-hash g c =
    let e = c.touch.ensures in let o = c.in-Ok.ensures in
    let m = missed (g.K.PartialEq.eq c.args.key) c.if-touch.ensures.found in
    let ready = ready_new c.args.key c.self.inside.scale c.self.invariant m e.entries e.held o.grows o.same in
    rw (ap (λ r. r.builder) ready.same) c.hash-hash.ensures

pub put_front-dropped-requires-clause-ready : goal.put_front-dropped-requires-clause-ready
put_front-dropped-requires-clause-ready g c = c.in-Ok.ensures.ready

pub put_front-dropped-requires-clause-some : goal.put_front-dropped-requires-clause-some
put_front-dropped-requires-clause-some g c =
    let e = c.touch.ensures in let o = c.in-Ok.ensures in
    let m = missed (g.K.PartialEq.eq c.args.key) c.if-touch.ensures.found in
    let ready = ready_new c.args.key c.self.inside.scale c.self.invariant m e.entries e.held o.grows o.same in
    omega (arith, ap (λ r. r.capacity) ready.same, c.self.invariant.some)
