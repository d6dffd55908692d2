use Rattle.std.proofs.Common.{◌≡◌, true, false, ◌<◌, length, refl, sym, ap, ◌∙◌, arith}
use Rattle.std.specs.Map.{lookup_entry}
use Rattle.clru_model.proofs.Finding.{held, missed, touch-held, touch-missed, plain_put-held}
use Rattle.clru_linked_map.specs.LinkedMap.{with_entries}
use Rattle.clru.proofs.LentPuts.{called_at, front_of, front_value, lent_held, lent_new, ready_new}
use Rattle.clru.proofs.cache.modify.CLruCache+K+V+S+ZeroWeightScale+A.try_put_or_modify.Goals as goal

no : false ≡ true → ⊥
no h = cc

pub modify_op-requires : goal.modify_op-requires
modify_op-requires g c =
    let eq = g.K.PartialEq.eq in let key = c.args.key in let h = held (eq key) c.if-touch.ensures.found in
    let same = front_of eq key h c.touch.ensures.entries c.front_mut-value.ensures.entry in
    c.requires.modify h.entry.0 h.entry.1 (ap (λ o. lookup_entry (eq key) o.entries) (sym c.self.view_is) ∙ h.looked_up) _ _
    (ap (λ d. d.0) same) (ap (λ d. d.1) same)

pub invariant_of-self : goal.invariant_of-self
invariant_of-self g c =
    let eq = g.K.PartialEq.eq in let key = c.args.key in let e = c.touch.ensures in
    let h = held (eq key) c.if-touch.ensures.found in
    (lent_held key c.self.inside.scale c.self.invariant g.met.K.Eq.laws h e.entries e.held _).keeps

pub returns-in-Err : goal.returns-in-Err
returns-in-Err g c =
    let eq = g.K.PartialEq.eq in let key = c.args.key in let e = c.touch.ensures in
    let h = held (eq key) c.if-touch.ensures.found in
    let same = front_of eq key h e.entries c.front_mut-value.ensures.entry in
    let lent = lent_held key c.self.inside.scale c.self.invariant g.met.K.Eq.laws h e.entries e.held c.modify_op.new.arg3 in
    rw (← c.self.view_is) (
      (
        refl,
        λ w no_value. absurd (no no_value),
        (
          rw h.looked_up (
            c.modify_op.new.arg3,
            c.modify_op.new.self,
            called_at g.M.FnMut c.args.modify_op same c.in-Err.ensures,
            lent.entries ∙ plain_put-held eq key h _ _,
          ),
          lent.grows,
        ),
      ),
      record { lends = tt; called = tt; refused = tt; memory = tt },
    )

pub invariant_of-self-lent : goal.invariant_of-self-lent
invariant_of-self-lent g c =
    λ w. let eq = g.K.PartialEq.eq in let key = c.args.key in let e = c.touch.ensures in
    let h = held (eq key) c.if-touch.ensures.found in
    (lent_held key c.self.inside.scale c.self.invariant g.met.K.Eq.laws h e.entries e.held w).keeps

pub returns-then-touch : goal.returns-then-touch
returns-then-touch g c =
    let eq = g.K.PartialEq.eq in let key = c.args.key in let e = c.touch.ensures in
    let h = held (eq key) c.if-touch.ensures.found in
    let same = front_of eq key h e.entries c.front_mut-value.ensures.entry in
    let lent = lent_held key c.self.inside.scale c.self.invariant g.met.K.Eq.laws h e.entries e.held in
    rw (← c.self.view_is) (
      (refl, λ w _. ((lent w).entries, (lent w).grows), tt),
      record {
        lends = tt;
        called = rw h.looked_up (c.modify_op.new.self, called_at g.M.FnMut c.args.modify_op same c.in_default.ensures);
        refused = tt;
        memory = tt;
      },
    )

pub invariant_of-self-in_default-make_ready : goal.invariant_of-self-in_default-make_ready
invariant_of-self-in_default-make_ready g c =
    let eq = g.K.PartialEq.eq in let key = c.args.key in let e = c.touch.ensures in let o = c.in_default-make_ready.ensures in
    let m = missed (eq key) c.if-touch.ensures.found in
    let ready = ready_new key c.self.inside.scale c.self.invariant m e.entries e.held o.grows o.same in
    ready.keeps

pub returns-in_default-make_ready : goal.returns-in_default-make_ready
returns-in_default-make_ready g c =
    let eq = g.K.PartialEq.eq in let key = c.args.key in let e = c.touch.ensures in let o = c.in_default-make_ready.ensures in
    let m = missed (eq key) c.if-touch.ensures.found in let before = e.entries ∙ ap (λ l. with_entries c.self.inside.map l) (touch-missed eq key m) in
    let ready = ready_new key c.self.inside.scale c.self.invariant m e.entries e.held o.grows o.same in
    let lasts = ready.grows c.make_ready.new.self (ap (λ r. r.capacity) ready.same) refl o.held in
    let wanted : length c.self.inside.map.entries < c.self.inside.map.capacity =
    omega (arith, ap (λ r. length r.entries) before, o.refused.asked, ap (λ r. r.capacity) before) in
    rw (← c.self.view_is) (
      (refl, λ w no_value. absurd (no no_value), (ap (λ r. r.entries) ready.same, lasts)),
      record {
        lends = tt;
        called = tt;
        refused = refl;
        memory = record {
          absent = m.value;
          room = wanted;
          taken = omega (arith, o.refused.taken, ap (λ r. r.places) before, ap (λ r. length r.entries) before);
        };
      },
    )

pub put_op-requires : goal.put_op-requires
put_op-requires g c =
    let eq = g.K.PartialEq.eq in let key = c.args.key in let m = missed (eq key) c.if-touch.ensures.found in
    c.requires.put (ap (λ o. lookup_entry (eq key) o.entries) (sym c.self.view_is) ∙ m.looked_up) _ refl

pub invariant_of-self-in-Err-put_op : goal.invariant_of-self-in-Err-put_op
invariant_of-self-in-Err-put_op g c =
    let eq = g.K.PartialEq.eq in let key = c.args.key in let e = c.touch.ensures in let o = c.in-Ok.ensures in
    let m = missed (eq key) c.if-touch.ensures.found in
    let ready = ready_new key c.self.inside.scale c.self.invariant m e.entries e.held o.grows o.same in
    ready.keeps

pub returns-in-Err-put_op : goal.returns-in-Err-put_op
returns-in-Err-put_op g c =
    let eq = g.K.PartialEq.eq in let key = c.args.key in let e = c.touch.ensures in let o = c.in-Ok.ensures in
    let m = missed (eq key) c.if-touch.ensures.found in
    let ready = ready_new key c.self.inside.scale c.self.invariant m e.entries e.held o.grows o.same in
    let lasts = ready.grows c.make_ready.new.self (ap (λ r. r.capacity) ready.same) refl o.held in
    rw (← c.self.view_is) (
      (
        refl,
        λ w no_value. absurd (no no_value),
        (
          rw m.looked_up ((c.put_op.new.self, record { shown = _; shows = refl; called = c.in-Err-put_op.ensures }), ap (λ r. r.entries) ready.same),
          lasts,
        ),
      ),
      record { lends = tt; called = tt; refused = tt; memory = tt },
    )

pub invariant_of-self-lent-2 : goal.invariant_of-self-lent-2
invariant_of-self-lent-2 g c =
    λ w. let eq = g.K.PartialEq.eq in let key = c.args.key in let e = c.touch.ensures in let o = c.in-Ok.ensures in
    let m = missed (eq key) c.if-touch.ensures.found in
    let ready = ready_new key c.self.inside.scale c.self.invariant m e.entries e.held o.grows o.same in
    let p = c.put_front.ensures in
    (lent_new key c.self.inside.scale c.self.invariant g.met.K.Eq.laws m ready
    p.entries p.held w).keeps

pub returns : goal.returns
returns g c =
    let eq = g.K.PartialEq.eq in let key = c.args.key in let e = c.touch.ensures in let o = c.in-Ok.ensures in
    let m = missed (eq key) c.if-touch.ensures.found in
    let ready = ready_new key c.self.inside.scale c.self.invariant m e.entries e.held o.grows o.same in
    let p = c.put_front.ensures in
    let lent = lent_new key c.self.inside.scale c.self.invariant g.met.K.Eq.laws m ready p.entries p.held in
    let value = ap (λ d. d.1) (front_value p.entries c.front_mut.ensures.entry) in
    rw (← c.self.view_is) (
      (refl, λ w _. ((lent w).entries, (lent w).grows), tt),
      record {
        lends = tt;
        called = rw (m.looked_up, value) (c.put_op.new.self, record { shown = _; shows = refl; called = c.in-Ok-put_op.ensures });
        refused = tt;
        memory = tt;
      },
    )

pub front_mut-value-requires : goal.front_mut-value-requires
front_mut-value-requires g c =
    let eq = g.K.PartialEq.eq in let key = c.args.key in let h = held (eq key) c.if-touch.ensures.found in
    omega (arith, ap (λ m. length m.entries) (c.touch.ensures.entries ∙ ap (λ l. with_entries c.self.inside.map l) (touch-held eq key h)))

pub put_front-requires-clause-hash : goal.put_front-requires-clause-hash
put_front-requires-clause-hash g c =
    let eq = g.K.PartialEq.eq in let key = c.args.key in let e = c.touch.ensures in let o = c.in-Ok.ensures in
    let m = missed (eq key) c.if-touch.ensures.found in
    let ready = ready_new key c.self.inside.scale c.self.invariant m e.entries e.held o.grows o.same in
    rw (ap (λ r. r.builder) ready.same) c.hash-hash.ensures

pub put_front-requires-clause-ready : goal.put_front-requires-clause-ready
put_front-requires-clause-ready g c = c.in-Ok.ensures.ready

pub put_front-requires-clause-some : goal.put_front-requires-clause-some
put_front-requires-clause-some g c =
    let eq = g.K.PartialEq.eq in let key = c.args.key in let e = c.touch.ensures in let o = c.in-Ok.ensures in
    let m = missed (eq key) c.if-touch.ensures.found in
    let ready = ready_new key c.self.inside.scale c.self.invariant m e.entries e.held o.grows o.same in
    omega (arith, ap (λ r. r.capacity) ready.same, c.self.invariant.some)

pub front_mut-requires : goal.front_mut-requires
front_mut-requires g c = omega (arith, ap (λ r. length r.entries) c.put_front.ensures.entries)
