use Rattle.std.proofs.Common.{◌∷◌, sym, ap, subst, arith}
use Rattle.clru_curve.specs.Tree.{up_to}
use Rattle.clru_curve.specs.IdlePasses.{IsIdlePass}
use Rattle.clru_curve.proofs.IdlePassing.{IsIdlePass-same, IsIdlePass-new, absent_key}
use Rattle.clru_curve.proofs.idle.IdlePass.request_new_with_hash.Goals as goal

pub invariant_of-self : goal.invariant_of-self
invariant_of-self g c =
    let eq = g.K.PartialEq.eq in let s = c.self.inside in let inv = c.self.invariant in let e = c.make_ready.ensures in
    record {
      latest = e.kept;
      past = inv.past;
      taken = rw e.requests (IsIdlePass-same eq s.limit inv.past s.seen.entries s.latest.blocks.items c.make_ready.new.self.blocks.items s.latest.requests
          s.histogram.items s.limit e.ones inv.taken);
    }

pub returns-in_default-clause-refused : goal.returns-in_default-clause-refused
returns-in_default-clause-refused g c idle past before =
    let eq = g.K.PartialEq.eq in let s = c.self.inside in let e = c.make_ready.ensures in
    rw e.requests (IsIdlePass-same eq idle past s.seen.entries s.latest.blocks.items c.make_ready.new.self.blocks.items s.latest.requests
    s.histogram.items s.limit e.ones (subst (λ v. IsIdlePass eq idle past v) (sym c.self.view_is) before))

pub invariant_of-self-in_default-reserve : goal.invariant_of-self-in_default-reserve
invariant_of-self-in_default-reserve g c =
    let eq = g.K.PartialEq.eq in let s = c.self.inside in let inv = c.self.invariant in let e = c.make_ready.ensures in
    record {
      latest = e.kept;
      past = inv.past;
      taken = rw (e.requests, c.reserve.ensures.items)
          (IsIdlePass-same eq s.limit inv.past s.seen.entries s.latest.blocks.items c.make_ready.new.self.blocks.items s.latest.requests
          s.histogram.items s.limit e.ones inv.taken);
    }

pub returns-in_default-reserve-clause-refused : goal.returns-in_default-reserve-clause-refused
returns-in_default-reserve-clause-refused g c idle past before =
    let eq = g.K.PartialEq.eq in let s = c.self.inside in let e = c.make_ready.ensures in
    rw (e.requests, c.reserve.ensures.items)
    (IsIdlePass-same eq idle past s.seen.entries s.latest.blocks.items c.make_ready.new.self.blocks.items s.latest.requests s.histogram.items s.limit
    e.ones (subst (λ v. IsIdlePass eq idle past v) (sym c.self.view_is) before))

pub invariant_of-self-in-Err : goal.invariant_of-self-in-Err
invariant_of-self-in-Err g c =
    let eq = g.K.PartialEq.eq in let s = c.self.inside in let inv = c.self.invariant in let e = c.make_ready.ensures in
    record {
      latest = e.kept;
      past = inv.past;
      taken = rw (c.in-Err.ensures.refused, e.requests, c.reserve.ensures.items)
          (IsIdlePass-same eq s.limit inv.past s.seen.entries s.latest.blocks.items c.make_ready.new.self.blocks.items s.latest.requests
          s.histogram.items s.limit e.ones inv.taken);
    }

pub returns-in-Err-clause-refused : goal.returns-in-Err-clause-refused
returns-in-Err-clause-refused g c idle past before =
    let eq = g.K.PartialEq.eq in let s = c.self.inside in let e = c.make_ready.ensures in
    rw (c.in-Err.ensures.refused, e.requests, c.reserve.ensures.items)
    (IsIdlePass-same eq idle past s.seen.entries s.latest.blocks.items c.make_ready.new.self.blocks.items s.latest.requests s.histogram.items s.limit
    e.ones (subst (λ v. IsIdlePass eq idle past v) (sym c.self.view_is) before))

pub insert-requires-clause-new : goal.insert-requires-clause-new
insert-requires-clause-new g c =
    let s = c.self.inside in let new = c.requires.new in
    absent_key g.K.PartialEq.eq g.met.K.Eq.laws new.0 new.1 s.seen.entries s.latest.blocks.items s.latest.requests s.histogram.items s.limit c.args.key c.args.time
    (subst (λ v. IsIdlePass g.K.PartialEq.eq new.0 new.1 v) (sym c.self.view_is) new.2) new.3

pub invariant_of-self-2 : goal.invariant_of-self-2
invariant_of-self-2 g c =
    let eq = g.K.PartialEq.eq in let laws = g.met.K.Eq.laws in let s = c.self.inside in let inv = c.self.invariant in let e = c.make_ready.ensures in
    let n = s.latest.requests in let new = c.requires.new in let t = c.args.time in
    let absent = absent_key eq laws new.0 new.1 s.seen.entries s.latest.blocks.items n s.histogram.items s.limit c.args.key t
    (subst (λ v. IsIdlePass eq new.0 new.1 v) (sym c.self.view_is) new.2) new.3 in
    record {
      latest = c.push.ensures.kept;
      past = (c.args.key, t) ∷ inv.past;
      taken = rw (
        c.in_default-insert.ensures.taken,
        c.push.ensures.requests,
        e.requests,
        c.push_reserved.ensures.items,
        c.reserve.ensures.items,
      )
          (IsIdlePass-new eq laws s.limit inv.past s.seen.entries s.latest.blocks.items n s.histogram.items s.limit c.args.key t inv.taken
          c.push.new.self.blocks.items absent
          (λ q. omega (arith, c.push.ensures.ones q, e.ones q, ap (λ r. up_to q r) e.requests)));
    }

pub returns-clause-taken : goal.returns-clause-taken
returns-clause-taken g c idle past before =
    let eq = g.K.PartialEq.eq in let laws = g.met.K.Eq.laws in let s = c.self.inside in let e = c.make_ready.ensures in
    let is = subst (λ v. IsIdlePass eq idle past v) (sym c.self.view_is) before in
    let n = s.latest.requests in let new = c.requires.new in let t = c.args.time in
    let absent = absent_key eq laws new.0 new.1 s.seen.entries s.latest.blocks.items n s.histogram.items s.limit c.args.key t
    (subst (λ v. IsIdlePass eq new.0 new.1 v) (sym c.self.view_is) new.2) new.3 in
    rw (c.in_default-insert.ensures.taken, c.push.ensures.requests, e.requests, c.push_reserved.ensures.items, c.reserve.ensures.items)
    (IsIdlePass-new eq laws idle past s.seen.entries s.latest.blocks.items n s.histogram.items s.limit c.args.key t is
    c.push.new.self.blocks.items absent
    (λ q. omega (arith, c.push.ensures.ones q, e.ones q, ap (λ r. up_to q r) e.requests)))
