use Rattle.std.proofs.Common.{suc, ◌∷◌, get_or, sym, ap, ◌∙◌, subst, arith}
use Rattle.std.specs.Map.{keys_of}
use Rattle.clru_model.specs.Requests.{IsLatestOf}
use Rattle.clru_curve.specs.PositionPasses.{IsPositionPass}
use Rattle.clru_curve.specs.Tree.{up_to}
use Rattle.clru_curve.proofs.PositionPassing.{below, few, none_reuse, some_reuse, taken_again, taken_new, taken_same, was_latest}
use Rattle.clru_curve.proofs.position.PositionPass.request.Goals as goal

pub invariant_of-self : goal.invariant_of-self
invariant_of-self g c =
    let s = c.self.inside in let inv = c.self.invariant in let e = c.make_ready.ensures in
    record {
      latest = e.kept;
      idle = inv.idle;
      past = inv.past;
      taken = rw e.requests (taken_same g.K.PartialEq.eq inv.idle inv.past s.latest.blocks.items c.make_ready.new.self.blocks.items s.latest.requests
          s.histogram.items e.ones inv.taken);
    }

pub returns-in_default-clause-refused : goal.returns-in_default-clause-refused
returns-in_default-clause-refused g c idle past before =
    let eq = g.K.PartialEq.eq in let s = c.self.inside in let e = c.make_ready.ensures in
    rw e.requests (taken_same eq idle past s.latest.blocks.items c.make_ready.new.self.blocks.items s.latest.requests s.histogram.items e.ones
    (subst (IsPositionPass eq idle past) (sym c.self.view_is) before))

pub remove-distance-requires-clause-latest : goal.remove-distance-requires-clause-latest
remove-distance-requires-clause-latest g c =
    let eq = g.K.PartialEq.eq in let s = c.self.inside in let p = c.in-Some.position in let r = c.requires in
    let was = was_latest eq g.met.K.Eq.laws r.0 r.1 s.latest.blocks.items s.latest.requests s.histogram.items r.2 r.3
    (subst (IsPositionPass eq r.0 r.1) (sym c.self.view_is) r.4) p (subst (IsLatestOf eq (keys_of r.1) r.2) c.in-Some.is r.5) in
    omega (arith, was, c.make_ready.ensures.ones p, c.make_ready.ensures.ones (suc p))

pub count_if-requires-clause-inside : goal.count_if-requires-clause-inside
count_if-requires-clause-inside g c =
    let eq = g.K.PartialEq.eq in let s = c.self.inside in let p = c.in-Some.position in let r = c.requires in
    let inside = below eq g.met.K.Eq.laws r.0 r.1 s.latest.blocks.items s.latest.requests s.histogram.items r.2 r.3
    (subst (IsPositionPass eq r.0 r.1) (sym c.self.view_is) r.4) p (subst (IsLatestOf eq (keys_of r.1) r.2) c.in-Some.is r.5) in
    omega (arith, inside, c.remove-distance.ensures.count, c.make_ready.ensures.ones (suc p))

pub count_if-requires-clause-fits : goal.count_if-requires-clause-fits
count_if-requires-clause-fits g c =
    let eq = g.K.PartialEq.eq in let s = c.self.inside in let p = c.in-Some.position in let r = c.requires in let h = s.histogram.items in
    let distance = c.remove-distance.ensures.count ∙ c.make_ready.ensures.ones (suc p) in
    let small = few eq g.met.K.Eq.laws r.0 r.1 s.latest.blocks.items s.latest.requests h r.2 r.3
    (subst (IsPositionPass eq r.0 r.1) (sym c.self.view_is) r.4) p (subst (IsLatestOf eq (keys_of r.1) r.2) c.in-Some.is r.5) in
    omega (arith, ap (λ i. get_or h i 0) distance, small, c.in-Ok.ensures.countable, c.make_ready.ensures.requests)

pub invariant_of-self-in-Some : goal.invariant_of-self-in-Some
invariant_of-self-in-Some g c =
    let eq = g.K.PartialEq.eq in let s = c.self.inside in let p = c.in-Some.position in let r = c.requires in
    let distance = c.remove-distance.ensures.count ∙ c.make_ready.ensures.ones (suc p) in
    record {
      latest = c.push.ensures.kept;
      idle = r.0;
      past = (r.2, r.3) ∷ r.1;
      taken = rw (c.push.ensures.requests, c.remove-distance.ensures.requests, c.make_ready.ensures.requests, c.count_if.ensures.counted)
          (taken_again eq g.met.K.Eq.laws r.0 r.1 s.latest.blocks.items s.latest.requests s.histogram.items r.2 r.3
          (subst (IsPositionPass eq r.0 r.1) (sym c.self.view_is) r.4) p (subst (IsLatestOf eq (keys_of r.1) r.2) c.in-Some.is r.5)
          c.args.soon r.6 c.remove-distance.result distance c.push.new.self.blocks.items
          (λ q. omega (arith, c.remove-distance.ensures.ones q, c.push.ensures.ones q, c.make_ready.ensures.ones q, ap (λ r. up_to q r) (c.remove-distance.ensures.requests ∙ c.make_ready.ensures.requests))));
    }

pub returns-in-Some-clause-distance : goal.returns-in-Some-clause-distance
returns-in-Some-clause-distance g c idle past key time before latest soon =
    let eq = g.K.PartialEq.eq in let s = c.self.inside in let p = c.in-Some.position in
    c.count_if.ensures.distance
    ∙ some_reuse eq g.met.K.Eq.laws idle past s.latest.blocks.items s.latest.requests s.histogram.items key time
    (subst (IsPositionPass eq idle past) (sym c.self.view_is) before) p (subst (IsLatestOf eq (keys_of past) key) c.in-Some.is latest)
    c.args.soon soon c.remove-distance.result (c.remove-distance.ensures.count ∙ c.make_ready.ensures.ones (suc p))

pub returns-in-Some-clause-taken : goal.returns-in-Some-clause-taken
returns-in-Some-clause-taken g c idle past key time before latest soon =
    let eq = g.K.PartialEq.eq in let s = c.self.inside in let p = c.in-Some.position in
    let distance = c.remove-distance.ensures.count ∙ c.make_ready.ensures.ones (suc p) in
    rw (c.push.ensures.requests, c.remove-distance.ensures.requests, c.make_ready.ensures.requests, c.count_if.ensures.counted)
    (taken_again eq g.met.K.Eq.laws idle past s.latest.blocks.items s.latest.requests s.histogram.items key time
    (subst (IsPositionPass eq idle past) (sym c.self.view_is) before) p (subst (IsLatestOf eq (keys_of past) key) c.in-Some.is latest)
    c.args.soon soon c.remove-distance.result distance c.push.new.self.blocks.items
    (λ q. omega (arith, c.remove-distance.ensures.ones q, c.push.ensures.ones q, c.make_ready.ensures.ones q, ap (λ r. up_to q r) (c.remove-distance.ensures.requests ∙ c.make_ready.ensures.requests))))

pub invariant_of-self-in_default-reserve : goal.invariant_of-self-in_default-reserve
invariant_of-self-in_default-reserve g c =
    let s = c.self.inside in let inv = c.self.invariant in let e = c.make_ready.ensures in
    record {
      latest = e.kept;
      idle = inv.idle;
      past = inv.past;
      taken = rw (e.requests, c.reserve.ensures.items) (taken_same g.K.PartialEq.eq inv.idle inv.past s.latest.blocks.items c.make_ready.new.self.blocks.items
          s.latest.requests s.histogram.items e.ones inv.taken);
    }

pub returns-in_default-reserve-clause-refused : goal.returns-in_default-reserve-clause-refused
returns-in_default-reserve-clause-refused g c idle past before =
    let eq = g.K.PartialEq.eq in let s = c.self.inside in let e = c.make_ready.ensures in
    rw (e.requests, c.reserve.ensures.items) (taken_same eq idle past s.latest.blocks.items c.make_ready.new.self.blocks.items s.latest.requests
    s.histogram.items e.ones (subst (IsPositionPass eq idle past) (sym c.self.view_is) before))

pub invariant_of-self-in-None : goal.invariant_of-self-in-None
invariant_of-self-in-None g c =
    let eq = g.K.PartialEq.eq in let s = c.self.inside in let e = c.make_ready.ensures in let r = c.requires in
    record {
      latest = c.push-in-None.ensures.kept;
      idle = r.0;
      past = (r.2, r.3) ∷ r.1;
      taken = rw (c.push-in-None.ensures.requests, e.requests, c.push_reserved.ensures.items, c.reserve.ensures.items)
          (taken_new eq g.met.K.Eq.laws r.0 r.1 s.latest.blocks.items s.latest.requests s.histogram.items r.2 r.3
          (subst (IsPositionPass eq r.0 r.1) (sym c.self.view_is) r.4) (subst (IsLatestOf eq (keys_of r.1) r.2) c.in-None.is r.5)
          c.push-in-None.new.self.blocks.items
          (λ q. omega (arith, c.push-in-None.ensures.ones q, e.ones q, ap (λ r. up_to q r) e.requests)));
    }

pub returns-in-Ok-reserve-clause-distance : goal.returns-in-Ok-reserve-clause-distance
returns-in-Ok-reserve-clause-distance g c idle past key time before latest soon =
    let eq = g.K.PartialEq.eq in let s = c.self.inside in
    none_reuse eq g.met.K.Eq.laws idle past s.latest.blocks.items s.latest.requests s.histogram.items key time
    (subst (IsPositionPass eq idle past) (sym c.self.view_is) before) (subst (IsLatestOf eq (keys_of past) key) c.in-None.is latest)

pub returns-in-Ok-reserve-clause-taken : goal.returns-in-Ok-reserve-clause-taken
returns-in-Ok-reserve-clause-taken g c idle past key time before latest soon =
    let eq = g.K.PartialEq.eq in let s = c.self.inside in let e = c.make_ready.ensures in
    rw (c.push-in-None.ensures.requests, e.requests, c.push_reserved.ensures.items, c.reserve.ensures.items)
    (taken_new eq g.met.K.Eq.laws idle past s.latest.blocks.items s.latest.requests s.histogram.items key time
    (subst (IsPositionPass eq idle past) (sym c.self.view_is) before) (subst (IsLatestOf eq (keys_of past) key) c.in-None.is latest)
    c.push-in-None.new.self.blocks.items
    (λ q. omega (arith, c.push-in-None.ensures.ones q, e.ones q, ap (λ r. up_to q r) e.requests)))
