use Rattle.std.proofs.Common.{suc, ◌∷◌, cond, Some, None, is_some, get_or, refl, sym, ap, ◌∙◌, subst, arith}
use Rattle.std.specs.Map.{keys_of, set_value}
use Rattle.clru_linked_map.specs.KeyTables.{with_entries}
use Rattle.clru_model.proofs.Forms.{form_is}
use Rattle.clru_curve.specs.IdlePasses.{IsIdlePass}
use Rattle.clru_curve.specs.Seen.{seen_at}
use Rattle.clru_curve.specs.Tree.{up_to}
use Rattle.clru_curve.proofs.Forms.{key_at, found_as, form_known}
use Rattle.clru_curve.proofs.IdlePassing.{seen_known, IsIdlePass-same, IsIdlePass-again, bit_there, distance_some, distance_below, number_few}
use Rattle.clru_curve.proofs.idle.IdlePass.request_again_with_hash.Goals as goal

pub invariant_of-self : goal.invariant_of-self
invariant_of-self g c =
    let eq = g.K.PartialEq.eq in let s = c.self.inside in let inv = c.self.invariant in let e = c.make_ready.ensures in
    record {
      latest = e.kept;
      past = inv.past;
      taken = rw e.requests (IsIdlePass-same eq s.limit inv.past s.seen.entries s.latest.blocks.items c.make_ready.new.self.blocks.items s.latest.requests
          s.histogram.items s.limit e.ones inv.taken);
    }

pub returns-in_default-clause-refused : goal.returns-in_default-clause-refused
returns-in_default-clause-refused g c idle past before =
    let eq = g.K.PartialEq.eq in let s = c.self.inside in let e = c.make_ready.ensures in
    rw e.requests (IsIdlePass-same eq idle past s.seen.entries s.latest.blocks.items c.make_ready.new.self.blocks.items s.latest.requests
    s.histogram.items s.limit e.ones (subst (λ v. IsIdlePass eq idle past v) (sym c.self.view_is) before))

pub invariant_of-self-in_default-replace : goal.invariant_of-self-in_default-replace
invariant_of-self-in_default-replace g c =
    let eq = g.K.PartialEq.eq in let s = c.self.inside in let inv = c.self.invariant in let e = c.make_ready.ensures in
    let same = c.in_default-replace.ensures.same refl in
    record {
      latest = e.kept;
      past = inv.past;
      taken = rw (same, e.requests)
          (IsIdlePass-same eq s.limit inv.past s.seen.entries s.latest.blocks.items c.make_ready.new.self.blocks.items s.latest.requests
          s.histogram.items s.limit e.ones inv.taken);
    }

pub returns-in_default-replace-clause-not_taken : goal.returns-in_default-replace-clause-not_taken
returns-in_default-replace-clause-not_taken g c idle past before none =
    let eq = g.K.PartialEq.eq in let s = c.self.inside in let e = c.make_ready.ensures in
    let same = c.in_default-replace.ensures.same refl in
    rw (same, e.requests)
    (IsIdlePass-same eq idle past s.seen.entries s.latest.blocks.items c.make_ready.new.self.blocks.items s.latest.requests s.histogram.items s.limit
    e.ones (subst (λ v. IsIdlePass eq idle past v) (sym c.self.view_is) before))

pub returns-in_default-replace-clause-known : goal.returns-in_default-replace-clause-known
returns-in_default-replace-clause-known g c idle past before =
    let eq = g.K.PartialEq.eq in let s = c.self.inside in
    let is = subst (λ v. IsIdlePass eq idle past v) (sym c.self.view_is) before in
    ap is_some c.in_default-replace.ensures.found
    ∙ form_known eq g.met.K.Eq.laws (g.Q.Equivalent.equivalent c.args.key) (g.met.Q.Equivalent.respects_eq c.args.key) s.seen.entries (keys_of past)
    (seen_known eq (keys_of past) s.seen.entries is.ranked.known)

pub remove-distance-requires-clause-latest : goal.remove-distance-requires-clause-latest
remove-distance-requires-clause-latest g c =
    let eq = g.K.PartialEq.eq in let laws = g.met.K.Eq.laws in let s = c.self.inside in let inv = c.self.invariant in let b = c.in-Some.before in
    let at = key_at eq laws (g.Q.Equivalent.equivalent c.args.key) (g.met.Q.Equivalent.respects_eq c.args.key)
    s.seen.entries b (sym c.in-Some.ensures.found) in
    let latest = bit_there eq laws s.limit inv.past s.seen.entries s.latest.blocks.items s.latest.requests s.histogram.items s.limit
    at.key c.args.time inv.taken b at.found in
    omega (arith, latest, c.make_ready.ensures.ones b.position, c.make_ready.ensures.ones (suc b.position))

pub count_if-requires-clause-inside : goal.count_if-requires-clause-inside
count_if-requires-clause-inside g c =
    let eq = g.K.PartialEq.eq in let laws = g.met.K.Eq.laws in let s = c.self.inside in let inv = c.self.invariant in let b = c.in-Some.before in
    let at = key_at eq laws (g.Q.Equivalent.equivalent c.args.key) (g.met.Q.Equivalent.respects_eq c.args.key)
    s.seen.entries b (sym c.in-Some.ensures.found) in
    let below = distance_below eq laws s.limit inv.past s.seen.entries s.latest.blocks.items s.latest.requests s.histogram.items s.limit
    at.key c.args.time inv.taken b at.found in
    omega (arith, below, c.remove-distance.ensures.count, c.make_ready.ensures.ones (suc b.position))

pub count_if-requires-clause-fits : goal.count_if-requires-clause-fits
count_if-requires-clause-fits g c =
    let eq = g.K.PartialEq.eq in let laws = g.met.K.Eq.laws in let s = c.self.inside in let inv = c.self.invariant in let b = c.in-Some.before in
    let at = key_at eq laws (g.Q.Equivalent.equivalent c.args.key) (g.met.Q.Equivalent.respects_eq c.args.key)
    s.seen.entries b (sym c.in-Some.ensures.found) in
    let h = s.histogram.items in
    let distance = c.remove-distance.ensures.count ∙ c.make_ready.ensures.ones (suc b.position) in
    let few = number_few eq laws s.limit inv.past s.seen.entries s.latest.blocks.items s.latest.requests h s.limit at.key c.args.time inv.taken b at.found in
    omega (arith, ap (λ i. get_or h i 0) distance, few, c.in-Ok.ensures.countable, c.make_ready.ensures.requests)

pub invariant_of-self-2 : goal.invariant_of-self-2
invariant_of-self-2 g c =
    let eq = g.K.PartialEq.eq in let laws = g.met.K.Eq.laws in let s = c.self.inside in let inv = c.self.invariant in let b = c.in-Some.before in
    let at = key_at eq laws (g.Q.Equivalent.equivalent c.args.key) (g.met.Q.Equivalent.respects_eq c.args.key)
    s.seen.entries b (sym c.in-Some.ensures.found) in
    let moved = c.in-Some.ensures.replaced refl
    ∙ ap (λ f. with_entries s.seen (set_value f s.seen.entries (seen_at c.make_ready.new.self.requests c.args.time))) at.same in
    let distance = c.remove-distance.ensures.count ∙ c.make_ready.ensures.ones (suc b.position) in
    record {
      latest = c.push.ensures.kept;
      past = (at.key, c.args.time) ∷ inv.past;
      taken = rw (moved, c.push.ensures.requests, c.remove-distance.ensures.requests, c.make_ready.ensures.requests, c.count_if.ensures.counted, c.is_soon-soon.ensures)
          (IsIdlePass-again eq laws s.limit inv.past s.seen.entries s.latest.blocks.items s.latest.requests s.histogram.items s.limit at.key c.args.time inv.taken
          b at.found c.remove-distance.result distance c.push.new.self.blocks.items
          (λ q. omega (arith, c.remove-distance.ensures.ones q, c.push.ensures.ones q, c.make_ready.ensures.ones q, ap (λ r. up_to q r) (c.remove-distance.ensures.requests ∙ c.make_ready.ensures.requests))));
    }

pub returns-clause-distance : goal.returns-clause-distance
returns-clause-distance g c idle past x before passes =
    let eq = g.K.PartialEq.eq in let laws = g.met.K.Eq.laws in let s = c.self.inside in let b = c.in-Some.before in
    let is = subst (λ v. IsIdlePass eq idle past v) (sym c.self.view_is) before in
    let found = found_as eq laws (g.Q.Equivalent.equivalent c.args.key) (g.met.Q.Equivalent.respects_eq c.args.key) s.seen.entries x (Some b) passes
    (sym c.in-Some.ensures.found) in
    let d = c.remove-distance.result in
    c.count_if.ensures.distance ∙ ap (λ o. cond o (Some d) None) c.is_soon-soon.ensures
    ∙ distance_some eq laws idle past s.seen.entries s.latest.blocks.items s.latest.requests s.histogram.items s.limit x c.args.time is b found
    d (c.remove-distance.ensures.count ∙ c.make_ready.ensures.ones (suc b.position))

pub returns-clause-taken : goal.returns-clause-taken
returns-clause-taken g c idle past x before passes some =
    let eq = g.K.PartialEq.eq in let laws = g.met.K.Eq.laws in let s = c.self.inside in let b = c.in-Some.before in
    let test = g.Q.Equivalent.equivalent c.args.key in let form = g.met.Q.Equivalent.respects_eq c.args.key in
    let is = subst (λ v. IsIdlePass eq idle past v) (sym c.self.view_is) before in
    let found = found_as eq laws test form s.seen.entries x (Some b) passes (sym c.in-Some.ensures.found) in
    let moved = c.in-Some.ensures.replaced refl
    ∙ ap (λ f. with_entries s.seen (set_value f s.seen.entries (seen_at c.make_ready.new.self.requests c.args.time))) (form_is eq test form x passes) in
    let distance = c.remove-distance.ensures.count ∙ c.make_ready.ensures.ones (suc b.position) in
    rw (moved, c.push.ensures.requests, c.remove-distance.ensures.requests, c.make_ready.ensures.requests, c.count_if.ensures.counted, c.is_soon-soon.ensures)
    (IsIdlePass-again eq laws idle past s.seen.entries s.latest.blocks.items s.latest.requests s.histogram.items s.limit x c.args.time is b found
    c.remove-distance.result distance c.push.new.self.blocks.items
    (λ q. omega (arith, c.remove-distance.ensures.ones q, c.push.ensures.ones q, c.make_ready.ensures.ones q, ap (λ r. up_to q r) (c.remove-distance.ensures.requests ∙ c.make_ready.ensures.requests))))

pub returns-clause-known : goal.returns-clause-known
returns-clause-known g c idle past before =
    let eq = g.K.PartialEq.eq in let s = c.self.inside in
    let is = subst (λ v. IsIdlePass eq idle past v) (sym c.self.view_is) before in
    ap is_some c.in-Some.ensures.found
    ∙ form_known eq g.met.K.Eq.laws (g.Q.Equivalent.equivalent c.args.key) (g.met.Q.Equivalent.respects_eq c.args.key) s.seen.entries (keys_of past)
    (seen_known eq (keys_of past) s.seen.entries is.ranked.known)
