use Rattle.std.proofs.Common.{suc, ◌<◌, ◌∷◌, Some, None, is_some, get_or, refl, sym, ap, ◌∙◌, subst, arith, length}
use Rattle.std.specs.Map.{set_value}
use Rattle.std.proofs.lemmas.List.{get_or_read}
use Rattle.clru_linked_map.specs.KeyTables.{with_entries}
use Rattle.clru_model.proofs.Forms.{form_is}
use Rattle.clru_curve.specs.Tree.{up_to}
use Rattle.clru_curve.specs.Passes.{IsPass}
use Rattle.clru_curve.proofs.Forms.{key_at, found_as, form_known}
use Rattle.clru_curve.proofs.Passing.{IsPass-same, IsPass-again, distance_none, distance_some, distance_below, number_few}
use Rattle.clru_curve.proofs.pass.DistancePass.request_again_with_hash.Goals as goal

pub invariant_of-self : goal.invariant_of-self
invariant_of-self g c =
    let eq = g.K.PartialEq.eq in let s = c.self.inside in let inv = c.self.invariant in let e = c.make_ready.ensures in
    record {
      latest = e.kept;
      past = inv.past;
      taken = rw e.requests (IsPass-same eq inv.past s.positions.entries s.latest.blocks.items c.make_ready.new.self.blocks.items s.latest.requests
          s.histogram.items e.ones inv.taken);
    }

pub returns-in_default-clause-refused : goal.returns-in_default-clause-refused
returns-in_default-clause-refused g c past before =
    let eq = g.K.PartialEq.eq in let s = c.self.inside in let e = c.make_ready.ensures in
    rw e.requests (IsPass-same eq past s.positions.entries s.latest.blocks.items c.make_ready.new.self.blocks.items s.latest.requests
    s.histogram.items e.ones (subst (λ v. IsPass eq past v) (sym c.self.view_is) before))

pub invariant_of-self-in_default-replace : goal.invariant_of-self-in_default-replace
invariant_of-self-in_default-replace g c =
    let eq = g.K.PartialEq.eq in let s = c.self.inside in let inv = c.self.invariant in let e = c.make_ready.ensures in
    let same = c.in_default-replace.ensures.same refl in
    record {
      latest = e.kept;
      past = inv.past;
      taken = rw (same, e.requests)
          (IsPass-same eq inv.past s.positions.entries s.latest.blocks.items c.make_ready.new.self.blocks.items s.latest.requests s.histogram.items e.ones inv.taken);
    }

pub returns-in_default-replace-clause-not_taken : goal.returns-in_default-replace-clause-not_taken
returns-in_default-replace-clause-not_taken g c past before none =
    let eq = g.K.PartialEq.eq in let s = c.self.inside in let e = c.make_ready.ensures in
    let same = c.in_default-replace.ensures.same refl in
    rw (same, e.requests)
    (IsPass-same eq past s.positions.entries s.latest.blocks.items c.make_ready.new.self.blocks.items s.latest.requests s.histogram.items e.ones
    (subst (λ v. IsPass eq past v) (sym c.self.view_is) before))

pub returns-in_default-replace-clause-distance : goal.returns-in_default-replace-clause-distance
returns-in_default-replace-clause-distance g c past x before passes =
    let eq = g.K.PartialEq.eq in let s = c.self.inside in
    let is = subst (λ v. IsPass eq past v) (sym c.self.view_is) before in
    distance_none eq g.met.K.Eq.laws past s.positions.entries s.latest.blocks.items s.latest.requests s.histogram.items x is
    (found_as eq g.met.K.Eq.laws (g.Q.Equivalent.equivalent c.args.key) (g.met.Q.Equivalent.respects_eq c.args.key) s.positions.entries x None passes
    (sym c.in_default-replace.ensures.found))

pub returns-in_default-replace-clause-known : goal.returns-in_default-replace-clause-known
returns-in_default-replace-clause-known g c past before =
    let eq = g.K.PartialEq.eq in let s = c.self.inside in
    let is = subst (λ v. IsPass eq past v) (sym c.self.view_is) before in
    ap is_some c.in_default-replace.ensures.found
    ∙ form_known eq g.met.K.Eq.laws (g.Q.Equivalent.equivalent c.args.key) (g.met.Q.Equivalent.respects_eq c.args.key) s.positions.entries past
    is.ranked.known

pub remove-distance-requires-clause-latest : goal.remove-distance-requires-clause-latest
remove-distance-requires-clause-latest g c =
    let p = c.in-Some.position in
    let at = key_at g.K.PartialEq.eq g.met.K.Eq.laws (g.Q.Equivalent.equivalent c.args.key) (g.met.Q.Equivalent.respects_eq c.args.key)
    c.self.inside.positions.entries p (sym c.in-Some.ensures.found) in
    let latest = c.self.invariant.taken.ranked.latest at.key p at.found in
    omega (arith, latest, c.make_ready.ensures.ones p, c.make_ready.ensures.ones (suc p))

pub index_mut-requires : goal.index_mut-requires
index_mut-requires g c =
    let eq = g.K.PartialEq.eq in let laws = g.met.K.Eq.laws in let s = c.self.inside in let p = c.in-Some.position in
    let at = key_at eq laws (g.Q.Equivalent.equivalent c.args.key) (g.met.Q.Equivalent.respects_eq c.args.key)
    s.positions.entries p (sym c.in-Some.ensures.found) in
    let below = distance_below eq laws c.self.invariant.past s.positions.entries s.latest.blocks.items s.latest.requests s.histogram.items
    at.key c.self.invariant.taken p at.found in
    omega (arith, below, c.remove-distance.ensures.count, c.make_ready.ensures.ones (suc p), s.histogram.ok.0)

pub overflow_add-index_mut : goal.overflow_add-index_mut
overflow_add-index_mut g c =
    let eq = g.K.PartialEq.eq in let laws = g.met.K.Eq.laws in let s = c.self.inside in let inv = c.self.invariant in let p = c.in-Some.position in
    let at = key_at eq laws (g.Q.Equivalent.equivalent c.args.key) (g.met.Q.Equivalent.respects_eq c.args.key)
    s.positions.entries p (sym c.in-Some.ensures.found) in
    let d = c.remove-distance.result in let h = s.histogram.items in
    let distance = c.remove-distance.ensures.count ∙ c.make_ready.ensures.ones (suc p) in
    let below = distance_below eq laws inv.past s.positions.entries s.latest.blocks.items s.latest.requests h at.key inv.taken p at.found in
    let few = number_few eq laws inv.past s.positions.entries s.latest.blocks.items s.latest.requests h at.key inv.taken p at.found in
    let inside : d < length h = omega (arith, below, distance) in
    let word = get_or_read h d c.index_mut.result.now inside c.index_mut.ensures.value 0 in
    omega (arith, word, ap (λ i. get_or h i 0) distance, few, c.in-Ok.ensures.countable, c.make_ready.ensures.requests)

pub invariant_of-self-2 : goal.invariant_of-self-2
invariant_of-self-2 g c =
    let eq = g.K.PartialEq.eq in let laws = g.met.K.Eq.laws in let s = c.self.inside in let inv = c.self.invariant in let p = c.in-Some.position in
    let at = key_at eq laws (g.Q.Equivalent.equivalent c.args.key) (g.met.Q.Equivalent.respects_eq c.args.key)
    s.positions.entries p (sym c.in-Some.ensures.found) in
    let d = c.remove-distance.result in let h = s.histogram.items in
    let moved = c.in-Some.ensures.replaced refl
    ∙ ap (λ t. with_entries s.positions (set_value t s.positions.entries c.make_ready.new.self.requests)) at.same in
    let distance = c.remove-distance.ensures.count ∙ c.make_ready.ensures.ones (suc p) in
    let below = distance_below eq laws inv.past s.positions.entries s.latest.blocks.items s.latest.requests h at.key inv.taken p at.found in
    let inside : d < length h = omega (arith, below, distance) in
    let word = get_or_read h d c.index_mut.result.now inside c.index_mut.ensures.value 0 ∙ ap (λ i. get_or h i 0) distance in
    record {
      latest = c.push.ensures.kept;
      past = at.key ∷ inv.past;
      taken = rw (moved, c.push.ensures.requests, c.remove-distance.ensures.requests, c.make_ready.ensures.requests, word, distance)
          (IsPass-again eq laws inv.past s.positions.entries s.latest.blocks.items s.latest.requests h at.key inv.taken p at.found c.push.new.self.blocks.items
          (λ q. omega (arith, c.remove-distance.ensures.ones q, c.push.ensures.ones q, c.make_ready.ensures.ones q, ap (λ r. up_to q r) (c.remove-distance.ensures.requests ∙ c.make_ready.ensures.requests))));
    }

pub returns-clause-distance : goal.returns-clause-distance
returns-clause-distance g c past x before passes =
    let eq = g.K.PartialEq.eq in let laws = g.met.K.Eq.laws in let s = c.self.inside in let p = c.in-Some.position in
    let is = subst (λ v. IsPass eq past v) (sym c.self.view_is) before in
    ap (λ d. Some d) (c.remove-distance.ensures.count ∙ c.make_ready.ensures.ones (suc p))
    ∙ distance_some eq laws past s.positions.entries s.latest.blocks.items s.latest.requests s.histogram.items x is p
    (found_as eq laws (g.Q.Equivalent.equivalent c.args.key) (g.met.Q.Equivalent.respects_eq c.args.key) s.positions.entries x (Some p) passes
    (sym c.in-Some.ensures.found))

pub returns-clause-taken : goal.returns-clause-taken
returns-clause-taken g c past x before passes some =
    let eq = g.K.PartialEq.eq in let laws = g.met.K.Eq.laws in let s = c.self.inside in let p = c.in-Some.position in
    let test = g.Q.Equivalent.equivalent c.args.key in let form = g.met.Q.Equivalent.respects_eq c.args.key in
    let is = subst (λ v. IsPass eq past v) (sym c.self.view_is) before in
    let found = found_as eq laws test form s.positions.entries x (Some p) passes (sym c.in-Some.ensures.found) in
    let d = c.remove-distance.result in let h = s.histogram.items in
    let moved = c.in-Some.ensures.replaced refl
    ∙ ap (λ t. with_entries s.positions (set_value t s.positions.entries c.make_ready.new.self.requests)) (form_is eq test form x passes) in
    let distance = c.remove-distance.ensures.count ∙ c.make_ready.ensures.ones (suc p) in
    let below = distance_below eq laws past s.positions.entries s.latest.blocks.items s.latest.requests h x is p found in
    let inside : d < length h = omega (arith, below, distance) in
    let word = get_or_read h d c.index_mut.result.now inside c.index_mut.ensures.value 0 ∙ ap (λ i. get_or h i 0) distance in
    rw (moved, c.push.ensures.requests, c.remove-distance.ensures.requests, c.make_ready.ensures.requests, word, distance)
    (IsPass-again eq laws past s.positions.entries s.latest.blocks.items s.latest.requests h x is p found c.push.new.self.blocks.items
    (λ q. omega (arith, c.remove-distance.ensures.ones q, c.push.ensures.ones q, c.make_ready.ensures.ones q, ap (λ r. up_to q r) (c.remove-distance.ensures.requests ∙ c.make_ready.ensures.requests))))

pub returns-clause-known : goal.returns-clause-known
returns-clause-known g c past before =
    let eq = g.K.PartialEq.eq in let s = c.self.inside in
    let is = subst (λ v. IsPass eq past v) (sym c.self.view_is) before in
    ap is_some c.in-Some.ensures.found
    ∙ form_known eq g.met.K.Eq.laws (g.Q.Equivalent.equivalent c.args.key) (g.met.Q.Equivalent.respects_eq c.args.key) s.positions.entries past
    is.ranked.known
