use Rattle.std.proofs.Common.{◌≡◌, ◌+◌, ◌*◌, ◌/◌, length, get_or, suc, [], ◌∷◌, ◌++◌, Some, is_some, refl, sym, ap, ◌∙◌, subst, arith}
use Rattle.std.specs.Map.{set_value}
use Rattle.clru_model.proofs.Forms.{form_is}
use Rattle.clru_curve.proofs.Forms.{key_at, found_as}
use Rattle.clru_curve.proofs.IdlePassing.{position_found}
use Rattle.clru_curve.proofs.LatestSizes.{total_zero, removed_less, moved_lives, moved_totals, moved_less}
use Rattle.clru_curve.proofs.SizedAgedPassing.{AreAligned-again, seen_found, IsSizedAgedPass-again, IsSoundAgedBySize-again, IsSoundAgedBySize-nodes, size_there}
use Rattle.clru_curve.proofs.SizedPassing.{not_too_large}
use Rattle.clru_curve.proofs.FetchTables.{AreCounted-as, AreFetched-as}
use Rattle.clru_curve.specs.Fetches.{fetch_times, fetched_at, seens_of, is_row_hit, times_by, AreFetched}
use Rattle.clru_linked_map.specs.KeyTables.{with_entries}
use Rattle.clru_curve.specs.LatestSizes.{sizes_from, total_from, live_from, IsRemoved, IsSummed}
use Rattle.clru_curve.specs.Rising.{numbered}
use Rattle.clru_curve.specs.Seen.{seen_at}
use Rattle.clru_curve.specs.SizedAgedPasses.{IsSizedAgedPass}
use Rattle.clru_curve.proofs.sized.aged.SizedAgedPass.again.Goals as goal

pub remove-span-requires-clause-live : goal.remove-span-requires-clause-live
remove-span-requires-clause-live g c =
    let eq = g.K.PartialEq.eq in let b = c.in-Some.before in let p = b.seen.position in let e = c.make_ready.ensures in
    let es = c.self.inside.seen.entries in
    let at = key_at eq g.met.K.Eq.laws (g.Q.Equivalent.equivalent c.args.key) (g.met.Q.Equivalent.respects_eq c.args.key)
    es b (sym c.in-Some.ensures.found) in
    omega (
      arith,
      c.self.invariant.2.sound.ranked.latest at.key p (position_found eq (seens_of es) at.key b.seen (seen_found eq es at.key b at.found)),
      ap (λ l. live_from l p) e.sizes,
      ap (λ l. live_from l (suc p)) e.sizes,
    )

pub remove-span-requires-clause-fits : goal.remove-span-requires-clause-fits
remove-span-requires-clause-fits g c =
    let ss = c.self.inside.latest.sizes.items in let inv = c.self.invariant.2.sound in
    omega (arith, ap (λ l. sizes_from l 0) c.make_ready.ensures.sizes, total_zero ss, inv.held, inv.fits)

pub push-requires-clause-fits : goal.push-requires-clause-fits
push-requires-clause-fits g c =
    let ss = c.self.inside.latest.sizes.items in let inv = c.self.invariant.2.sound in let p = c.in-Some.before.seen.position in
    let left = c.remove-span.new.self.sizes.items in
    let removed = subst (λ l. IsRemoved l p left) c.make_ready.ensures.sizes c.remove-span.ensures.removed in
    omega (arith, removed_less ss left p removed, total_zero left, inv.held, c.if-weight-self.false)

pub push-requires-clause-countable : goal.push-requires-clause-countable
push-requires-clause-countable g c =
    let inv = c.self.invariant.2.sound in
    omega (arith, c.remove-span.ensures.requests, c.make_ready.ensures.requests, inv.many, c.if-weight-self.false)

pub drop_empty-requires-clause-fits : goal.drop_empty-requires-clause-fits
drop_empty-requires-clause-fits g c =
    let ss = c.self.inside.latest.sizes.items in let inv = c.self.invariant.2.sound in let p = c.in-Some.before.seen.position in
    let left = c.remove-span.new.self.sizes.items in let pushed = c.push.new.self.sizes.items in
    let removed = subst (λ l. IsRemoved l p left) c.make_ready.ensures.sizes c.remove-span.ensures.removed in
    let less = moved_less ss left pushed pushed p c.remove-span.new.self.requests c.args.weight (λ t. refl) (λ t. refl) removed c.push.ensures.sizes in
    omega (arith, less, total_zero pushed, inv.held, c.if-weight-self.false)

pub take-requires-clause-inside : goal.take-requires-clause-inside
take-requires-clause-inside g c =
    let eq = g.K.PartialEq.eq in let b = c.in-Some.before in
    let at = key_at eq g.met.K.Eq.laws (g.Q.Equivalent.equivalent c.args.key) (g.met.Q.Equivalent.respects_eq c.args.key)
    c.self.inside.seen.entries b (sym c.in-Some.ensures.found) in
    omega (arith, c.self.invariant.2.inside at.key b at.found, ap (λ u. length u.items) c.make_room.ensures.capacities, ap (λ l. length l) c.make_room.ensures.times)

pub take-requires-clause-aligned : goal.take-requires-clause-aligned
take-requires-clause-aligned g c =
    let eq = g.K.PartialEq.eq in let b = c.in-Some.before in
    let at = key_at eq g.met.K.Eq.laws (g.Q.Equivalent.equivalent c.args.key) (g.met.Q.Equivalent.respects_eq c.args.key)
    c.self.inside.seen.entries b (sym c.in-Some.ensures.found) in
    subst (λ u. b.first / length u.items * length u.items ≡ b.first) (sym c.make_room.ensures.capacities) (c.self.invariant.1 at.key b at.found)

pub take-requires-clause-misses_length : goal.take-requires-clause-misses_length
take-requires-clause-misses_length g c =
    omega (arith, c.self.invariant.2.misses_length, ap (λ u. length u.items) c.make_room.ensures.capacities, ap (λ u. length u.items) c.make_room.ensures.misses)

pub take-requires-clause-missed_length : goal.take-requires-clause-missed_length
take-requires-clause-missed_length g c =
    omega (arith, c.self.invariant.2.missed_length, ap (λ u. length u.items) c.make_room.ensures.capacities, ap (λ u. length u.items) c.make_room.ensures.missed_sizes)

pub take-requires-clause-few : goal.take-requires-clause-few
take-requires-clause-few g c =
    λ i. omega (arith, c.self.invariant.2.few i, c.self.invariant.2.sound.many, c.if-weight-self.false, ap (λ u. get_or u.items i 0) c.make_room.ensures.misses)

pub take-requires-clause-small : goal.take-requires-clause-small
take-requires-clause-small g c =
    λ i. omega (arith, c.self.invariant.2.small i, c.if-weight-self.false, ap (λ u. get_or u.items i 0) c.make_room.ensures.missed_sizes)

pub returns-then-weight-self-clause-too_large : goal.returns-then-weight-self-clause-too_large
returns-then-weight-self-clause-too_large g c =
    (λ _. omega (arith, c.if-weight-self.true, ap (λ v. v.size) c.self.view_is), λ _. tt)

pub invariant_of-self : goal.invariant_of-self
invariant_of-self g c =
    let e = c.make_ready.ensures in let ready = c.make_ready.new.self in
    let summed = subst (λ k. IsSummed c.self.inside.latest.sizes.items ready.nodes.items k) e.requests
    (subst (λ l. IsSummed l ready.nodes.items ready.requests) e.sizes e.kept) in
    (c.self.invariant.0, c.self.invariant.1, rw (e.sizes, e.requests) (IsSoundAgedBySize-nodes g.K.PartialEq.eq summed c.self.invariant.2))

pub returns-in_default-clause-refused : goal.returns-in_default-clause-refused
returns-in_default-clause-refused g c =
    rw (c.make_ready.ensures.sizes, c.make_ready.ensures.requests) c.self.view_is

pub invariant_of-self-in_default-make_room : goal.invariant_of-self-in_default-make_room
invariant_of-self-in_default-make_room g c =
    let e = c.make_ready.ensures in let ready = c.make_ready.new.self in let has = c.make_room.ensures in
    let summed = subst (λ k. IsSummed c.self.inside.latest.sizes.items ready.nodes.items k) e.requests
    (subst (λ l. IsSummed l ready.nodes.items ready.requests) e.sizes e.kept) in (
      has.blocks,
      rw has.capacities c.self.invariant.1,
      rw (e.sizes, e.requests, has.times, has.capacities, has.misses, has.missed_sizes, has.age)
          (IsSoundAgedBySize-nodes g.K.PartialEq.eq summed c.self.invariant.2),
    )

pub returns-in_default-make_room-clause-refused : goal.returns-in_default-make_room-clause-refused
returns-in_default-make_room-clause-refused g c =
    let e = c.make_ready.ensures in let has = c.make_room.ensures in
    rw (e.sizes, e.requests, has.times, has.capacities, has.misses, has.missed_sizes, has.age) c.self.view_is

pub returns-in_default-make_room-clause-too_large : goal.returns-in_default-make_room-clause-too_large
returns-in_default-make_room-clause-too_large g c = not_too_large (ap (λ v. v.size) c.self.view_is) c.if-weight-self.false

pub returns-in_default-clause-too_large : goal.returns-in_default-clause-too_large
returns-in_default-clause-too_large g c = not_too_large (ap (λ v. v.size) c.self.view_is) c.if-weight-self.false

pub invariant_of-self-in_default-see_again : goal.invariant_of-self-in_default-see_again
invariant_of-self-in_default-see_again g c =
    let e = c.make_ready.ensures in let ready = c.make_ready.new.self in
    let summed = subst (λ k. IsSummed c.self.inside.latest.sizes.items ready.nodes.items k) e.requests
    (subst (λ l. IsSummed l ready.nodes.items ready.requests) e.sizes e.kept) in
    let has = c.make_room.ensures in (
      has.blocks,
      rw (c.in_default-see_again.ensures.same refl, has.capacities) c.self.invariant.1,
      rw (c.in_default-see_again.ensures.same refl, e.sizes, e.requests, has.times, has.capacities, has.misses, has.missed_sizes, has.age)
          (IsSoundAgedBySize-nodes g.K.PartialEq.eq summed c.self.invariant.2),
    )

pub returns-in_default-see_again-clause-known : goal.returns-in_default-see_again-clause-known
returns-in_default-see_again-clause-known g c =
    rw (← c.self.view_is) (ap is_some c.in_default-see_again.ensures.found)

pub returns-in_default-see_again-clause-not_taken : goal.returns-in_default-see_again-clause-not_taken
returns-in_default-see_again-clause-not_taken g c none =
    let has = c.make_room.ensures in
    rw (
      c.in_default-see_again.ensures.same refl,
      c.make_ready.ensures.sizes,
      c.make_ready.ensures.requests,
      has.times,
      has.capacities,
      has.misses,
      has.missed_sizes,
      has.age,
    ) c.self.view_is

pub returns-in_default-see_again-clause-too_large : goal.returns-in_default-see_again-clause-too_large
returns-in_default-see_again-clause-too_large g c =
    not_too_large (ap (λ v. v.size) c.self.view_is) c.if-weight-self.false

pub invariant_of-self-2 : goal.invariant_of-self-2
invariant_of-self-2 g c =
    let eq = g.K.PartialEq.eq in let laws = g.met.K.Eq.laws in let s = c.self.inside in let inv = c.self.invariant.2 in
    let ss = s.latest.sizes.items in let n = s.latest.requests in let b = c.in-Some.before in let p = b.seen.position in
    let e = c.make_ready.ensures in let w = c.args.weight in let f = s.fetches in let took = c.take.new.self in
    let at = key_at eq laws (g.Q.Equivalent.equivalent c.args.key) (g.met.Q.Equivalent.respects_eq c.args.key)
    s.seen.entries b (sym c.in-Some.ensures.found) in
    let moved = c.in-Some.ensures.moved
    ∙ ap (λ t. with_entries s.seen (set_value t s.seen.entries (fetched_at (seen_at c.make_ready.new.self.requests c.args.time) b.first))) at.same in
    let left = c.remove-span.new.self.sizes.items in let pushed = c.push.new.self.sizes.items in
    let d = c.drop_empty.new.self in let ts = d.sizes.items in
    let removed = subst (λ l. IsRemoved l p left) e.sizes c.remove-span.ensures.removed in
    let number = c.remove-span.ensures.requests ∙ e.requests in
    let grown = c.push.ensures.sizes ∙ ap (λ k. left ++ numbered k (w + 1) ∷ []) number in
    let requests : d.requests ≡ n + 1 = omega (arith, c.drop_empty.ensures.requests, c.push.ensures.requests, number) in
    let totals = c.drop_empty.ensures.totals in let lives = c.drop_empty.ensures.live in
    let has = c.make_room.ensures in let caps = c.take.ensures.capacities ∙ has.capacities in
    let times' = times_by (length f.capacities.items) took.firsts.items took.widths.items took.times.items in
    let all = is_row_hit c.is_in_limit-soon.result c.remove-span.result c.args.time in
    let alike : all c.make_room.new.self.age b.first c.make_room.new.self.capacities.items (fetch_times c.make_room.new.self)
    ≡ all f.age b.first f.capacities.items (fetch_times f) =
    ap (λ a. all a b.first c.make_room.new.self.capacities.items (fetch_times c.make_room.new.self)) has.age
    ∙ ap (λ u. all f.age b.first u.items (fetch_times c.make_room.new.self)) has.capacities
    ∙ ap (all f.age b.first f.capacities.items) has.times in
    let rows = ap (λ u. length u.items) has.capacities in
    let misses = AreCounted-as _ _ _ _ 1 _ _ took.misses.items alike rows (ap (λ u. u.items) has.misses) c.take.ensures.misses in
    let sizes = AreCounted-as _ _ _ _ (c.args.weight + 1) _ _ took.missed_sizes.items alike rows (ap (λ u. u.items) has.missed_sizes) c.take.ensures.missed_sizes in
    let times = subst (AreFetched (all f.age b.first f.capacities.items (fetch_times f)) (length f.capacities.items) b.first c.args.time (fetch_times f))
    (ap (λ u. times_by (length u.items) took.firsts.items took.widths.items took.times.items) caps)
    (AreFetched-as _ _ _ _ _ _ c.args.time _ _ (fetch_times took) alike rows refl has.times c.take.ensures.times) in
    let hits = all f.age b.first f.capacities.items (fetch_times f) in (
      c.take.ensures.blocks,
      rw (moved, caps, e.requests) (AreAligned-again eq laws (length f.capacities.items) s.seen.entries at.key (seen_at n c.args.time) b c.self.invariant.1 at.found),
      rw (moved, requests, caps, c.take.ensures.age, has.age, e.requests)
          (IsSoundAgedBySize-again eq laws s.seen.entries ss n f.capacities.items f.misses.items f.missed_sizes.items (fetch_times f) f.age s.size s.greatest s.idle
          at.key c.args.time s.latest.nodes.items inv
          w c.greater-greatest.result (omega (arith, c.if-weight-self.false, inv.sound.fits)) ts d.nodes.items
          (subst (λ k. IsSummed ts d.nodes.items k) requests c.drop_empty.ensures.kept)
          (omega (arith, moved_less ss left ts pushed p n w totals lives removed grown, inv.sound.held))
          hits took.misses.items took.missed_sizes.items times' misses sizes
          b at.found (moved_lives ss left ts pushed p n w totals lives removed grown) times),
    )

pub returns-clause-taken : goal.returns-clause-taken
returns-clause-taken g c w cs idle age past x same before weighs passes some =
    let eq = g.K.PartialEq.eq in let laws = g.met.K.Eq.laws in let s = c.self.inside in let inv = c.self.invariant.2 in
    let test = g.Q.Equivalent.equivalent c.args.key in let form = g.met.Q.Equivalent.respects_eq c.args.key in
    let ss = s.latest.sizes.items in let n = s.latest.requests in let b = c.in-Some.before in let p = b.seen.position in
    let e = c.make_ready.ensures in let v = c.args.weight in let f = s.fetches in let took = c.take.new.self in
    let is = subst (λ v. IsSizedAgedPass eq w cs idle age past v) (sym c.self.view_is) before in
    let found = found_as eq laws test form s.seen.entries x (Some b) passes (sym c.in-Some.ensures.found) in
    let moved = c.in-Some.ensures.moved
    ∙ ap (λ t. with_entries s.seen (set_value t s.seen.entries (fetched_at (seen_at c.make_ready.new.self.requests c.args.time) b.first)))
    (form_is eq test form x passes) in
    let left = c.remove-span.new.self.sizes.items in let pushed = c.push.new.self.sizes.items in
    let d = c.drop_empty.new.self in let ts = d.sizes.items in
    let removed = subst (λ l. IsRemoved l p left) e.sizes c.remove-span.ensures.removed in
    let number = c.remove-span.ensures.requests ∙ e.requests in
    let grown = c.push.ensures.sizes ∙ ap (λ k. left ++ numbered k (v + 1) ∷ []) number in
    let requests : d.requests ≡ n + 1 = omega (arith, c.drop_empty.ensures.requests, c.push.ensures.requests, number) in
    let has = c.make_room.ensures in let caps = c.take.ensures.capacities ∙ has.capacities in
    let times' = times_by (length f.capacities.items) took.firsts.items took.widths.items took.times.items in
    let all = is_row_hit c.is_in_limit-soon.result c.remove-span.result c.args.time in
    let alike : all c.make_room.new.self.age b.first c.make_room.new.self.capacities.items (fetch_times c.make_room.new.self)
    ≡ all f.age b.first f.capacities.items (fetch_times f) =
    ap (λ a. all a b.first c.make_room.new.self.capacities.items (fetch_times c.make_room.new.self)) has.age
    ∙ ap (λ u. all f.age b.first u.items (fetch_times c.make_room.new.self)) has.capacities
    ∙ ap (all f.age b.first f.capacities.items) has.times in
    let rows = ap (λ u. length u.items) has.capacities in
    let misses = AreCounted-as _ _ _ _ 1 _ _ took.misses.items alike rows (ap (λ u. u.items) has.misses) c.take.ensures.misses in
    let sizes = AreCounted-as _ _ _ _ (v + 1) _ _ took.missed_sizes.items alike rows (ap (λ u. u.items) has.missed_sizes) c.take.ensures.missed_sizes in
    let times = subst (AreFetched (all f.age b.first f.capacities.items (fetch_times f)) (length f.capacities.items) b.first c.args.time (fetch_times f))
    (ap (λ u. times_by (length u.items) took.firsts.items took.widths.items took.times.items) caps)
    (AreFetched-as _ _ _ _ _ _ c.args.time _ _ (fetch_times took) alike rows refl has.times c.take.ensures.times) in
    let span = c.remove-span.ensures.total ∙ ap (λ l. total_from l p) e.sizes in
    let there = size_there eq laws s.seen.entries ss n f.capacities.items f.misses.items f.missed_sizes.items (fetch_times f) f.age s.size s.greatest s.idle
    x c.args.time s.latest.nodes.items inv w cs idle age past is same v weighs c.greater-greatest.result c.greater-greatest.ensures ts
    took.misses.items took.missed_sizes.items times' b found in
    rw (moved, requests, caps, c.take.ensures.age, has.age, e.requests)
    (IsSizedAgedPass-again eq laws s.seen.entries ss n f.capacities.items f.misses.items f.missed_sizes.items (fetch_times f) f.age s.size s.greatest s.idle
    x c.args.time s.latest.nodes.items inv w cs idle age past is same v weighs c.greater-greatest.result c.greater-greatest.ensures ts
    took.misses.items took.missed_sizes.items times' b found
    c.is_in_limit-soon.result c.remove-span.result c.is_in_limit-soon.ensures span
    (moved_totals ss left ts pushed p n v c.drop_empty.ensures.totals c.drop_empty.ensures.live removed grown n inv.sound.summed.rising there)
    misses sizes times)

pub returns-clause-known : goal.returns-clause-known
returns-clause-known g c = rw (← c.self.view_is) (ap is_some c.in-Some.ensures.found)

pub returns-clause-size : goal.returns-clause-size
returns-clause-size g c taken = omega (arith, ap (λ v. v.size) c.self.view_is)

pub returns-clause-too_large : goal.returns-clause-too_large
returns-clause-too_large g c = not_too_large (ap (λ v. v.size) c.self.view_is) c.if-weight-self.false
