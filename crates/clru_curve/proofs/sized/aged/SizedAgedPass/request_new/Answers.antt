use Rattle.std.proofs.Common.{◌≡◌, ◌+◌, false, replicate, [], ◌∷◌, ◌++◌, None, length, get_or, refl, sym, ap, ◌∙◌, subst, arith}
use Rattle.std.specs.Map.{lookup}
use Rattle.clru_curve.proofs.LatestSizes.{total_zero, grown_totals, grown_lives, grown_less}
use Rattle.clru_curve.proofs.SizedAgedPassing.{AreAligned-new, many_seen, IsSizedAgedPass-new, IsSoundAgedBySize-new, IsSoundAgedBySize-nodes}
use Rattle.clru_curve.proofs.FetchRows.{rows_aligned}
use Rattle.clru_curve.proofs.FetchTables.{AreFetched-new}
use Rattle.clru_curve.specs.Fetches.{fetch_times, time_at, times_by, AreCounted}
use Rattle.clru_curve.specs.Seen.{seen_at}
use Rattle.clru_curve.specs.LatestSizes.{IsSummed, sizes_from}
use Rattle.clru_curve.specs.Rising.{numbered}
use Rattle.clru_curve.specs.SizedAgedPasses.{IsSizedAgedPass}
use Rattle.clru_curve.proofs.sized.aged.SizedAgedPass.request_new.Goals as goal

pub insert-requires-clause-new : goal.insert-requires-clause-new
insert-requires-clause-new g c =
    subst (λ v. lookup (g.K.PartialEq.eq c.args.key) v.seen ≡ None) (sym c.self.view_is) c.requires.new

pub insert-requires-clause-countable : goal.insert-requires-clause-countable
insert-requires-clause-countable g c =
    omega (
      arith,
      many_seen g.K.PartialEq.eq c.self.inside.seen.entries,
      c.self.invariant.2.sound.ranked.few,
      c.self.invariant.2.sound.many,
      c.requires.fits,
      ap (λ v. v.size) c.self.view_is,
    )

pub push-requires-clause-fits : goal.push-requires-clause-fits
push-requires-clause-fits g c =
    let ss = c.self.inside.latest.sizes.items in let inv = c.self.invariant.2.sound in
    omega (arith, ap (λ l. sizes_from l 0) c.make_ready.ensures.sizes, total_zero ss, inv.held, c.requires.fits, ap (λ v. v.size) c.self.view_is)

pub push-requires-clause-countable : goal.push-requires-clause-countable
push-requires-clause-countable g c =
    omega (arith, c.make_ready.ensures.requests, c.self.invariant.2.sound.many, c.requires.fits, ap (λ v. v.size) c.self.view_is)

pub take_new-requires-clause-few : goal.take_new-requires-clause-few
take_new-requires-clause-few g c =
    λ i. omega (
      arith,
      c.self.invariant.2.few i,
      c.self.invariant.2.sound.many,
      c.requires.fits,
      ap (λ v. v.size) c.self.view_is,
      ap (λ v. get_or v.items i 0) c.make_ready-2.ensures.misses,
    )

pub take_new-requires-clause-small : goal.take_new-requires-clause-small
take_new-requires-clause-small g c =
    λ i. omega (
      arith,
      c.self.invariant.2.small i,
      c.requires.fits,
      ap (λ v. v.size) c.self.view_is,
      ap (λ v. get_or v.items i 0) c.make_ready-2.ensures.missed_sizes,
    )

pub take_new-requires-clause-misses_length : goal.take_new-requires-clause-misses_length
take_new-requires-clause-misses_length g c =
    omega (arith, c.self.invariant.2.misses_length, ap (λ v. length v.items) c.make_ready-2.ensures.capacities, ap (λ v. length v.items) c.make_ready-2.ensures.misses)

pub take_new-requires-clause-missed_length : goal.take_new-requires-clause-missed_length
take_new-requires-clause-missed_length g c =
    omega (
      arith,
      c.self.invariant.2.missed_length,
      ap (λ v. length v.items) c.make_ready-2.ensures.capacities,
      ap (λ v. length v.items) c.make_ready-2.ensures.missed_sizes,
    )

pub invariant_of-self : goal.invariant_of-self
invariant_of-self g c =
    let e = c.make_ready.ensures in let ready = c.make_ready.new.self in
    let summed = subst (λ k. IsSummed c.self.inside.latest.sizes.items ready.nodes.items k) e.requests
    (subst (λ l. IsSummed l ready.nodes.items ready.requests) e.sizes e.kept) in
    (c.self.invariant.0, c.self.invariant.1, rw (e.sizes, e.requests) (IsSoundAgedBySize-nodes g.K.PartialEq.eq summed c.self.invariant.2))

pub returns-in_default-clause-refused : goal.returns-in_default-clause-refused
returns-in_default-clause-refused g c =
    rw (c.make_ready.ensures.sizes, c.make_ready.ensures.requests) c.self.view_is

pub invariant_of-self-in_default-make_ready : goal.invariant_of-self-in_default-make_ready
invariant_of-self-in_default-make_ready g c =
    let has = c.make_ready-2.ensures in
    let e = c.make_ready.ensures in let ready = c.make_ready.new.self in
    let summed = subst (λ k. IsSummed c.self.inside.latest.sizes.items ready.nodes.items k) e.requests
    (subst (λ l. IsSummed l ready.nodes.items ready.requests) e.sizes e.kept) in (
      has.blocks,
      rw has.capacities c.self.invariant.1,
      rw (e.sizes, e.requests, has.times, has.capacities, has.misses, has.missed_sizes, has.age)
          (IsSoundAgedBySize-nodes g.K.PartialEq.eq summed c.self.invariant.2),
    )

pub returns-in_default-make_ready-clause-refused : goal.returns-in_default-make_ready-clause-refused
returns-in_default-make_ready-clause-refused g c =
    let has = c.make_ready-2.ensures in let e = c.make_ready.ensures in
    rw (e.sizes, e.requests, has.times, has.capacities, has.misses, has.missed_sizes, has.age) c.self.view_is

pub invariant_of-self-in-Err : goal.invariant_of-self-in-Err
invariant_of-self-in-Err g c =
    let has = c.make_ready-2.ensures in
    let e = c.make_ready.ensures in let ready = c.make_ready.new.self in
    let summed = subst (λ k. IsSummed c.self.inside.latest.sizes.items ready.nodes.items k) e.requests
    (subst (λ l. IsSummed l ready.nodes.items ready.requests) e.sizes e.kept) in (
      has.blocks,
      rw (c.in-Err.ensures.refused, has.capacities) c.self.invariant.1,
      rw (c.in-Err.ensures.refused, e.sizes, e.requests, has.times, has.capacities, has.misses, has.missed_sizes, has.age)
          (IsSoundAgedBySize-nodes g.K.PartialEq.eq summed c.self.invariant.2),
    )

pub returns-in-Err-clause-refused : goal.returns-in-Err-clause-refused
returns-in-Err-clause-refused g c =
    let has = c.make_ready-2.ensures in let e = c.make_ready.ensures in
    rw (c.in-Err.ensures.refused, e.sizes, e.requests, has.times, has.capacities, has.misses, has.missed_sizes, has.age) c.self.view_is

pub invariant_of-self-2 : goal.invariant_of-self-2
invariant_of-self-2 g c =
    let eq = g.K.PartialEq.eq in let laws = g.met.K.Eq.laws in let s = c.self.inside in let inv = c.self.invariant.2 in
    let ss = s.latest.sizes.items in let n = s.latest.requests in let e = c.make_ready.ensures in let w = c.args.weight in
    let f = s.fetches in let ready = c.make_ready-2.new.self in let has = c.make_ready-2.ensures in let took = c.take_new.new.self in
    let absent = subst (λ v. lookup (eq c.args.key) v.seen ≡ None) (sym c.self.view_is) c.requires.new in
    let d = c.push.new.self in let ts = d.sizes.items in
    let grown = c.push.ensures.sizes ∙ ap (λ l. l ++ numbered c.make_ready.new.self.requests (w + 1) ∷ []) e.sizes
    ∙ ap (λ k. ss ++ numbered k (w + 1) ∷ []) e.requests in
    let requests : d.requests ≡ n + 1 = omega (arith, c.push.ensures.requests, e.requests) in
    let first = c.in-Ok-make_ready.ensures.first in let caps = c.take_new.ensures.capacities ∙ has.capacities in
    let times' = times_by (length f.capacities.items) took.firsts.items took.widths.items took.times.items in
    let made : times' ≡ fetch_times f ++ replicate (length f.capacities.items) c.args.time =
    sym (ap (λ v. times_by (length v.items) took.firsts.items took.widths.items took.times.items) caps) ∙ c.take_new.ensures.times
    ∙ cc (has.times, ap (λ v. replicate (length v.items) c.args.time) has.capacities) in
    let misses = subst (λ v. AreCounted (λ i. false) (length v.items) 1 f.misses.items took.misses.items) has.capacities
    (subst (λ v. AreCounted (λ i. false) (length ready.capacities.items) 1 v.items took.misses.items) has.misses c.take_new.ensures.misses) in
    let sizes = subst (λ v. AreCounted (λ i. false) (length v.items) (w + 1) f.missed_sizes.items took.missed_sizes.items) has.capacities
    (subst (λ v. AreCounted (λ i. false) (length ready.capacities.items) (w + 1) v.items took.missed_sizes.items) has.missed_sizes c.take_new.ensures.missed_sizes) in
    let times = AreFetched-new (length f.capacities.items) c.args.time (fetch_times f) times' made in
    let aligned = AreAligned-new eq laws (length f.capacities.items) s.seen.entries c.args.key (seen_at n c.args.time) (length (fetch_times f))
    c.self.invariant.1 (rows_aligned (length f.capacities.items) (time_at f.firsts.items f.widths.items f.times.items) (length f.firsts.items)) in (
      c.take_new.ensures.blocks,
      rw (c.in_default-insert.ensures.taken, caps, e.requests, first) aligned,
      rw (c.in_default-insert.ensures.taken, requests, caps, c.take_new.ensures.age, has.age, e.requests, first)
          (IsSoundAgedBySize-new eq laws s.seen.entries ss n f.capacities.items f.misses.items f.missed_sizes.items (fetch_times f) f.age s.size s.greatest s.idle
          c.args.key c.args.time s.latest.nodes.items inv
          w c.greater-greatest.result (omega (arith, c.requires.fits, ap (λ v. v.size) c.self.view_is)) ts d.nodes.items
          (subst (λ k. IsSummed ts d.nodes.items k) requests c.push.ensures.kept)
          (omega (arith, grown_less ss ts ts n w (λ t. refl) (λ t. refl) grown, inv.sound.held))
          (λ i. false) took.misses.items took.missed_sizes.items times' misses sizes absent
          (grown_lives ss ts ts n w (λ t. refl) (λ t. refl) grown) times),
    )

pub returns-clause-taken : goal.returns-clause-taken
returns-clause-taken g c weight cs idle age past same_weights before weighs =
    let eq = g.K.PartialEq.eq in let laws = g.met.K.Eq.laws in let s = c.self.inside in let inv = c.self.invariant.2 in
    let ss = s.latest.sizes.items in let n = s.latest.requests in let e = c.make_ready.ensures in let w = c.args.weight in
    let f = s.fetches in let ready = c.make_ready-2.new.self in let has = c.make_ready-2.ensures in let took = c.take_new.new.self in
    let is = subst (λ v. IsSizedAgedPass eq weight cs idle age past v) (sym c.self.view_is) before in
    let absent = subst (λ v. lookup (eq c.args.key) v.seen ≡ None) (sym c.self.view_is) c.requires.new in
    let d = c.push.new.self in let ts = d.sizes.items in
    let grown = c.push.ensures.sizes ∙ ap (λ l. l ++ numbered c.make_ready.new.self.requests (w + 1) ∷ []) e.sizes
    ∙ ap (λ k. ss ++ numbered k (w + 1) ∷ []) e.requests in
    let requests : d.requests ≡ n + 1 = omega (arith, c.push.ensures.requests, e.requests) in
    let first = c.in-Ok-make_ready.ensures.first in let caps = c.take_new.ensures.capacities ∙ has.capacities in
    let times' = times_by (length f.capacities.items) took.firsts.items took.widths.items took.times.items in
    let made : times' ≡ fetch_times f ++ replicate (length f.capacities.items) c.args.time =
    sym (ap (λ v. times_by (length v.items) took.firsts.items took.widths.items took.times.items) caps) ∙ c.take_new.ensures.times
    ∙ cc (has.times, ap (λ v. replicate (length v.items) c.args.time) has.capacities) in
    let misses = subst (λ v. AreCounted (λ i. false) (length v.items) 1 f.misses.items took.misses.items) has.capacities
    (subst (λ v. AreCounted (λ i. false) (length ready.capacities.items) 1 v.items took.misses.items) has.misses c.take_new.ensures.misses) in
    let sizes = subst (λ v. AreCounted (λ i. false) (length v.items) (w + 1) f.missed_sizes.items took.missed_sizes.items) has.capacities
    (subst (λ v. AreCounted (λ i. false) (length ready.capacities.items) (w + 1) v.items took.missed_sizes.items) has.missed_sizes c.take_new.ensures.missed_sizes) in
    let times = AreFetched-new (length f.capacities.items) c.args.time (fetch_times f) times' made in
    rw (c.in_default-insert.ensures.taken, requests, caps, c.take_new.ensures.age, has.age, e.requests, first)
    (IsSizedAgedPass-new eq laws s.seen.entries ss n f.capacities.items f.misses.items f.missed_sizes.items (fetch_times f) f.age s.size s.greatest s.idle
    c.args.key c.args.time s.latest.nodes.items inv weight cs idle age past is same_weights w weighs
    c.greater-greatest.result c.greater-greatest.ensures ts took.misses.items took.missed_sizes.items times' absent
    (grown_totals ss ts ts n w (λ t. refl) (λ t. refl) grown) misses sizes times)

pub returns-clause-size : goal.returns-clause-size
returns-clause-size g c = omega (arith, ap (λ v. v.size) c.self.view_is)
