use Rattle.std.proofs.Common.{◌≡◌, ◌+◌, cond, length, get_or, set, refl, sym, ap, ◌∙◌, subst, arith}
use Rattle.clru_curve.specs.Fetches.{is_row_hit, AreCounted, AreFetched}
use Rattle.clru_curve.proofs.FetchTables.{AreCounted-none, AreCounted-more, AreFetched-none, AreFetched-more}
use Rattle.clru_curve.proofs.fetches.Fetches.take_rows.Goals as goal

pub loop-row-init : goal.loop-row-init
loop-row-init g c = record {
  capacities = refl;
  age = refl;
  firsts = refl;
  widths = refl;
  narrow = refl;
  misses = AreCounted-none _ _ _;
  missed_sizes = AreCounted-none _ _ _;
  times = AreFetched-none _ _ _ _;
}

pub take_at-requires-clause-row : goal.take_at-requires-clause-row
take_at-requires-clause-row g c = omega (arith, c.requires.width, c.loop-row-test.true, ap (λ v. length v.items) c.loop-row.invariant.capacities)

pub take_at-requires-clause-inside : goal.take_at-requires-clause-inside
take_at-requires-clause-inside g c =
    omega (arith, c.requires.inside, c.loop-row.invariant.times.same_length, c.loop-row-test.true, ap (λ v. length v.items) c.loop-row.invariant.capacities)

pub take_at-requires-clause-misses_length : goal.take_at-requires-clause-misses_length
take_at-requires-clause-misses_length g c =
    omega (arith, c.requires.misses_length, c.loop-row.invariant.misses.same_length, ap (λ v. length v.items) c.loop-row.invariant.capacities)

pub take_at-requires-clause-missed_length : goal.take_at-requires-clause-missed_length
take_at-requires-clause-missed_length g c =
    omega (arith, c.requires.missed_length, c.loop-row.invariant.missed_sizes.same_length, ap (λ v. length v.items) c.loop-row.invariant.capacities)

pub take_at-requires-clause-few : goal.take_at-requires-clause-few
take_at-requires-clause-few g c = omega (arith, c.requires.few c.loop-row.row, c.loop-row.invariant.misses.rest c.loop-row.row (omega arith))

pub take_at-requires-clause-small : goal.take_at-requires-clause-small
take_at-requires-clause-small g c = omega (arith, c.requires.small c.loop-row.row, c.loop-row.invariant.missed_sizes.rest c.loop-row.row (omega arith))

pub loop-row-preserved : goal.loop-row-preserved
loop-row-preserved g c =
    let inv = c.loop-row.invariant in let old = c.args.self.now in let now = c.loop-row.self in let e = c.take_at.ensures in
    let i = c.loop-row.row in let f = c.args.first in
    let hits = is_row_hit c.args.soon c.args.span c.args.time old.age f old.capacities.items old.times.items in
    let here : get_or now.times.items (f + i) 0 ≡ get_or old.times.items (f + i) 0 = inv.times.above (f + i) (omega arith) in
    let same : is_row_hit c.args.soon c.args.span c.args.time now.age f now.capacities.items now.times.items i ≡ hits i =
    rw (inv.capacities, inv.age, here) refl in
    record {
      capacities = e.capacities ∙ inv.capacities;
      age = e.age ∙ inv.age;
      firsts = e.firsts ∙ inv.firsts;
      widths = e.widths ∙ inv.widths;
      narrow = e.narrow ∙ inv.narrow;
      misses = subst (λ l. AreCounted hits (i + 1) 1 old.misses.items l)
          (sym (e.misses ∙ ap (λ b. cond b now.misses.items (set now.misses.items i (get_or now.misses.items i 0 + 1))) same))
          (AreCounted-more hits i 1 old.misses.items now.misses.items
          (omega (arith, c.requires.width, c.requires.misses_length, c.loop-row-test.true, ap (λ v. length v.items) inv.capacities)) inv.misses);
      missed_sizes = subst (λ l. AreCounted hits (i + 1) c.args.size old.missed_sizes.items l)
          (sym (e.missed_sizes ∙ ap (λ b. cond b now.missed_sizes.items (set now.missed_sizes.items i (get_or now.missed_sizes.items i 0 + c.args.size))) same))
          (AreCounted-more hits i c.args.size old.missed_sizes.items now.missed_sizes.items
          (omega (arith, c.requires.width, c.requires.missed_length, c.loop-row-test.true, ap (λ v. length v.items) inv.capacities)) inv.missed_sizes);
      times = subst (λ l. AreFetched hits (i + 1) f c.args.time old.times.items l)
          (sym (e.times ∙ ap (λ b. cond b now.times.items (set now.times.items (f + i) c.args.time)) same))
          (AreFetched-more hits i f c.args.time old.times.items now.times.items
          (omega (arith, c.requires.inside, c.loop-row-test.true, ap (λ v. length v.items) inv.capacities)) inv.times);
    }
