use Rattle.std.proofs.Common.{ℕ, ◌+◌, ◌<◌, Bool, cond, nat_lt, length, get_or, set, refl, sym, subst, arith}
use Rattle.clru_curve.proofs.FetchBlocks.{read_at}
use Rattle.clru_curve.proofs.FetchTables.{AreCounted-hits, AreCounted-more, none_less}
use Rattle.clru_curve.specs.Fetches.{AreCounted}
use Rattle.clru_curve.proofs.fetches.Fetches.miss_from.Goals as goal

pub loop-row-init : goal.loop-row-init
loop-row-init g c = record {
  capacities = refl;
  age = refl;
  firsts = refl;
  widths = refl;
  times = refl;
  narrow = refl;
  from = omega arith;
  misses = AreCounted-hits _ _ _;
  missed_sizes = AreCounted-hits _ _ _;
}

pub loop-row-preserved : goal.loop-row-preserved
loop-row-preserved g c =
    let inv = c.loop-row.invariant in let old = c.args.self.now in let now = c.loop-row.self in let i = c.loop-row.row in
    let hits : ℕ → Bool = λ j. nat_lt j c.args.first in let none = none_less i c.args.first inv.from in
    let in_misses : i < length now.misses.items = omega (arith, c.requires.misses_length, c.loop-row-test.true, inv.misses.same_length) in
    let in_sizes : i < length now.missed_sizes.items = omega (arith, c.requires.missed_length, c.loop-row-test.true, inv.missed_sizes.same_length) in
    let misses = AreCounted-more hits i 1 old.misses.items now.misses.items (omega (arith, c.requires.misses_length, c.loop-row-test.true)) inv.misses in
    let sizes = AreCounted-more hits i c.args.size old.missed_sizes.items now.missed_sizes.items
    (omega (arith, c.requires.missed_length, c.loop-row-test.true)) inv.missed_sizes in
    record {
      capacities = inv.capacities;
      age = inv.age;
      firsts = inv.firsts;
      widths = inv.widths;
      times = inv.times;
      narrow = inv.narrow;
      from = omega (arith, inv.from);
      misses = subst (λ m. AreCounted hits (i + 1) 1 old.misses.items (set now.misses.items i (m + 1)))
          (sym (read_at now.misses.items i c.index_mut.result.now in_misses c.index_mut.ensures.value)) (subst (λ b. AreCounted hits (i + 1) 1 old.misses.items (cond b now.misses.items (set now.misses.items i (get_or now.misses.items i 0 + 1)))) none misses);
      missed_sizes = subst (λ m. AreCounted hits (i + 1) c.args.size old.missed_sizes.items (set now.missed_sizes.items i (m + c.args.size)))
          (sym (read_at now.missed_sizes.items i c.index_mut-in-loop-row.result.now in_sizes c.index_mut-in-loop-row.ensures.value)) (subst (λ b. AreCounted hits (i + 1) c.args.size old.missed_sizes.items
          (cond b now.missed_sizes.items (set now.missed_sizes.items i (get_or now.missed_sizes.items i 0 + c.args.size)))) none sizes);
    }
