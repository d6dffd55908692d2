use Rattle.std.proofs.Common.{◌≡◌, ◌≢◌, suc, ◌+◌, ◌-◌, ◌<◌, length, take, get_or, set, inl, inr, ap, subst, arith, get_or-set_other, get_or-set_same}
use Rattle.std.proofs.lemmas.Bool.{cases_lt}
use Rattle.std.specs.Prelude.{sum}
use Rattle.clru_curve.proofs.Histograms.{sum-take-suc}
use Rattle.clru_curve.proofs.pass.misses_of.Goals as goal

pub overflow_sub-misses : goal.overflow_sub-misses
overflow_sub-misses c =
    let i = c.loop-count.count-index in let old = c.args.histogram.now in
    omega (arith, c.loop-count.invariant.rest i (omega arith), c.loop-count.invariant.left, c.requires.within (suc i), sum-take-suc old i)

pub loop-count-preserved : goal.loop-count-preserved
loop-count-preserved c =
    let i = c.loop-count.count-index in let old = c.args.histogram.now in let h = c.loop-count.histogram in
    let v = c.loop-count.misses - get_or h i 0 in
    let here = c.loop-count.invariant.rest i (omega arith) in
    let left = c.loop-count.invariant.left in
    let fits = overflow_sub-misses c in
    let more = sum-take-suc old i in
    let next : i + 1 ≡ suc i = omega arith in
    let inside : i < length h = omega (arith, c.loop-count-test.true, c.loop-count.auto.histogram) in
    record {
      left = omega (arith, here, left, fits, more, ap (λ k. sum (take k old)) next);
      rest = λ j far. let ne : j ≢ i = omega arith in
          omega (arith, get_or-set_other h i j v 0 ne, c.loop-count.invariant.rest j (omega arith));
      done = λ j below. elim (cases_lt j i) [
        | inl lt ↦ let ne : j ≢ i = omega arith in
            omega (arith, get_or-set_other h i j v 0 ne, c.loop-count.invariant.done j lt)
        | inr ge ↦ let same : i ≡ j = omega arith in
            subst (λ k. get_or (set h i v) k 0 + sum (take (suc k) old) ≡ c.args.requests) same
            (omega (arith, get_or-set_same h i v 0 inside, here, left, fits, more))
      ];
    }
