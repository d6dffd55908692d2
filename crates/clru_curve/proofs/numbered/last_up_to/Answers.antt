use Rattle.std.proofs.Common.{◌≡◌, ◌+◌, ◌/◌, ◌<◌, length, map, inl, inr, ap, arith}
use Rattle.std.proofs.lemmas.Bool.{cases_lt}
use Rattle.std.proofs.lemmas.List.{length-map}
use Rattle.std.proofs.lemmas.Nat.{div-add-mod', mod_below}
use Rattle.clru_curve.specs.Rising.{number_at}
use Rattle.clru_curve.proofs.Rising.{rising_order}
use Rattle.clru_curve.proofs.SizeLists.{number_seen}
use Rattle.clru_curve.proofs.numbered.last_up_to.Goals as goal

pub loop-count-preserved-then-number : goal.loop-count-preserved-then-number
loop-count-preserved-then-number g c =
    let sizes = c.args.values.now in let ss = map g.T.NumberedValue.seen sizes in let all = length-map sizes g.T.NumberedValue.seen in
    let n = c.loop-count.count in let m = c.loop-count.first + n / 2 in
    let whole = div-add-mod' n 2 in let low = mod_below n 2 (omega arith) in
    let before : m < c.loop-count.first + n = omega (arith, whole, low, c.loop-count-test.true) in
    let inside : m < length sizes = omega (arith, before, c.loop-count.invariant.within) in
    let here = number_seen g.T.NumberedValue.seen sizes m _ inside c.index-values-first.is in
    record {
      some = omega (arith, whole, low, c.loop-count-test.true);
      within = omega (arith, whole, low, c.loop-count.invariant.within);
      there = λ i high rising same up_i.
          let is = c.loop-count.invariant.there i high rising same up_i in (
            elim (cases_lt i m) [
              | inl lt ↦
                  let less = rising_order 0 ss high i m rising lt (omega (arith, inside, all)) in
                  absurd (omega (arith, less, same, here, c.number.ensures, c.if-number.true))
              | inr le ↦ le
            ],
            omega (arith, whole, low, is.1),
          );
    }

pub loop-count-preserved : goal.loop-count-preserved
loop-count-preserved g c =
    let sizes = c.args.values.now in let ss = map g.T.NumberedValue.seen sizes in let all = length-map sizes g.T.NumberedValue.seen in
    let n = c.loop-count.count in let m = c.loop-count.first + n / 2 in
    let whole = div-add-mod' n 2 in let low = mod_below n 2 (omega arith) in
    let inside : m < length sizes = omega (arith, whole, low, c.loop-count-test.true, c.loop-count.invariant.within) in
    let here = number_seen g.T.NumberedValue.seen sizes m _ inside c.index-values-first.is in
    record {
      some = omega (arith, whole, low, c.loop-count-test.true);
      within = omega (arith, whole, low, c.loop-count.invariant.within);
      there = λ i high rising same up_i.
          let is = c.loop-count.invariant.there i high rising same up_i in
          let before : i < m = elim (cases_lt i m) [
            | inl lt ↦ lt
            | inr le ↦ elim (cases_lt m i) [
              | inl gt ↦
                  let less = rising_order 0 ss high m i rising gt (omega (arith, up_i, all)) in
                  absurd (omega (arith, less, same, here, c.number.ensures, c.if-number.false))
              | inr ge ↦
                  let same_place : m ≡ i = omega (arith, le, ge) in
                  absurd (omega (arith, ap (number_at ss) same_place, same, here, c.number.ensures, c.if-number.false))
            ]
          ] in
          (is.0, omega (arith, before, whole, low));
    }

pub returns-clause-there : goal.returns-clause-there
returns-clause-there g c i high rising same up_i =
    omega (arith, c.loop-count.invariant.there i high rising same up_i, c.loop-count.invariant.some, c.loop-count-test.false)
