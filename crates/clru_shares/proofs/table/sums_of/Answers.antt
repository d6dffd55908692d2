use Rattle.std.proofs.Common.{map, ap, ◌∙◌, arith}
use Rattle.std.specs.List.{sum_by}
use Rattle.std.proofs.lemmas.List.{take_all}
use Rattle.clru_shares.specs.Passes.{part_of_row}
use Rattle.clru_shares.proofs.PartLemmas.{sum_more}
use Rattle.clru_shares.proofs.table.sums_of.Goals as goal

pub loop-part-preserved : goal.loop-part-preserved
loop-part-preserved g c =
    let parts = c.args.parts.now in let i = c.loop-part.part-index in let part = c.part-item.result in
    record {
      capacity = omega (arith, c.in-Some-Some-Some.ensures, sum_more (λ p. p.capacity) parts i part c.loop-part-test.true c.part-item.is, c.loop-part.invariant.capacity);
      misses = omega (arith, c.in-Some-Some-Some.ensures', sum_more (λ p. p.misses) parts i part c.loop-part-test.true c.part-item.is, c.loop-part.invariant.misses);
      missed_size = omega (arith, c.in-Some-Some-Some.ensures'', sum_more (λ p. p.missed_size) parts i part c.loop-part-test.true c.part-item.is, c.loop-part.invariant.missed_size);
    }

pub returns-clause-capacity : goal.returns-clause-capacity
returns-clause-capacity g c = c.loop-part.invariant.capacity
    ∙ ap (λ rs. sum_by (λ p. p.capacity) (map part_of_row rs)) (take_all c.loop-part.part-index c.args.parts.now c.loop-part-test.false)

pub returns-clause-misses : goal.returns-clause-misses
returns-clause-misses g c = c.loop-part.invariant.misses
    ∙ ap (λ rs. sum_by (λ p. p.misses) (map part_of_row rs)) (take_all c.loop-part.part-index c.args.parts.now c.loop-part-test.false)

pub returns-clause-missed_size : goal.returns-clause-missed_size
returns-clause-missed_size g c = c.loop-part.invariant.missed_size
    ∙ ap (λ rs. sum_by (λ p. p.missed_size) (map part_of_row rs)) (take_all c.loop-part.part-index c.args.parts.now c.loop-part-test.false)
