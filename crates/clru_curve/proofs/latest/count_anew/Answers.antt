use Rattle.std.proofs.Common.{◌≡◌, suc, ◌+◌, take, ◌∙◌, subst, arith}
use Rattle.clru_curve.specs.Latest.{blocks_from}
use Rattle.clru_curve.specs.Tree.{IsCounted}
use Rattle.clru_curve.proofs.Blocks.{blocks_from_take, take_fits}
use Rattle.clru_curve.proofs.Counted.{IsCounted-same}
use Rattle.clru_curve.proofs.latest.count_anew.Goals as goal

pub add_at-requires-clause-counted : goal.add_at-requires-clause-counted
add_at-requires-clause-counted c =
    let bs = c.args.blocks.now in let i = c.loop-at.at in (
      blocks_from (take i bs),
      (c.loop-at.invariant.counted, λ j. omega (arith, take_fits bs i (omega (arith, c.loop-at-test.true)) j, c.requires.few)),
    )

pub loop-at-preserved : goal.loop-at-preserved
loop-at-preserved c =
    let bs = c.args.blocks.now in let i = c.loop-at.at in
    let one : suc i ≡ i + 1 = omega arith in
    record {
      same = c.add_at.ensures.length ∙ c.loop-at.invariant.same;
      counted = subst (λ k. IsCounted (blocks_from (take k bs)) c.add_at.new.nodes) one
          (IsCounted-same _ _ c.add_at.new.nodes (λ j. blocks_from_take bs i (omega (arith, c.loop-at-test.true)) j)
          (c.add_at.ensures.counted (blocks_from (take i bs)) c.loop-at.invariant.counted));
    }
