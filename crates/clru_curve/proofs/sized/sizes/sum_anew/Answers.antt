use Rattle.std.proofs.Common.{◌≡◌, ◌*◌, ◌/◌, length, take, ap, ◌∙◌, arith}
use Rattle.std.proofs.lemmas.List.{get_or-set_same}
use Rattle.clru_curve.specs.LatestSizes.{sizes_from, full_from}
use Rattle.clru_curve.proofs.Counted.{IsCounted-first, IsCounted-same}
use Rattle.clru_curve.proofs.LatestSizes.{sizes_few, sizes_none, blocks_take, full_take, take_fits}
use Rattle.clru_curve.proofs.sized.sizes.sum_anew.Goals as goal

pub sum_between-requires-clause-fits : goal.sum_between-requires-clause-fits
sum_between-requires-clause-fits g c = omega (arith, sizes_few c.args.sizes.now.items c.loop-at.at, c.requires.fits)

pub add_at-requires-clause-counted : goal.add_at-requires-clause-counted
add_at-requires-clause-counted g c =
    let ss = c.args.sizes.now.items in let at = c.loop-at.at in let end = c.min-end.result in (
      λ j. sizes_from (take at ss) (8 * j),
      (
        c.loop-at.invariant.counted,
        λ j. omega (arith, take_fits ss at end c.sum_between.result (omega arith) (omega arith) c.sum_between.ensures j, c.requires.fits),
      ),
    )

pub loop-at-preserved : goal.loop-at-preserved
loop-at-preserved g c =
    let ss = c.args.sizes.now.items in let at = c.loop-at.at in let end = c.min-end.result in
    record {
      within = omega arith;
      same = c.add_at.ensures.length ∙ c.loop-at.invariant.same;
      counted = IsCounted-same _ _ c.add_at.new.nodes
          (blocks_take ss at end c.sum_between.result (omega arith) (omega arith) c.sum_between.ensures)
          (c.add_at.ensures.counted (λ j. sizes_from (take at ss) (8 * j)) c.loop-at.invariant.counted);
    }

pub sum_between-requires-2-clause-fits : goal.sum_between-requires-2-clause-fits
sum_between-requires-2-clause-fits g c = omega (arith, sizes_few c.args.sizes.now.items (c.len.result / 8 * 8), c.requires.fits)

pub returns-clause-sums : goal.returns-clause-sums
returns-clause-sums g c =
    let ss = c.args.sizes.now.items in let nodes = c.loop-at.nodes in let sum = c.sum_between-2.result in
    let turn : c.len.result / 8 * 8 ≡ 8 * (length ss / 8) = omega (arith, ap (λ n. n / 8) c.len.ensures) in
    let full : c.loop-at.at ≡ 8 * (length ss / 8) = omega (arith, c.loop-at-test.false, c.loop-at.invariant.within, turn) in
    record {
      counted = IsCounted-first (full_from ss) nodes sum (IsCounted-same _ _ nodes
          (λ j. ap (λ at. sizes_from (take at ss) (8 * j)) full ∙ full_take ss j) c.loop-at.invariant.counted);
      first = get_or-set_same nodes 0 sum 0 (omega (arith, c.requires.some, c.loop-at.invariant.same, c.fill.ensures.len))
          ∙ omega (arith, c.sum_between-2.ensures, sizes_none ss c.len-2.result (omega (arith, c.len-2.ensures)), ap (sizes_from ss) turn);
    }
