use Rattle.std.proofs.Common.{◌≡◌, suc, ◌+◌, map, ap, arith}
use Rattle.clru_curve.specs.LatestSizes.{sizes_from}
use Rattle.clru_curve.proofs.LatestSizes.{sizes_step}
use Rattle.clru_curve.proofs.SizeLists.{value_seen}
use Rattle.clru_curve.proofs.sized.size_list.sum_between.Goals as goal

pub overflow_add-sum : goal.overflow_add-sum
overflow_add-sum g c =
    let seen = g.T.NumberedValue.seen in let at = c.loop-at.at in
    let here = value_seen seen c.args.sizes.now at _ (omega (arith, c.loop-at-test.true, c.requires.inside)) c.index-sizes-at.is in
    omega (arith, c.value-sum.ensures, here, c.loop-at.invariant.sum, sizes_step (map seen c.args.sizes.now) at, c.requires.fits)

pub loop-at-preserved : goal.loop-at-preserved
loop-at-preserved g c =
    let seen = g.T.NumberedValue.seen in let ss = map seen c.args.sizes.now in
    let at = c.loop-at.at in let next : at + 1 ≡ suc at = omega arith in
    let here = value_seen seen c.args.sizes.now at _ (omega (arith, c.loop-at-test.true, c.requires.inside)) c.index-sizes-at.is in
    record {
      within = omega (arith, c.loop-at-test.true);
      sum = omega (arith, c.value-sum.ensures, here, c.loop-at.invariant.sum, sizes_step ss at, ap (sizes_from ss) next);
    }

pub returns : goal.returns
returns g c =
    let last : c.loop-at.at ≡ c.args.end = omega (arith, c.loop-at-test.false, c.loop-at.invariant.within) in
    omega (arith, c.loop-at.invariant.sum, ap (sizes_from (map g.T.NumberedValue.seen c.args.sizes.now)) last)
