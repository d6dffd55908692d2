use Rattle.std.proofs.Common.{◌+◌, ◌/◌, ◌<◌, ◌≤◌, length, arith}
use Rattle.std.proofs.lemmas.List.{get_or_read}
use Rattle.clru_curve.specs.LatestSizes.{full_from}
use Rattle.clru_curve.proofs.LatestSizes.{sizes_none, sizes_few, full_few, full_open}
use Rattle.clru_curve.proofs.sized.sizes.Sizes.sum_from.Goals as goal

pub sum_of_rest-requires-clause-fits : goal.sum_of_rest-requires-clause-fits
sum_of_rest-requires-clause-fits g c = omega (arith, sizes_few c.args.self.now.sizes.items c.args.at, c.requires.fits)

pub count_from-requires-clause-counted : goal.count_from-requires-clause-counted
count_from-requires-clause-counted g c =
    let self = c.args.self.now in let ss = self.sizes.items in (
      full_from ss,
      (
        rw c.deref.ensures.value c.requires.kept.sums.counted,
        omega (arith, full_few ss (c.args.at / 8 + 1), c.requires.fits),
      ),
    )

pub overflow_add-result : goal.overflow_add-result
overflow_add-result g c =
    let self = c.args.self.now in let ss = self.sizes.items in let block = c.args.at / 8 + 1 in
    let rest = c.count_from.ensures (full_from ss) (rw c.deref.ensures.value c.requires.kept.sums.counted) in
    let within : block ≤ length ss / 8 = omega (arith, c.if-block-len.true, c.len.ensures) in
    omega (arith, c.sum_of_rest.ensures, rest, full_open ss block within, sizes_few ss c.args.at, c.requires.fits)

pub returns-then-block-len : goal.returns-then-block-len
returns-then-block-len g c =
    let self = c.args.self.now in let ss = self.sizes.items in let block = c.args.at / 8 + 1 in
    let rest = c.count_from.ensures (full_from ss) (rw c.deref.ensures.value c.requires.kept.sums.counted) in
    let within : block ≤ length ss / 8 = omega (arith, c.if-block-len.true, c.len.ensures) in
    let some : 0 < length self.nodes.items = omega (arith, c.requires.kept.covers, c.requires.before) in
    let last = get_or_read self.nodes.items 0 c.index.result.now some c.index.ensures 0 in
    omega (arith, c.sum_of_rest.ensures, rest, full_open ss block within, last, c.requires.kept.sums.first)

pub overflow_add-result-then-block-len : goal.overflow_add-result-then-block-len
overflow_add-result-then-block-len g c =
    omega (arith, returns-then-block-len g c, sizes_few c.args.self.now.sizes.items c.args.at, c.requires.fits)

pub sum_between-requires-clause-fits : goal.sum_between-requires-clause-fits
sum_between-requires-clause-fits g c = omega (arith, sizes_few c.args.self.now.sizes.items c.args.at, c.requires.fits)

pub returns-else-block-len : goal.returns-else-block-len
returns-else-block-len g c =
    omega (arith, c.sum_between.ensures, sizes_none c.args.self.now.sizes.items c.len-else-block-len.result (omega (arith, c.len-else-block-len.ensures)))
