use Rattle.std.proofs.Common.{◌≡◌, suc, ◌+◌, map, ap, inl, inr, arith}
use Rattle.std.proofs.lemmas.Bool.{cases_lt}
use Rattle.clru_curve.specs.LatestSizes.{sizes_from}
use Rattle.clru_curve.proofs.LatestSizes.{sizes_step}
use Rattle.clru_curve.proofs.sized.size_list.sum_of_rest.Goals as goal

pub overflow_add-sum : goal.overflow_add-sum
overflow_add-sum g c =
    let at = c.args.at in let place = c.loop-place.place in
    let all = sizes_step (map g.T.NumberedValue.seen c.args.sizes.now) place in
    elim (cases_lt place at) [
      | inl lt ↦ omega (arith, c.size_behind-sum.ensures.before lt, c.loop-place.invariant.before (omega (arith, lt)))
      | inr ge ↦ omega (arith, c.size_behind-sum.ensures.behind ge, c.loop-place.invariant.behind ge, all, c.requires.fits)
    ]

pub loop-place-preserved : goal.loop-place-preserved
loop-place-preserved g c =
    let ss = map g.T.NumberedValue.seen c.args.sizes.now in let at = c.args.at in let place = c.loop-place.place in let next : place + 1 ≡ suc place = omega arith in
    record {
      before = λ le. omega (arith, c.size_behind-sum.ensures.before (omega (arith, le)), c.loop-place.invariant.before (omega (arith, le)));
      behind = λ ge. elim (cases_lt place at) [
        | inl lt ↦
            let here : place + 1 ≡ at = omega (arith, lt, ge) in
            omega (
              arith,
              c.size_behind-sum.ensures.before lt,
              c.loop-place.invariant.before (omega (arith, lt)),
              ap (sizes_from ss) here,
            )
        | inr le ↦ omega (
          arith,
          c.size_behind-sum.ensures.behind le,
          c.loop-place.invariant.behind le,
          sizes_step ss place,
          ap (sizes_from ss) next,
        )
      ];
    }
