use Rattle.std.proofs.Common.{◌^◌, ◌<◌, length, sym, subst, arith}
use Rattle.clru_log.proofs.DecimalLemmas.{below_a_second, named_below}
use Rattle.clru_log.proofs.date.time_with_decimals.Goals as goal

pub time_in_zone-requires-clause-part : goal.time_in_zone-requires-clause-part
time_in_zone-requires-clause-part c =
    let decimals = c.args.decimals.now in let part = c.in_ok-part.part in
    subst (λ m. m < 10 ^ 6) (sym c.millionths_of.ensures.value) (below_a_second part (length decimals) (named_below decimals part (sym c.in_ok-part.ensures.value)))

pub overflow_cast-millionths_of : goal.overflow_cast-millionths_of
overflow_cast-millionths_of c =
    let decimals = c.args.decimals.now in let part = c.in_ok-part.part in
    let small : c.millionths_of.result < 10 ^ 6 = subst (λ m. m < 10 ^ 6) (sym c.millionths_of.ensures.value)
    (below_a_second part (length decimals) (named_below decimals part (sym c.in_ok-part.ensures.value))) in
    omega (arith, small)
