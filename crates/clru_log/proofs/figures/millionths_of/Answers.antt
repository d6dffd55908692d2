use Rattle.std.proofs.Common.{◌-◌, ◌*◌, ◌^◌, ◌≤◌, arith, lit<}
use Rattle.std.proofs.Math.Nat.{mul-le-mul_left, one-le-pow, pow-le-pow_right}
use Rattle.clru_log.proofs.figures.millionths_of.Goals as goal

pub nonzero_div-result : goal.nonzero_div-result
nonzero_div-result c = omega (arith, c.pow.ensures, one-le-pow (c.args.places - 6) 10 (lit< tt))

pub returns-then-places-le6-clause-below : goal.returns-then-places-le6-clause-below
returns-then-places-le6-clause-below c =
    let low : 6 - c.args.places ≤ 6 = omega arith in
    let few : 10 ^ (6 - c.args.places) ≤ 10 ^ 6 = pow-le-pow_right (lit< tt) low in
    let most : c.args.part * c.power_of_ten.result ≤ c.args.part * 10 ^ 6 = mul-le-mul_left c.args.part (omega (arith, c.power_of_ten.ensures, few)) in
    omega (arith, most, c.requires.below)
