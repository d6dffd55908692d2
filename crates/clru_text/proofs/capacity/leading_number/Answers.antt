use Rattle.std.proofs.Common.{◌≡◌, ◌+◌, ◌*◌, ◌^◌, ◌≤◌, true, add-one, get_or, refl, sym, ◌∙◌, arith, lit<}
use Rattle.std.proofs.Math.Nat.{pow-le-pow_right, pow-suc}
use Rattle.std.proofs.lemmas.Int.Digits.{digits_value_more}
use Rattle.std.proofs.lemmas.Str.{digit_value_digit}
use Rattle.std.proofs.lemmas.List.Folds.{list_all_more}
use Rattle.std.specs.Char.{is_ascii_digit}
use Rattle.clru_text.proofs.capacity.leading_number.Goals as goal

pub returns-then-at-eq-FEW_DIGITS-clause-below : goal.returns-then-at-eq-FEW_DIGITS-clause-below
returns-then-at-eq-FEW_DIGITS-clause-below c =
    let most : 10 ^ c.loop-at.at ≤ 10 ^ 18 = pow-le-pow_right (lit< tt) c.loop-at.invariant.few in
    omega (arith, most, c.loop-at.invariant.below)

pub returns-clause-below : goal.returns-clause-below
returns-clause-below c =
    let most : 10 ^ c.loop-at.at ≤ 10 ^ 18 = pow-le-pow_right (lit< tt) c.loop-at.invariant.few in
    omega (arith, most, c.loop-at.invariant.below)

pub overflow_mul-value : goal.overflow_mul-value
overflow_mul-value c =
    let most : 10 ^ c.loop-at.at ≤ 10 ^ 18 = pow-le-pow_right (lit< tt) c.loop-at.invariant.few in
    omega (arith, most, c.loop-at.invariant.below)

pub overflow_add-value : goal.overflow_add-value
overflow_add-value c =
    let most : 10 ^ c.loop-at.at ≤ 10 ^ 18 = pow-le-pow_right (lit< tt) c.loop-at.invariant.few in
    omega (arith, most, c.loop-at.invariant.below)

pub loop-at-preserved : goal.loop-at-preserved
loop-at-preserved c =
    let at = c.loop-at.at in let bs = c.args.bytes.now in
    let digit : is_ascii_digit (get_or bs at 0) ≡ true = sym c.is_ascii_digit.ensures.value ∙ c.if-not-is_ascii_digit.false in
    let next = digits_value_more 10 bs at c.loop-at-test.true in
    let more : 10 ^ (at + 1) ≡ 10 ^ at * 10 = rw add-one (pow-suc 10 at) in
    let range = c.if-not-is_ascii_digit.ensures.cases in
    let value = digit_value_digit (get_or bs at 0) range in
    record {
      few = omega arith;
      below = omega (arith, more, value, range, c.loop-at.invariant.below);
      digits = list_all_more is_ascii_digit bs at 0 c.loop-at-test.true ∙ rw (c.loop-at.invariant.digits, digit) refl;
      is = omega (arith, next, value, range, c.loop-at.invariant.is);
    }
