use Rattle.std.proofs.Common.{rules, ◌∙◌, arith}
use Rattle.std.specs.List.{zip}
use Rattle.clru_c.proofs.Objects.{of_objects, are_misses}
use Rattle.clru_c.proofs.sized.misses_by_size.Goals as goal

pub returns-then-has_within-clause-codes : goal.returns-then-has_within-clause-codes
returns-then-has_within-clause-codes g c =
    let is = of_objects _ _ c.in-Ok-curve_of.curve (c.deref.ensures.value ∙ c.in-Ok.ensures.objects) c.in-Ok-curve_of.ensures.curve in
    let greatest = c.greatest_weight.ensures ∙ is.greatest_weight in
    record {
      arguments = search rules;
      too_large = search rules;
      not_too_large = search rules;
      too_small = λ _. let (i, inside, at) = c.has_within.ensures.some c.if-has_within.true in (i, inside, omega (arith, at, greatest));
      small_alone = search rules;
      none_too_small = search rules;
      known = search rules;
    }

pub returns-clause-misses : goal.returns-clause-misses
returns-clause-misses g c =
    let is = of_objects _ _ c.in-Ok-curve_of.curve (c.deref.ensures.value ∙ c.in-Ok.ensures.objects) c.in-Ok-curve_of.ensures.curve in
    λ _. are_misses (zip c.args.keys.now c.args.sizes.now) c.args.capacities.now c.write_misses.new.missed c.write_misses.new.lost
    c.distinct_size.result c.in-Ok-curve_of.curve is c.write_misses.ensures.misses c.write_misses.ensures.lost c.distinct_size.ensures

pub returns-clause-codes : goal.returns-clause-codes
returns-clause-codes g c =
    let is = of_objects _ _ c.in-Ok-curve_of.curve (c.deref.ensures.value ∙ c.in-Ok.ensures.objects) c.in-Ok-curve_of.ensures.curve in
    let greatest = c.greatest_weight.ensures ∙ is.greatest_weight in
    record {
      arguments = search rules;
      too_large = search rules;
      not_too_large = search rules;
      too_small = search rules;
      small_alone = search rules;
      none_too_small = λ _ i inside. omega (arith, c.has_within.ensures.none c.if-has_within.false i inside, greatest);
      known = search rules;
    }
