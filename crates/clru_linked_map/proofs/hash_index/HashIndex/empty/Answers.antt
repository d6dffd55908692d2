use Rattle.std.proofs.Common.{◌+◌, ◌-◌, length, ap, ◌∙◌, arith, inl, inr}
use Rattle.std.proofs.lemmas.Bool.{cases_Bool}
use Rattle.std.proofs.lemmas.List.{length-replicate, length-take-le}
use Rattle.clru_list.specs.Packed.{greatest_by}
use Rattle.clru_linked_map.proofs.BucketLists.{none_led}
use Rattle.clru_linked_map.proofs.Numbers.{shaped_from}
use Rattle.clru_linked_map.proofs.hash_index.HashIndex.empty.Goals as goal

pub invariant_of-result : goal.invariant_of-result
invariant_of-result g c =
    let size = c.in-Some.size in let tags = c.tags_above.result in let words = c.in_ok-words.ensures in
    let len = ap length words.numbers ∙ length-replicate c.in-Some-checked_add.len 0 in
    let sum = c.in-Some-checked_add.ensures in let enough = c.in-Some.ensures.enough in let some = c.if-places-eq0.false in
    let power = c.in-Some.ensures.least.0 in
    elim (cases_Bool c.fits_narrow-is_narrow.result) [
      | inl t ↦
          let all = c.tags_above.ensures.narrow t in let bound = words.greatest ∙ ap greatest_by t in
          record {
            sized = omega (arith, len, sum, enough, some);
            named = omega (arith, len, sum, enough, some);
            shaped = shaped_from size tags 31 power all;
            fits = omega (arith, all, bound, enough, some);
            countable = omega (arith, all, enough, some);
          }
      | inr f ↦
          let all = c.tags_above.ensures.wide f in let bound = words.greatest ∙ ap greatest_by f in
          record {
            sized = omega (arith, len, sum, enough, some);
            named = omega (arith, len, sum, enough, some);
            shaped = shaped_from size tags 63 power all;
            fits = omega (arith, all, bound, enough, some);
            countable = omega (arith, all, enough, some);
          }
    ]

pub returns-clause-free : goal.returns-clause-free
returns-clause-free g c = rw c.in_ok-words.ensures.numbers (λ h. none_led (c.in-Some.size - 1 + 1) c.in-Some-checked_add.len h)

pub returns-clause-narrow : goal.returns-clause-narrow
returns-clause-narrow g c = λ some below few.
    let size = c.in-Some.size in let words = c.in_ok-words.words.numbers in let sum = c.in-Some-checked_add.ensures in
    let len = ap length c.in_ok-words.ensures.numbers ∙ length-replicate c.in-Some-checked_add.len 0 in
    let firsts = length-take-le (size - 1 + 1) words (omega (arith, len, sum, c.in-Some.ensures.enough, some)) in
    elim (cases_Bool c.fits_narrow-is_narrow.result) [
      | inl t ↦ omega (arith, c.tags_above.ensures.narrow t, firsts, c.in-Some.ensures.enough, some)
      | inr f ↦ omega (arith, c.fits_narrow-is_narrow.ensures.wide f below, firsts, few, c.in-Some.ensures.enough, some)
    ]
