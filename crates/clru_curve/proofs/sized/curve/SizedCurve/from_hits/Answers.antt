use Rattle.std.proofs.Common.{refl, sym, ap, length, ◌∙◌, subst, arith, rules}
use Rattle.std.proofs.lemmas.List.Sorted.{IsNonDecreasingBy-from_sort_by_key, length_permutation}
use Rattle.std.specs.List.Sorted.{IsNonDecreasingBy}
use Rattle.clru_curve.proofs.Latests.{written_back}
use Rattle.clru_curve.proofs.SizedCurves.{missed_falls, steps_rise}
use Rattle.clru_curve.specs.SizedCurves.{IsMissed}
use Rattle.clru_curve.proofs.sized.curve.SizedCurve.from_hits.Goals as goal

pub invariant_of-result : goal.invariant_of-result
invariant_of-result g c =
    let sorted = c.sort_unstable_by_key.new.self in
    let rising = IsNonDecreasingBy-from_sort_by_key (λ h. h.capacity) sorted.items c.sort_unstable_by_key.ensures.sorted (λ a r q k. search rules) in
    let same = length_permutation c.args.hits.items sorted.items c.sort_unstable_by_key.ensures.permutation in
    rw (written_back c.miss_sizes.new.hits sorted.items sorted.len (c.miss_sizes.ensures.same_length ∙ c.deref_mut.ensures.len)) (
      steps_rise c.args.size c.deref_mut.result.now c.miss_sizes.new.hits c.miss_sizes.ensures
          (subst (λ l. IsNonDecreasingBy (λ h. h.capacity) l) (sym c.deref_mut.ensures.value) rising),
      omega (arith, c.miss_sizes.ensures.same_length, ap (λ l. length l) c.deref_mut.ensures.value, same, c.requires.few),
      missed_falls c.args.size c.deref_mut.result.now c.miss_sizes.new.hits c.miss_sizes.ensures,
    )

pub returns : goal.returns
returns g c =
    let sorted = c.sort_unstable_by_key.new.self in
    let back = written_back c.miss_sizes.new.hits sorted.items sorted.len (c.miss_sizes.ensures.same_length ∙ c.deref_mut.ensures.len) in
    record {
      sorted = sorted.items;
      permutation = c.sort_unstable_by_key.ensures.permutation;
      rising = IsNonDecreasingBy-from_sort_by_key (λ h. h.capacity) sorted.items c.sort_unstable_by_key.ensures.sorted (λ a r q k. search rules);
      steps = subst (λ l. IsMissed c.args.size sorted.items l) (sym back)
          (subst (λ l. IsMissed c.args.size l c.miss_sizes.new.hits) c.deref_mut.ensures.value c.miss_sizes.ensures);
      requests_in_all = refl;
      size_in_all = refl;
      distinct_size_in_all = refl;
      greatest = refl;
    }
