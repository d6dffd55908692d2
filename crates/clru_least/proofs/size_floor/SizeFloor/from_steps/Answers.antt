use Rattle.std.proofs.Common.{◌≤◌, refl, sym, ◌∙◌, subst, arith, rules}
use Rattle.std.proofs.lemmas.List.Sorted.{All-permutation, IsNonDecreasingBy-from_sort_by_key, sum_by-IsPermutation}
use Rattle.clru_least.proofs.Sums.{written_back}
use Rattle.clru_least.specs.FloorNumbers.{AreSteps}
use Rattle.clru_least.proofs.size_floor.SizeFloor.from_steps.Goals as goal

pub invariant_of-result : goal.invariant_of-result
invariant_of-result g c =
    let sorted = c.sort_unstable_by_key.new.self in
    rw (written_back c.add_up.new.steps sorted.items sorted.len (c.add_up.ensures.same_length ∙ c.deref_mut.ensures.len)) (record {
      own = sorted.items;
      gaps = All-permutation (λ s. 1 ≤ s.gap) c.args.steps.items sorted.items c.sort_unstable_by_key.ensures.permutation c.requires.gaps;
      summed = subst (λ l. AreSteps l c.add_up.new.steps) c.deref_mut.ensures.value c.add_up.ensures;
      sizes = omega (arith, sum_by-IsPermutation (λ s. s.size) c.args.steps.items sorted.items c.sort_unstable_by_key.ensures.permutation, c.requires.sizes);
    })

pub returns : goal.returns
returns g c =
    let sorted = c.sort_unstable_by_key.new.self in
    let back = written_back c.add_up.new.steps sorted.items sorted.len (c.add_up.ensures.same_length ∙ c.deref_mut.ensures.len) in
    record {
      own = sorted.items;
      permutation = c.sort_unstable_by_key.ensures.permutation;
      rising = IsNonDecreasingBy-from_sort_by_key (λ s. s.gap) sorted.items c.sort_unstable_by_key.ensures.sorted (λ a r q k. search rules);
      summed = subst (λ l. AreSteps sorted.items l) (sym back)
          (subst (λ l. AreSteps l c.add_up.new.steps) c.deref_mut.ensures.value c.add_up.ensures);
      requests_in_all = refl;
      size_in_all = refl;
    }
