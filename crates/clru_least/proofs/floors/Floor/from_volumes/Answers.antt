use Rattle.std.proofs.Common.{refl, sym, ap, length, ◌∙◌, subst, arith}
use Rattle.std.proofs.lemmas.List.Sorted.{IsNonDecreasingBy-from_sort, length_permutation}
use Rattle.clru_least.proofs.Sums.{sums_rise, written_back}
use Rattle.clru_least.specs.FloorNumbers.{AreSums}
use Rattle.clru_least.proofs.floors.Floor.from_volumes.Goals as goal

pub invariant_of-result : goal.invariant_of-result
invariant_of-result g c =
    let sorted = c.sort_unstable.new.self in
    let same = length_permutation c.args.volumes.items sorted.items c.sort_unstable.ensures.permutation in
    rw (written_back c.sum_up.new.numbers sorted.items sorted.len (c.sum_up.ensures.same_length ∙ c.deref_mut.ensures.len)) (
      sums_rise c.deref_mut.result.now c.sum_up.new.numbers c.sum_up.ensures,
      omega (arith, c.sum_up.ensures.same_length, ap (λ l. length l) c.deref_mut.ensures.value, same, c.requires.few),
    )

pub returns : goal.returns
returns g c =
    let sorted = c.sort_unstable.new.self in
    let back = written_back c.sum_up.new.numbers sorted.items sorted.len (c.sum_up.ensures.same_length ∙ c.deref_mut.ensures.len) in
    record {
      sorted = sorted.items;
      permutation = c.sort_unstable.ensures.permutation;
      rising = IsNonDecreasingBy-from_sort (λ v. v) sorted.items c.sort_unstable.ensures.sorted;
      sums = subst (λ l. AreSums sorted.items l) (sym back)
          (subst (λ l. AreSums l c.sum_up.new.numbers) c.deref_mut.ensures.value c.sum_up.ensures);
      requests_in_all = refl;
    }
