use Rattle.std.proofs.Common.{length, ap, arith, refl}
use Rattle.clru_linked_map.proofs.hash_index.HashIndex.new.Goals as goal

pub invariant_of-result : goal.invariant_of-result
invariant_of-result g c =
    let one = ap length c.one_zero.ensures.numbers in
    record {
      sized = omega (arith, one);
      named = omega (arith, one);
      shaped = record { low = 0; high = 63; masked = refl; tagged = refl };
      fits = omega (arith, c.one_zero.ensures.greatest);
      countable = omega arith;
    }
