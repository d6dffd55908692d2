use Rattle.std.proofs.Common.{◌≡◌, suc, length, nat_eq}
use Rattle.clru_model.specs.Requests.{misses}
use Rattle.clru_c.specs.Arrays.{AreBelow}
use Rattle.clru_c.proofs.arrays.misses_by_capacity.Given as goal

abbrev pub invariant-loop-index : goal.invariant-loop-index
invariant-loop-index g l = (length l.missed ≡ length l.fn.missed)
    × AreBelow (λ i n. n ≡ misses nat_eq (suc i) l.keys) l.missed l.index
