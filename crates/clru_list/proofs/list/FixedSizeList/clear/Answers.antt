use Rattle.std.proofs.Common.{None, get_or, map, refl, ap, arith, []}
use Rattle.clru_list.proofs.NodeLemmas.{place_by-none}
use Rattle.clru_list.proofs.Soundness.{sound-empty}
use Rattle.clru_list.proofs.Pointing.{pointed-none}
use Rattle.clru_list.proofs.list.FixedSizeList.clear.Goals as goal

pub invariant_of-self : goal.invariant_of-self
invariant_of-self g c =
    let e = c.clear.ensures in (
      (
        [],
        sound-empty _ _ _ _ place_by-none place_by-none (λ k. ap (λ ns. get_or (map (λ n. n.item) ns) k None) e.items) refl e.len
            (omega (arith, c.self.invariant.0.1.reserved, e.capacity)) (omega (arith, c.clear.new.self.small)),
      ),
      pointed-none [] _ c.clear-2.ensures,
    )
