use Rattle.std.proofs.Common.{◌≡◌, ℕ, ◌+◌, List, [], drop, nat_eq}
use Rattle.std.specs.HashMap.{get}
use Rattle.std.specs.List.{zip}
use Rattle.clru_c.specs.OneSize.{came_otherwise, first_other, is_another}
use Rattle.clru_c.proofs.one_size.first_of_another_size.Given as goal

-- of the objects so far no key came with another size
abbrev pub invariant-loop-index : goal.invariant-loop-index
invariant-loop-index g l = (past : List (ℕ × ℕ))
    × ((p : ℕ × ℕ) → came_otherwise past p ≡ is_another (get nat_eq l.held p.0) p.1)
    × (first_other [] (zip l.keys l.sizes) ≡ l.index + first_other past (drop l.index (zip l.keys l.sizes)))
