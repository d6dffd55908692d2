-- The halves of links, by place. No public clause cites it.
use Rattle.std.specs.Prelude.{ℕ, map, slice_index_or, Vec}
use Rattle.clru_list.specs.declared.halves.Upper.{Upper}

module _ {A : Type 0} where
  -- an upper half that is not there is 0
  abbrev pub upper_next : Vec Upper A → ℕ → ℕ
  upper_next v k = slice_index_or (map (λ u. u.next) v.items) k 0

  abbrev pub upper_prev : Vec Upper A → ℕ → ℕ
  upper_prev v k = slice_index_or (map (λ u. u.prev) v.items) k 0
