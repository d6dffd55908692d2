-- Private: what a cache's fields keep. No public clause cites it.
use Rattle.std.specs.Prelude.{◌≡◌, ℕ, ◌<◌, ◌≤◌, Bool, List}
use Rattle.std.specs.List.{IsDistinct}
use Rattle.std.specs.Map.{keys_of}
use Rattle.clru_model.specs.Entries.{size_of, weight_of}
use Rattle.clru_linked_map.specs.LinkedMap.{LinkedMap}

module _ {K V : Type 0} (eq : K → K → Bool) (weight : K → V → ℕ) where
  -- the entries under a capacity
  pub record IsKept (entries : List (K × V)) (capacity : ℕ) : Type 0 where
    pub distinct : IsDistinct eq (keys_of entries)
    pub fits : size_of weight entries ≤ capacity

  -- the map, and the total weight of its entries
  pub record IsCache {S : Type 0} (map : LinkedMap K V S) (total : ℕ) : Type 0 where
    pub kept : IsKept map.entries map.capacity
    pub some : 0 < map.capacity
    pub weighs : total ≡ weight_of weight map.entries
