-- What a contract sees of a cache. Public clauses cite it.
use Rattle.std.specs.Prelude.{ℕ, ◌<◌, ◌≤◌, Bool, List, length, refl}
use Rattle.std.specs.List.{IsDistinct}
use Rattle.std.specs.Map.{keys_of}
use Rattle.std.specs.Coded.{Coded, code_by, coded×, coded_list, coded_ℕ}
use Rattle.clru_model.specs.Entries.{size_of}

-- the entry list, the capacity, the scale, and for how many entries memory was found
pub record Cache (K V W : Type 0) : Type 0 where
  pub entries : List (K × V)
  pub capacity : ℕ
  pub scale : W
  pub places : ℕ

module _ {K V W : Type 0} where
  abbrev pub cache : List (K × V) → ℕ → W → ℕ → Cache K V W
  cache es c s p = record { entries = es; capacity = c; scale = s; places = p }

  -- the same cache with other entries
  abbrev pub with_entries : Cache K V W → List (K × V) → Cache K V W
  with_entries c es = cache es c.capacity c.scale c.places

  abbrev pub cache_code : Coded K → Coded V → Coded W → Coded (Cache K V W)
  cache_code k v w =
      code_by (List (K × V) × (ℕ × (W × ℕ))) (coded× (coded_list (coded× k v)) (coded× coded_ℕ (coded× w coded_ℕ)))
      (λ c. (c.entries, (c.capacity, (c.scale, c.places)))) (λ p. cache p.0 p.1.0 p.1.1.0 p.1.1.1) (λ _. refl)

  -- what holds of every cache
  pub record IsValid (eq : K → K → Bool) (weight : K → V → ℕ) (c : Cache K V W) : Type 0 where
    pub distinct : IsDistinct eq (keys_of c.entries)
    pub fits : size_of weight c.entries ≤ c.capacity
    pub some : 0 < c.capacity
    pub held : length c.entries ≤ c.places
