-- What a contract sees of a configuration. Public clauses cite it.
use Rattle.std.specs.Prelude.{ℕ, refl}
use Rattle.std.specs.Coded.{Coded, code_by, coded×, coded_ℕ}

-- the capacity, the hash builder and the scale of the cache, and for how many entries it is to have memory at once
pub record Config (S W : Type 0) : Type 0 where
  pub capacity : ℕ
  pub hash_builder : S
  pub reserve : ℕ
  pub scale : W

module _ {S W : Type 0} where
  abbrev pub config : ℕ → S → ℕ → W → Config S W
  config c b r s = record { capacity = c; hash_builder = b; reserve = r; scale = s }

  abbrev pub config_code : Coded S → Coded W → Coded (Config S W)
  config_code b w =
      code_by (ℕ × (S × (ℕ × W))) (coded× coded_ℕ (coded× b (coded× coded_ℕ w)))
      (λ c. (c.capacity, (c.hash_builder, (c.reserve, c.scale)))) (λ p. config p.0 p.1.0 p.1.1.0 p.1.1.1) (λ _. refl)
