-- What contracts see of packed numbers. Public clauses cite it.
use Rattle.std.specs.Prelude.{ℕ, Bool, if◌then◌else◌, List, [], ◌∷◌}
use Rattle.clru_list.specs.declared.packed.Form.{Form}
use Rattle.clru_list.specs.declared.packed.Form.TheVariants.{Narrow, Wide}

-- the numbers, and the greatest one that fits
pub record Packed : Type 0 where
  pub numbers : List ℕ
  pub greatest : ℕ

-- the greatest number that fits: of 4 bytes, or of 8
abbrev pub greatest_by : Bool → ℕ
greatest_by is_narrow = if is_narrow then 4294967295 else 18446744073709551615

-- one number, 0, where there is none
abbrev pub or_zero : List ℕ → List ℕ
or_zero [] = 0 ∷ []
or_zero (n ∷ ns) = n ∷ ns

module _ {A : Type 0} where
  -- what either form stands for
  abbrev pub packed_in : Form A → Packed
  packed_in (Narrow words) = record { numbers = words.items; greatest = 4294967295 }
  packed_in (Wide words) = record { numbers = or_zero words.items; greatest = 18446744073709551615 }
