-- What contracts see of a list of sizes. No public clause cites it.
use Rattle.std.specs.Prelude.{ℕ, ◌<◌, ◌≤◌, List, length, map, vec_capacity, refl}
use Rattle.std.specs.Coded.{Coded, code_by, coded×, coded_list, coded_ℕ}
use Rattle.clru_curve.specs.declared.numbered.Numbered.{Numbered}
use Rattle.clru_curve.specs.declared.sized.size_list.NarrowSize.{NarrowSize}
use Rattle.clru_curve.specs.declared.sized.size_list.Form.{Form}
use Rattle.clru_curve.specs.declared.sized.size_list.Form.TheVariants.{Narrow, Wide}
use Rattle.clru_curve.specs.Rising.{numbered, numbered_code}

-- the sizes with their numbers, for how many there is memory, and the greatest number and size that fit
pub record SizeItems : Type 0 where
  pub items : List Numbered
  pub capacity : ℕ
  pub greatest : ℕ

abbrev pub size_items_code : Coded SizeItems
size_items_code =
    code_by (List Numbered × (ℕ × ℕ)) (coded× (coded_list numbered_code) (coded× coded_ℕ coded_ℕ)) (λ s. (s.items, (s.capacity, s.greatest)))
    (λ t. record { items = t.0; capacity = t.1.0; greatest = t.1.1 }) (λ _. refl)

-- what a small size stands for
abbrev pub widened : NarrowSize → Numbered
widened s = numbered s.number s.value

module _ {A : Type 0} where
  -- what either form stands for
  abbrev pub size_items : Form A → SizeItems
  size_items (Narrow sizes) = record { items = map widened sizes.items; capacity = vec_capacity sizes; greatest = 4294967295 }
  size_items (Wide sizes) = record { items = sizes.items; capacity = vec_capacity sizes; greatest = 18446744073709551615 }

-- there is room for a size with its number, and both fit
pub record HasRoom (sizes : SizeItems) (number size : ℕ) : Type 0 where
  pub room : length sizes.items < sizes.capacity
  pub number_fits : number ≤ sizes.greatest
  pub size_fits : size ≤ sizes.greatest
