-- Values with numbers that rise. No public clause cites it.
use Rattle.std.specs.Prelude.{◌≡◌, ℕ, suc, ◌-◌, ◌<◌, ◌≤◌, Bool, not, ◌==◌, List, [], ◌∷◌, length, slice_index_or, refl}
use Rattle.std.specs.Coded.{Coded, code_by, coded×, coded_ℕ}
use Rattle.clru_curve.specs.declared.numbered.Numbered.{Numbered}

abbrev pub numbered : ℕ → ℕ → Numbered
numbered m v = record { number = m; value = v }

abbrev pub numbered_code : Coded Numbered
numbered_code = code_by (ℕ × ℕ) (coded× coded_ℕ coded_ℕ) (λ b. (b.number, b.value)) (λ t. numbered t.0 t.1) (λ _. refl)

abbrev pub has_value : Numbered → Bool
has_value b = not (b.value == 0)

-- the number of the i-th
abbrev pub number_at : List Numbered → ℕ → ℕ
number_at bs i = (slice_index_or bs i (numbered 0 0)).number

-- and its value
abbrev pub value_at : List Numbered → ℕ → ℕ
value_at bs i = (slice_index_or bs i (numbered 0 0)).value

-- each number is greater than the one before, and they are from `low` up to before `high`
abbrev pub IsRising : ℕ → List Numbered → ℕ → Type 0
IsRising low [] high = low ≤ high
IsRising low (b ∷ bs) high = (low ≤ b.number) × IsRising (suc b.number) bs high

-- some value has this number
abbrev pub HasNumber : List Numbered → ℕ → Type 0
HasNumber bs m = (i : ℕ) × (i < length bs) × (number_at bs i ≡ m)

-- and it is the last one
abbrev pub EndsAt : List Numbered → ℕ → Type 0
EndsAt bs m = (0 < length bs) × (number_at bs (length bs - 1) ≡ m)
