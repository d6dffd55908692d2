-- What the curves of requests are as curves of a split. Public clauses cite them.
use Rattle.std.specs.Prelude.{ℕ, List, nat_lt, Option, Some, None, if◌then◌else◌, refl}
use Rattle.std.specs.Coded.{Coded, code_by, coded×, coded_list, coded_ℕ}
use Rattle.clru_curve.specs.SizedCurves.{CurveBySize, missed_size_within}

-- how many requests there are, and their misses at the capacities 1, 2 and so on
pub record ClassOf : Type 0 where
  pub requests : ℕ
  pub misses : List ℕ

abbrev pub class : ℕ → List ℕ → ClassOf
class n ms = record { requests = n; misses = ms }

abbrev pub class_code : Coded ClassOf
class_code = code_by (ℕ × List ℕ) (coded× coded_ℕ (coded_list coded_ℕ)) (λ c. (c.requests, c.misses)) (λ t. class t.0 t.1) (λ _. refl)

-- the size that misses, above the greatest weight
abbrev pub missed_size_above : CurveBySize → ℕ → Option ℕ
missed_size_above c k = if nat_lt c.greatest_weight k then Some (missed_size_within c k) else None
