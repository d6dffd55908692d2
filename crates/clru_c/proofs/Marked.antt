-- How many marks there are.
use Rattle.std.proofs.Common.{◌≡◌, ℕ, suc, Bool, List, [], ◌∷◌, length, refl, ap}
use Rattle.clru_model.specs.Requests.{marks_after, marks}

module _ {K : Type 0} (eq : K → K → Bool) where
  pub length_marks_after : (k : ℕ) (past requests : List K) → length (marks_after eq k past requests) ≡ length requests
  length_marks_after k past [] = refl
  length_marks_after k past (x ∷ rs) = ap suc (length_marks_after k (x ∷ past) rs)

  -- one for each request
  pub length_marks : (k : ℕ) (requests : List K) → length (marks eq k requests) ≡ length requests
  length_marks k requests = length_marks_after k [] requests
