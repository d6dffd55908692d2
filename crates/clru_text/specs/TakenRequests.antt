-- What a pass over requests with times has taken, whose keys are lines. No public clause cites it.
use Rattle.std.specs.Prelude.{◌≡◌, ℕ, List, ◌∷◌, map, reverse}
use Rattle.clru_text.specs.Keys.{line_of}
use Rattle.clru_text.specs.declared.lines.OwnedKey.{OwnedKey}

-- what a request shows
abbrev pub shown_of : {A : Type 0} → OwnedKey A × ℕ → List ℕ × ℕ
shown_of r = (line_of r.0, r.1)

-- the pass took these requests, where what it has taken is said in this way
pub record HasTakenRequests {A P : Type 0} (Is : List (OwnedKey A × ℕ) → P → Type 0) (requests : List (List ℕ × ℕ)) (pass : P) : Type 0 where
  pub past : List (OwnedKey A × ℕ)
  pub shown : map shown_of (reverse past) ≡ requests
  pub taken : Is past pass

-- after these requests the pass took one more, with this key and time
pub record HasTakenRequest {A P : Type 0} (Is : List (OwnedKey A × ℕ) → P → Type 0) (past : List (OwnedKey A × ℕ)) (line : List ℕ) (time : ℕ)
    (pass : P) : Type 0 where
  pub key : OwnedKey A
  pub is : line_of key ≡ line
  pub taken : Is ((key, time) ∷ past) pass
