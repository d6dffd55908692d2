-- What a pass over requests with times has taken.
use Rattle.std.proofs.Common.{◌≡◌, ℕ, List, ◌∷◌}
use Rattle.clru_text.specs.Keys.{line_of}
use Rattle.clru_text.specs.TakenRequests.{HasTakenRequest}
use Rattle.clru_text.specs.declared.lines.OwnedKey.{OwnedKey}

pub request_taken : {A P : Type 0} (Is : List (OwnedKey A × ℕ) → P → Type 0) (past : List (OwnedKey A × ℕ)) (key : OwnedKey A) (line : List ℕ) (time : ℕ) (next : P)
    → line_of key ≡ line → Is ((key, time) ∷ past) next → HasTakenRequest Is past line time next
request_taken Is past key line time next is taken = record { key = key; is = is; taken = taken }
