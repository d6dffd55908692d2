-- What a table notes of each key: its value, the builder that hashes keys, and for how many keys memory was found. Public clauses
-- cite it.
use Rattle.std.specs.Prelude.{◌≡◌, ℕ, ◌+◌, ◌<◌, ◌≤◌, Bool, List, ◌∷◌, Some, None, is_some, if◌then◌else◌, length, refl, slice_get, slice_index_or}
use Rattle.std.specs.Coded.{Coded, code_by, coded×, coded_list, coded_ℕ}
use Rattle.std.specs.List.{IsDistinct}
use Rattle.std.specs.Map.{keys_of, lookup, set_value}

pub record Keyed (K V S : Type 0) : Type 0 where
  pub entries : List (K × V)
  pub builder : S
  pub places : ℕ

module _ {K V S : Type 0} where
  abbrev pub keyed : List (K × V) → S → ℕ → Keyed K V S
  keyed es b p = record { entries = es; builder = b; places = p }

  -- the same table with other entries
  abbrev pub with_entries : Keyed K V S → List (K × V) → Keyed K V S
  with_entries t es = keyed es t.builder t.places

  abbrev pub keyed_code : Coded K → Coded V → Coded S → Coded (Keyed K V S)
  keyed_code k v s =
      code_by (List (K × V) × (S × ℕ)) (coded× (coded_list (coded× k v)) (coded× s coded_ℕ))
      (λ t. (t.entries, (t.builder, t.places))) (λ p. keyed p.0 p.1.0 p.1.1) (λ _. refl)

  -- x is not held, and each place is taken: only then may memory be refused
  pub record NeedsPlace (eq : K → K → Bool) (t : Keyed K V S) (x : K) : Type 0 where
    pub absent : lookup (eq x) t.entries ≡ None
    pub taken : t.places ≡ length t.entries

  -- the places stay unless one is needed, and never fall
  pub record GrowsOnlyIf (needed : Type 0) (old new : Keyed K V S) : Type 0 where
    pub never_falls : old.places ≤ new.places
    pub stays : (needed → ⊥) → new.places ≡ old.places

-- no key is held twice
pub record IsKeyed {K V : Type 0} (eq : K → K → Bool) (entries : List (K × V)) : Type 0 where
  pub distinct : IsDistinct eq (keys_of entries)

-- the entries after one is put: at the key that is held, or in front
abbrev pub with_key : {K V : Type 0} → (K → K → Bool) → K → V → List (K × V) → List (K × V)
with_key eq x v es = if is_some (lookup (eq x) es) then set_value (eq x) es v else (x, v) ∷ es

-- of each key from the first to before the end the hash is known
abbrev pub HaveHashes : {K : Type 0} → (K → ℕ) → List K → ℕ → ℕ → List ℕ → Type 0
HaveHashes {K = K} hash keys first end hashes = (j : ℕ) (x : K) → first + j < end → slice_get keys (first + j) ≡ Some x
    → slice_index_or hashes j 0 ≡ hash x
