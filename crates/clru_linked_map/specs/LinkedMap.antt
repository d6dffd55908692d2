-- What a contract sees of a map: its entries, the most recently used first, its capacity, for how many entries memory was found,
-- and its hash builder. Public clauses cite it.
use Rattle.std.specs.Prelude.{ℕ, List, map, refl}
use Rattle.std.specs.Coded.{Coded, code_by, coded×, coded_list, coded_ℕ}
use Rattle.std.specs.List.{fold}
use Rattle.std.specs.HashMap.Lent.{HashMembers}
use Rattle.std.specs.declared.hash.BuildHasher as builder
use Rattle.std.specs.declared.hash.Hasher as hasher

pub record LinkedMap (K V S : Type 0) : Type 0 where
  pub entries : List (K × V)
  pub capacity : ℕ
  pub places : ℕ
  pub builder : S

-- the hash of a key, by what the builder, its hasher and the key's writes say
abbrev pub hash_by : {S H W K : Type 0} → (H → ℕ) → (H → W → H) → (S → H) → (K → List W) → S → K → ℕ
hash_by finish write build input builder k = finish (fold write (build builder) (input k))

-- the same by the members of the traits, as a clause has them
abbrev pub hash_of : {K S H : Type 0} → HashMembers K → builder.Ghosts S H → hasher.Ghosts H → S → K → ℕ
hash_of key build hash = hash_by hash.finish hash.write build.build_hasher key.hash_input

-- the pairs of a list, front first
abbrev pub pairs_of : {K V : Type 0} → List (ℕ × (K × V)) → List (K × V)
pairs_of es = map (λ e. e.1) es

module _ {K V S : Type 0} where
  abbrev pub linked_map : List (K × V) → ℕ → ℕ → S → LinkedMap K V S
  linked_map es c p b = record { entries = es; capacity = c; places = p; builder = b }

  -- the same map with other entries
  abbrev pub with_entries : LinkedMap K V S → List (K × V) → LinkedMap K V S
  with_entries m es = linked_map es m.capacity m.places m.builder

  abbrev pub linked_map_code : Coded K → Coded V → Coded S → Coded (LinkedMap K V S)
  linked_map_code k v s =
      code_by (List (K × V) × (ℕ × (ℕ × S))) (coded× (coded_list (coded× k v)) (coded× coded_ℕ (coded× coded_ℕ s)))
      (λ m. (m.entries, (m.capacity, (m.places, m.builder)))) (λ p. linked_map p.0 p.1.0 p.1.1.0 p.1.1.1) (λ _. refl)
