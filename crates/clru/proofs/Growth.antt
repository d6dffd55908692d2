-- When a put finds memory for places.
use Rattle.std.proofs.Common.{◌≡◌, ℕ, ◌≤◌, Bool, length, None, Some, inl, inr, sym, arith}
use Rattle.std.specs.Map.{lookup}
use Rattle.std.proofs.lemmas.Bool.{cases_lt}
use Rattle.clru_linked_map.specs.Growth.{GrowsIf}
use Rattle.clru.specs.Cache.{Cache}
use Rattle.clru.specs.Memory.{GrowsOnlyIf, NeedsMemory}

-- the same growth, by other names of its numbers
pub GrowsIf-along : {wanted : Type 0} {len c p q len' c' p' q' : ℕ} → len' ≡ len → c' ≡ c → p' ≡ p → q' ≡ q → GrowsIf wanted len c p q
    → GrowsIf wanted len' c' p' q'
GrowsIf-along same_len same_c same_p same_q g = record {
  never_falls = omega (arith, same_p, same_q, g.never_falls);
  unwanted = λ n. omega (arith, same_p, same_q, g.unwanted n);
  free = λ f. omega (arith, same_p, same_q, g.free (omega (arith, f, same_len, same_p)));
  bounded = λ t e. omega (arith, same_c, same_q, g.bounded t (omega (arith, e, same_len, same_p)));
}

-- a put on a held key needs no memory
pub grows_not : {K V W : Type 0} (needed : Type 0) (old new : Cache K V W) → (needed → ⊥) → new.capacity ≡ old.capacity
    → new.scale ≡ old.scale → new.places ≡ old.places → length new.entries ≤ new.places → GrowsOnlyIf needed old new
grows_not needed old new needs_none capacity scale places covers = record {
  capacity = capacity;
  scale = scale;
  never_falls = omega (arith, places);
  stays = λ _. places;
  bounded = λ n. absurd (needs_none n);
  covers = covers;
}

module _ {K V W : Type 0} {eq : K → K → Bool} {x : K} where
  pub held_needs_none : {nothing_goes : Type 0} {v : V} (c : Cache K V W) → lookup (eq x) c.entries ≡ Some v → NeedsMemory eq c x nothing_goes → ⊥
  held_needs_none c held n = let absent = n.absent in cc

  places_stay : {nothing_goes : Type 0} (old new : Cache K V W) (wanted : Type 0) → (wanted → nothing_goes) → lookup (eq x) old.entries ≡ None
      → length old.entries ≤ old.places → GrowsIf wanted (length old.entries) old.capacity old.places new.places →
      (NeedsMemory eq old x nothing_goes → ⊥) → new.places ≡ old.places
  places_stay old new wanted says absent held grows needs_none = elim (cases_lt (length old.entries) old.places) [
    | inl free ↦ grows.free free
    | inr full ↦ grows.unwanted (λ t. needs_none (record { absent = absent; room = says t; taken = omega arith }))
  ]

  -- a put on an absent key finds memory only where it needs it
  pub grows_if_needed : {nothing_goes : Type 0} (old new : Cache K V W) (wanted : Type 0) → (wanted → nothing_goes) → (nothing_goes → wanted)
      → lookup (eq x) old.entries ≡ None
      → length old.entries ≤ old.places → GrowsIf wanted (length old.entries) old.capacity old.places new.places
      → new.capacity ≡ old.capacity → new.scale ≡ old.scale → length new.entries ≤ new.places → GrowsOnlyIf
      (NeedsMemory eq old x nothing_goes) old new
  grows_if_needed old new wanted says asks absent held grows capacity scale covers = record {
    capacity = capacity;
    scale = scale;
    never_falls = grows.never_falls;
    stays = places_stay old new wanted says absent held grows;
    bounded = λ n. omega (arith, grows.bounded (asks n.room) (sym n.taken), capacity);
    covers = covers;
  }
