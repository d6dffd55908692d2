-- What a plain put leaves that lends the value in front, at weight zero, and the call that changes it.
use Rattle.std.proofs.Common.{◌≡◌, ℕ, ◌-◌, ◌<◌, ◌≤◌, Bool, List, Some, ◌∷◌, slice_get, length, take, refl, sym, ap, ◌∙◌, subst, arith}
use Rattle.std.specs.Borrow.{Bor, MutBor}
use Rattle.std.specs.Cmp.{IsEquivalence}
use Rattle.std.specs.Fn.{Mut, Called}
use Rattle.clru_model.specs.Entries.{touch, plain_put, with_value_at}
use Rattle.clru_model.proofs.Finding.{IsHeld, IsMissed, touch-held, touch-missed, plain_put-held, plain_put-missed}
use Rattle.clru_linked_map.specs.Growth.{GrowsIf}
use Rattle.clru_linked_map.specs.LinkedMap.{LinkedMap, linked_map, with_entries}
use Rattle.clru.specs.Cache.{Cache, cache}
use Rattle.clru.specs.Closures.{CallsAtEntry}
use Rattle.clru.specs.EntryMut.{length-with_value_at}
use Rattle.clru.specs.Fields.{IsCache}
use Rattle.clru.specs.Memory.{GrowsOnlyIf, NeedsPlace}
use Rattle.clru.proofs.Keeping.{IsKept-front, IsKept-new, IsCache-plain}
use Rattle.clru.proofs.Growth.{grows_not, grows_if_needed, held_needs_none}

module _ {M K V T R : Type 0} (g : Mut M (Bor K × (MutBor V × (T × Unit {0}))) (R × (MutBor V × Unit {0})))
    (modify : M) where
  -- a call of the modify operation on what an item shows is one at the pair that the item is
  pub called_at : {shown : Bor K} {lent left : MutBor V} {e : K × V} {t : T} {r : R} {modify' : M}
      → (shown.now, lent.now) ≡ e → Called g modify (shown, (lent, (t, tt))) (r, (left, tt)) modify'
      → CallsAtEntry g modify e.0 e.1 t r left.now modify'
  called_at same called = record {
    shown = _;
    lent = _;
    left = _;
    shows = ap (λ d. d.0) same;
    lends = ap (λ d. d.1) same;
    called = called;
    leaves = refl;
  }

module _ {K V S : Type 0} where
  -- the pair that is shown in front is the first entry
  pub front_value : {z : LinkedMap K V S} {e d : K × V} {es : List (K × V)} {c p : ℕ} {b : S} → z ≡ linked_map (e ∷ es) c p b
      → slice_get z.entries 0 ≡ Some d → d ≡ e
  front_value {e = e} {d = d} pushed shown = let both : Some d ≡ Some e = sym shown ∙ ap (λ m. slice_get m.entries 0) pushed in cc

  -- after a touch of a held key, the entry of the key
  pub front_of : (eq : K → K → Bool) (key : K) {x z : LinkedMap K V S} {d : K × V} → (h : IsHeld (eq key) x.entries)
      → z ≡ with_entries x (touch eq key x.entries) → slice_get z.entries 0 ≡ Some d → d ≡ h.entry
  front_of eq key {x = x} h touched = front_value (touched ∙ ap (λ l. with_entries x l) (touch-held eq key h))

module _ {K V S W : Type 0} {eq : K → K → Bool} {x : LinkedMap K V S} {t : ℕ} (key : K) (scale : W) (old : IsCache eq (λ k v. 0) x t) where
  -- the cache of the map z
  abbrev seen : LinkedMap K V S → Cache K V W
  seen z = cache z.entries z.capacity scale z.places

  -- its places grow only where a put of the key needs one
  abbrev Grows : LinkedMap K V S → Type 0
  Grows z = GrowsOnlyIf (NeedsPlace eq (seen x) key) (seen x) (seen z)

  -- the map with w as its first value
  abbrev written : LinkedMap K V S → V → LinkedMap K V S
  written z w = with_entries z (with_value_at 0 w z.entries)

  -- what the cache is once w is the value in front
  pub record IsLentPut (z : LinkedMap K V S) (w : V) : Type 0 where
    pub keeps : IsCache eq (λ k v. 0) (written z w) t
    pub entries : (written z w).entries ≡ plain_put eq x.capacity key w x.entries
    pub grows : Grows (written z w)

  -- the entry of a held key, after a touch
  pub lent_held : IsEquivalence eq → IsHeld (eq key) x.entries → {z : LinkedMap K V S} → z ≡ with_entries x (touch eq key x.entries)
      → length z.entries ≤ z.places → (w : V) → IsLentPut z w
  lent_held laws h {z} touched held w =
      let put = ap (λ m. written m w) touched ∙ ap (λ l. with_entries x (with_value_at 0 w l)) (touch-held eq key h) in
      record {
        keeps = IsCache-plain old put (IsKept-front (λ k v. 0) key w laws old.kept h refl);
        entries = ap (λ m. m.entries) put ∙ sym (plain_put-held eq key h x.capacity w);
        grows = grows_not _ (seen x) (seen (written z w)) (held_needs_none (seen x) h.value) (ap (λ m. m.capacity) touched) refl (ap (λ m. m.places) touched)
            (omega (arith, held, length-with_value_at 0 w z.entries));
      }

  -- a place made ready for a new key, after a touch that found none
  pub record IsReady (z : LinkedMap K V S) : Type 0 where
    pub same : z ≡ linked_map x.entries x.capacity z.places x.builder
    pub keeps : IsCache eq (λ k v. 0) z t
    pub grows : (u : LinkedMap K V S) → u.capacity ≡ x.capacity → u.places ≡ z.places → length u.entries ≤ u.places → Grows u

  pub ready_new : {y z : LinkedMap K V S} → (m : IsMissed (eq key) x.entries) → y ≡ with_entries x (touch eq key x.entries)
      → length y.entries ≤ y.places → GrowsIf (length y.entries < y.capacity) (length y.entries) y.capacity y.places z.places
      → z ≡ linked_map y.entries y.capacity z.places y.builder → IsReady z
  ready_new {y} {z} m touched held growth made =
      let stays : y ≡ x = touched ∙ ap (λ l. with_entries x l) (touch-missed eq key m) in
      let same = made ∙ ap (λ r. linked_map r.entries r.capacity z.places r.builder) stays in
      let grows = subst (λ r. GrowsIf (length r.entries < r.capacity) (length r.entries) r.capacity r.places z.places) stays growth in
      record {
        same = same;
        keeps = IsCache-plain old same old.kept;
        grows = λ u capacity places covers. grows_if_needed (seen x) (seen u) _ (λ n. n) (λ n. n) m.value
            (subst (λ r. length r.entries ≤ r.places) stays held)
            (subst (λ p. GrowsIf (length x.entries < x.capacity) (length x.entries) x.capacity x.places p) (sym places) grows) capacity refl covers;
      }

  -- the entry of a new key, which was put in front then
  pub lent_new : IsEquivalence eq → IsMissed (eq key) x.entries → {y z : LinkedMap K V S} {v : V} → IsReady y
      → z ≡ with_entries y ((key, v) ∷ take (y.capacity - 1) y.entries) → length z.entries ≤ z.places → (w : V) → IsLentPut z w
  lent_new laws m {y} {z} {v} ready pushed held w =
      let full = pushed ∙ ap (λ r. with_entries r ((key, v) ∷ take (r.capacity - 1) r.entries)) ready.same in
      let put = ap (λ r. written r w) full in
      record {
        keeps = IsCache-plain old put (IsKept-new key w laws old.kept m.value old.some);
        entries = ap (λ r. r.entries) put ∙ sym (plain_put-missed eq key m x.capacity w);
        grows = ready.grows (written z w) (ap (λ r. r.capacity) full) (ap (λ r. r.places) pushed)
            (omega (arith, held, length-with_value_at 0 w z.entries));
      }
