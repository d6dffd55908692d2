-- The entry at an index: its place, its pair, and what a write there leaves.
use Rattle.std.proofs.Common.{◌≡◌, ℕ, zero, suc, List, [], ◌∷◌, Some, slice_get, refl, sym, ap}
use Rattle.std.proofs.lemmas.Bool.{eq-eqb}
use Rattle.std.specs.Map.{keys_of}
use Rattle.std.specs.Option.{option_map}
use Rattle.clru_model.specs.Entries.{with_value_at}
use Rattle.clru_list.specs.PlaceList.{IsApart, item_at, with_at}
use Rattle.clru_list.proofs.Indices.{entry-of}
use Rattle.clru_list.proofs.Windows.{differs, item_at-entry}
use Rattle.clru_linked_map.specs.Buckets.{with_item_at}
use Rattle.clru_linked_map.specs.IndexedList.{item_with}
use Rattle.clru_linked_map.specs.LinkedMap.{pairs_of}
use Rattle.clru_linked_map.proofs.Values.{frame_of}

module _ {X : Type 0} where
  -- a write at a place is one at its index
  with_at-index : (es : List (ℕ × X)) (k : ℕ) (e : ℕ × X) (w : X) → IsApart es → slice_get es k ≡ Some e → with_at e.0 w es ≡ with_item_at k w es
  with_at-index [] k e w apart at = cc
  with_at-index (d ∷ es) zero e w apart at = let same : d ≡ e = cc in rw (same, eq-eqb e.0 e.0 refl) refl
  with_at-index (d ∷ es) (suc k) e w apart at =
      rw (differs d es e.0 e.1 apart.0 (item_at-entry es k e apart.1 at)) (ap (λ l. d ∷ l) (with_at-index es k e w apart.1 at))

  -- what stands at a place with an index
  pub record StandsAt (k p : ℕ) (es : List (ℕ × X)) : Type 0 where
    pub item : X
    pub at_index : option_map (λ (e : ℕ × X). e.1) (slice_get es k) ≡ Some item
    pub held : item_at p es ≡ Some item
    pub written : (w : X) → with_at p w es ≡ with_item_at k w es

  pub stands_at : (es : List (ℕ × X)) (k p : ℕ) → IsApart es → Some p ≡ slice_get (keys_of es) k → StandsAt k p es
  stands_at es k p apart at =
      let e = entry-of es k p (sym at) in
      record {
        item = e.0;
        at_index = ap (option_map (λ (d : ℕ × X). d.1)) e.1;
        held = item_at-entry es k (p, e.0) apart e.1;
        written = λ w. with_at-index es k (p, e.0) w apart e.1;
      }

module _ {K V : Type 0} where
  -- the pair at an index is that of its item
  pub pair_at : (es : List (ℕ × (K × V))) (k : ℕ) (i : K × V) → option_map (λ e. e.1) (slice_get es k) ≡ Some i
      → slice_get (pairs_of es) k ≡ Some i
  pair_at [] k i at = cc
  pair_at (e ∷ es) zero i at = let same : i ≡ e.1 = cc in ap (λ (d : K × V). Some d) (sym same)
  pair_at (e ∷ es) (suc k) i at = pair_at es k i at

  module _ (v : V) where
    -- another value there leaves all but the value
    pub frame-with_item_at : (es : List (ℕ × (K × V))) (k : ℕ) (i : K × V) → option_map (λ e. e.1) (slice_get es k) ≡ Some i
        → frame_of (with_item_at k (item_with i v) es) ≡ frame_of es
    frame-with_item_at [] k i at = refl
    frame-with_item_at (e ∷ es) zero i at =
        let same : i ≡ e.1 = cc in ap (λ (d : K × V). (e.0, d.0) ∷ frame_of es) same
    frame-with_item_at (e ∷ es) (suc k) i at = ap (λ l. (e.0, e.1.0) ∷ l) (frame-with_item_at es k i at)

    -- and the pairs have it there
    pub pairs_of-with_item_at : (es : List (ℕ × (K × V))) (k : ℕ) (i : K × V) → option_map (λ e. e.1) (slice_get es k) ≡ Some i
        → pairs_of (with_item_at k (item_with i v) es) ≡ with_value_at k v (pairs_of es)
    pairs_of-with_item_at [] k i at = refl
    pairs_of-with_item_at (e ∷ es) zero i at = let same : i ≡ e.1 = cc in ap (λ (d : K × V). (d.0, v) ∷ pairs_of es) same
    pairs_of-with_item_at (e ∷ es) (suc k) i at = ap (λ l. e.1 ∷ l) (pairs_of-with_item_at es k i at)
