-- Items with other values: their places and keys stay, and so does the index.
use Rattle.std.proofs.Common.{◌≡◌, ℕ, suc, ◌-◌, ◌==◌, Bool, Some, List, [], ◌∷◌, map, length, refl, sym, ap, ◌∙◌, arith}
use Rattle.std.specs.Map.{keys_of, set_value}
use Rattle.std.specs.Option.{option_map}
use Rattle.clru_model.specs.Entries.{with_value_at, with_front}
use Rattle.clru_model.proofs.Cases.{split}
use Rattle.clru_list.specs.PlaceList.{item_at, with_entries, first_entry, last_entry, with_first, with_last}
use Rattle.clru_linked_map.specs.Buckets.{with_value, key_at}
use Rattle.clru_linked_map.specs.IndexedList.{item_with, IsIndexed}
use Rattle.clru_linked_map.specs.LinkedMap.{pairs_of}
use Rattle.clru_linked_map.specs.declared.indexed_list.IndexedList.{IndexedList}
use Rattle.clru_linked_map.proofs.Hints.{keys_stay}
use Rattle.clru_linked_map.proofs.IndexedMoves.{indexed_from, same_list}

module _ {K V : Type 0} where
  -- all of the items but the values
  abbrev pub frame_of : List (ℕ × (K × V)) → List (ℕ × K)
  frame_of es = map (λ e. (e.0, e.1.0)) es

  key_at-frame : (q : ℕ) (es : List (ℕ × (K × V))) → key_at es q ≡ item_at q (frame_of es)
  key_at-frame q [] = refl
  key_at-frame q (e ∷ es) = split (q == e.0) (λ t. rw t refl) (λ f. rw f (key_at-frame q es))

  length-frame : (es : List (ℕ × (K × V))) → length (frame_of es) ≡ length es
  length-frame [] = refl
  length-frame (e ∷ es) = ap suc (length-frame es)

  module _ (i : K × V) (v : V) where
    pub frame-with_first : (es : List (ℕ × (K × V))) → option_map (λ e. e.1) (first_entry es) ≡ Some i
        → frame_of (with_first (item_with i v) es) ≡ frame_of es
    frame-with_first [] h = refl
    frame-with_first (e ∷ es) h =
        let first : i ≡ e.1 = cc in ap (λ (d : K × V). (e.0, d.0) ∷ frame_of es) first

    -- the pairs have the value in front
    pub pairs_of-with_first : (es : List (ℕ × (K × V))) → option_map (λ e. e.1) (first_entry es) ≡ Some i
        → pairs_of (with_first (item_with i v) es) ≡ with_front v (pairs_of es)
    pairs_of-with_first [] h = refl
    pairs_of-with_first (e ∷ es) h =
        let first : i ≡ e.1 = cc in ap (λ (d : K × V). (d.0, v) ∷ pairs_of es) first

    pub frame-with_last : (es : List (ℕ × (K × V))) → option_map (λ e. e.1) (last_entry es) ≡ Some i
        → frame_of (with_last (item_with i v) es) ≡ frame_of es
    frame-with_last [] h = refl
    frame-with_last (e ∷ []) h =
        let last : i ≡ e.1 = cc in ap (λ (d : K × V). (e.0, d.0) ∷ []) last
    frame-with_last (e ∷ (d ∷ es)) h = ap (λ l. (e.0, e.1.0) ∷ l) (frame-with_last (d ∷ es) h)

    -- and the pairs have the value at the back
    pub pairs_of-with_last : (es : List (ℕ × (K × V))) → option_map (λ e. e.1) (last_entry es) ≡ Some i
        → pairs_of (with_last (item_with i v) es) ≡ with_value_at (length (pairs_of es) - 1) v (pairs_of es)
    pairs_of-with_last [] h = refl
    pairs_of-with_last (e ∷ []) h = let last : i ≡ e.1 = cc in ap (λ (d : K × V). (d.0, v) ∷ []) last
    pairs_of-with_last (e ∷ (d ∷ es)) h =
        let n : length (pairs_of (e ∷ (d ∷ es))) - 1 ≡ suc (length (pairs_of (d ∷ es)) - 1) = omega arith in
        rw n (ap (λ l. e.1 ∷ l) (pairs_of-with_last (d ∷ es) h))

  -- the value is written at the first key that passes, and nothing else
  pub frame-with_value : (test : K → Bool) (v : V) (es : List (ℕ × (K × V))) → frame_of (with_value test v es) ≡ frame_of es
  frame-with_value test v [] = refl
  frame-with_value test v (e ∷ es) =
      split (test e.1.0) (λ t. rw t refl) (λ f. rw f (ap (λ l. (e.0, e.1.0) ∷ l) (frame-with_value test v es)))

  pub pairs_of-with_value : (test : K → Bool) (v : V) (es : List (ℕ × (K × V))) → pairs_of (with_value test v es) ≡ set_value test (pairs_of es) v
  pairs_of-with_value test v [] = refl
  pairs_of-with_value test v (e ∷ es) =
      split (test e.1.0) (λ t. rw t refl) (λ f. rw f (ap (λ l. e.1 ∷ l) (pairs_of-with_value test v es)))

  -- the keys stay
  pub keys-frame : (es : List (ℕ × (K × V))) → keys_of (pairs_of es) ≡ map (λ (x : ℕ × K). x.1) (frame_of es)
  keys-frame [] = refl
  keys-frame (e ∷ es) = ap (λ l. e.1.0 ∷ l) (keys-frame es)

module _ {K V S A H : Type 0} {hash : S → K → ℕ} {x : IndexedList K V S A H} where
  -- the index stays where the items but for their values do
  pub indexed_frame : IsIndexed hash x → {es : List (ℕ × (K × V))} → frame_of es ≡ frame_of x.list.entries
      → IsIndexed hash (record x { list = with_entries x.list es })
  indexed_frame old {es} same =
      let before = x.list.entries in
      indexed_from old same_list
      (keys_stay (key_at before) (key_at es)
      (λ q. key_at-frame q es ∙ ap (λ l. item_at q l) same ∙ sym (key_at-frame q before)) old.chained)
      (omega (arith, length-frame es, length-frame before, ap length same))
