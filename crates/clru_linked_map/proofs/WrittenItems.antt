-- Items that are written: which pairs they are, and that the index stays where the keys do.
use Rattle.std.proofs.Common.{◌≡◌, ℕ, ◌-◌, Bool, Some, List, [], ◌∷◌, length, slice_get, refl, sym, ap, ◌∙◌}
use Rattle.std.specs.Map.{keys_of, set_value}
use Rattle.std.specs.Option.{option_map}
use Rattle.clru_model.specs.Entries.{with_value_at, with_front}
use Rattle.clru_list.specs.PlaceList.{IsApart, item_at, first_entry, last_entry, with_at, with_first, with_last}
use Rattle.clru_linked_map.specs.Buckets.{with_value}
use Rattle.clru_linked_map.specs.IndexedList.{item_with, map_of, with_items, IsIndexed}
use Rattle.clru_linked_map.specs.LinkedMap.{pairs_of, with_entries}
use Rattle.clru_linked_map.specs.declared.indexed_list.IndexedList.{IndexedList}
use Rattle.clru_linked_map.proofs.AtIndex.{pair_at, frame-with_item_at, pairs_of-with_item_at, stands_at}
use Rattle.clru_linked_map.proofs.Values.{frame_of, indexed_frame, frame-with_first, pairs_of-with_first}
use Rattle.clru_linked_map.proofs.Values.{frame-with_last, pairs_of-with_last, frame-with_value, pairs_of-with_value}

module _ {K V : Type 0} where
  -- the value in front is that at the index 0
  pub front_at : (v : V) (ps : List (K × V)) → with_front v ps ≡ with_value_at 0 v ps
  front_at v [] = refl
  front_at v (p ∷ ps) = refl

  -- the first item has the first pair
  pub first_pair : (es : List (ℕ × (K × V))) (i : K × V) → option_map (λ e. e.1) (first_entry es) ≡ Some i
      → slice_get (pairs_of es) 0 ≡ Some i
  first_pair [] i at = cc
  first_pair (e ∷ es) i at = let same : i ≡ e.1 = cc in ap (λ (d : K × V). Some d) (sym same)

module _ {K V S A H : Type 0} (x : IndexedList K V S A H) where
  -- with the items es, which differ by their values, it has the pairs ps
  pub record IsWritten (es : List (ℕ × (K × V))) (ps : List (K × V)) : Type 0 where
    pub map : map_of (with_items es x) ≡ with_entries (map_of x) ps
    pub indexed : {hash : S → K → ℕ} → IsIndexed hash x → IsIndexed hash (with_items es x)

  written : {es : List (ℕ × (K × V))} {ps : List (K × V)} → frame_of es ≡ frame_of x.list.entries → pairs_of es ≡ ps → IsWritten es ps
  written framed pairs = record {
    map = ap (λ l. with_entries (map_of x) l) pairs;
    indexed = λ whole. indexed_frame whole framed;
  }

  -- the first item is written
  pub first_written : (i : K × V) → option_map (λ e. e.1) (first_entry x.list.entries) ≡ Some i → (w : V)
      → IsWritten (with_first (item_with i w) x.list.entries) (with_front w (pairs_of x.list.entries))
  first_written i at w = written (frame-with_first i w x.list.entries at) (pairs_of-with_first i w x.list.entries at)

  -- the last one
  pub last_written : (i : K × V) → option_map (λ e. e.1) (last_entry x.list.entries) ≡ Some i → (w : V)
      → IsWritten (with_last (item_with i w) x.list.entries) (with_value_at (length (pairs_of x.list.entries) - 1) w (pairs_of x.list.entries))
  last_written i at w = written (frame-with_last i w x.list.entries at) (pairs_of-with_last i w x.list.entries at)

  -- the first key that passes
  pub found_written : (test : K → Bool) (w : V)
      → IsWritten (with_value test w x.list.entries) (set_value test (pairs_of x.list.entries) w)
  found_written test w = written (frame-with_value test w x.list.entries) (pairs_of-with_value test w x.list.entries)

  -- the item i stands at a place with the index k
  pub record IsAtIndex (k p : ℕ) (i : K × V) : Type 0 where
    pub pair : slice_get (pairs_of x.list.entries) k ≡ Some i
    pub written : (w : V) → IsWritten (with_at p (item_with i w) x.list.entries) (with_value_at k w (pairs_of x.list.entries))

  pub at_index : (k p : ℕ) (i : K × V) → IsApart x.list.entries → Some p ≡ slice_get (keys_of x.list.entries) k
      → item_at p x.list.entries ≡ Some i → IsAtIndex k p i
  at_index k p i apart at held =
      let es = x.list.entries in let s = stands_at es k p apart at in
      let is : s.item ≡ i = let both : Some s.item ≡ Some i = sym s.held ∙ held in cc in
      let there : option_map (λ (e : ℕ × (K × V)). e.1) (slice_get es k) ≡ Some i = s.at_index ∙ ap (λ (d : K × V). Some d) is in
      record {
        pair = pair_at es k i there;
        written = λ w. written (ap (λ l. frame_of l) (s.written (item_with i w)) ∙ frame-with_item_at w es k i there)
            (ap (λ l. pairs_of l) (s.written (item_with i w)) ∙ pairs_of-with_item_at w es k i there);
      }
