-- Chains under changes of the list: a place that comes, one that goes, and one that moves or is written.
use Rattle.std.proofs.Common.{◌≡◌, ℕ, ◌==◌, ◌≤◌, Option, Some, None, List, [], ◌∷◌, ◌++◌, length, refl, sym, ap, ◌∙◌, arith, inl, inr}
use Rattle.std.proofs.lemmas.Bool.{cases_eq, eq-eqb, ne_eqb}
use Rattle.std.proofs.lemmas.List.{append-nil, length-append}
use Rattle.std.proofs.lemmas.Map.{length-set_value}
use Rattle.std.specs.Option.{option_map}
use Rattle.clru_list.specs.PlaceList.{item_at, without, with_at, with_entries, IsApart}
use Rattle.clru_list.specs.Places.{put}
use Rattle.clru_linked_map.specs.Chained.{IsLinked}
use Rattle.clru_linked_map.specs.Buckets.{key_at, IsChainedAs}
use Rattle.clru_linked_map.specs.IndexedList.{IsIndexed, KeepsAllButPairs}
use Rattle.clru_linked_map.specs.declared.indexed_list.IndexedList.{IndexedList}
use Rattle.clru_list.proofs.EntryLists.{absent, reordered}
use Rattle.clru_list.proofs.Puts.{put-here, put-other}
use Rattle.clru_linked_map.proofs.Hints.{keys_stay}
use Rattle.clru_linked_map.proofs.Placed.{item_at-with_at, item_at-without, length-without_held}

module _ {K V : Type 0} {hash : K → ℕ} {tag : ℕ → ℕ} {low ahead : ℕ} {home : K → ℕ} {place first next : ℕ → ℕ} where
  -- all chains stay where the keys do but at one place, which is in no chain
  moved : (es fs : List (ℕ × (K × V))) (key key' : ℕ → Option K) (p : ℕ) → ((q : ℕ) → (p ≡ q → ⊥) → item_at q fs ≡ item_at q es)
      → key p ≡ None → ((q : ℕ) → (p ≡ q → ⊥) → key q ≡ key_at es q) → key' p ≡ None → ((q : ℕ) → (p ≡ q → ⊥) → key' q ≡ key_at fs q)
      → IsLinked hash tag low ahead home place first next key → IsLinked hash tag low ahead home place first next key'
  moved es fs key key' p items out keys out' keys' =
      keys_stay key key' (λ q. elim (cases_eq p q) [
        | inl e ↦ ap key' (sym e) ∙ out' ∙ sym out ∙ ap key e
        | inr n ↦ keys' q n ∙ ap (λ (o : Option (K × V)). option_map (λ (i : K × V). i.0) o) (items q n) ∙ sym (keys q n)
      ])

  -- a new item is in no chain yet
  pub chained_push : (p : ℕ) (i : K × V) (es : List (ℕ × (K × V))) → item_at p es ≡ None → IsLinked hash tag low ahead home place first next (key_at es)
      → IsLinked hash tag low ahead home place first next (put (key_at ((p, i) ∷ es)) p None)
  chained_push p i es fresh =
      let fs = (p, i) ∷ es in
      moved es fs (key_at es) (put (key_at fs) p None) p (λ q n. rw (ne_eqb q p (λ e. n (sym e))) refl) (rw fresh refl) (λ q n. refl)
      (put-here (key_at fs) p None p refl) (λ q n. put-other (key_at fs) p None q n)

  -- an item that is in no chain goes
  pub chained_drop : (p : ℕ) (es : List (ℕ × (K × V))) → IsApart es → IsLinked hash tag low ahead home place first next (put (key_at es) p None)
      → IsLinked hash tag low ahead home place first next (key_at (without p es))
  chained_drop p es apart =
      let fs = without p es in
      moved es fs (put (key_at es) p None) (key_at fs) p (λ q n. item_at-without p q es apart ∙ rw (ne_eqb p q n) refl)
      (put-here (key_at es) p None p refl) (λ q n. put-other (key_at es) p None q n)
      (rw (item_at-without p p es apart, eq-eqb p p refl) refl) (λ q n. refl)

  -- an item that is in no chain is written, and comes first
  pub chained_replace : (p : ℕ) (i : K × V) (es : List (ℕ × (K × V))) → IsApart es → IsLinked hash tag low ahead home place first next (put (key_at es) p None)
      → IsLinked hash tag low ahead home place first next (put (key_at ((p, i) ∷ without p es)) p None)
  chained_replace p i es apart =
      let fs = (p, i) ∷ without p es in
      moved es fs (put (key_at es) p None) (put (key_at fs) p None) p
      (λ q n. rw (ne_eqb q p (λ e. n (sym e))) (item_at-without p q es apart ∙ rw (ne_eqb p q n) refl))
      (put-here (key_at es) p None p refl) (λ q n. put-other (key_at es) p None q n)
      (put-here (key_at fs) p None p refl) (λ q n. put-other (key_at fs) p None q n)

  -- where each place holds what it held, all chains stay
  pub chained_stays : (es fs : List (ℕ × (K × V))) → ((q : ℕ) → item_at q fs ≡ item_at q es) → IsLinked hash tag low ahead home place first next (key_at es)
      → IsLinked hash tag low ahead home place first next (key_at fs)
  chained_stays es fs items =
      keys_stay (key_at es) (key_at fs) (λ q. ap (λ (o : Option (K × V)). option_map (λ (i : K × V). i.0) o) (items q))

-- an item that comes first leaves each place with what it held
pub items_to_front : {T : Type 0} (p : ℕ) (i : T) (es : List (ℕ × T)) → IsApart es → item_at p es ≡ Some i
    → (q : ℕ) → item_at q ((p, i) ∷ without p es) ≡ item_at q es
items_to_front p i es apart held q = elim (cases_eq p q) [
  | inl e ↦ rw (eq-eqb q p (sym e)) (sym (ap (λ x. item_at x es) (sym e) ∙ held))
  | inr n ↦ rw (ne_eqb q p (λ e. n (sym e))) (item_at-without p q es apart ∙ rw (ne_eqb p q n) refl)
]

module _ {K V S A H : Type 0} {hash : S → K → ℕ} {x y : IndexedList K V S A H} where
  -- with no more pairs than before the rest of the invariant stays
  pub indexed_from : IsIndexed hash x → KeepsAllButPairs x y → IsChainedAs hash (key_at y.list.entries) y → length y.list.entries ≤ length x.list.entries
      → IsIndexed hash y
  indexed_from old same chained fewer = record {
    chained = chained;
    held = omega (arith, same.places, old.held);
    spread = omega (arith, same.index.buckets, same.index.links, old.spread);
    linked = omega (arith, same.places, same.index.links, old.linked);
    named = omega (arith, same.places, same.index.bound, old.named);
  }

-- and so does one that comes last
pub items_to_back : {T : Type 0} (p : ℕ) (i : T) (es : List (ℕ × T)) → IsApart es → item_at p es ≡ Some i
    → (q : ℕ) → item_at q (without p es ++ (p, i) ∷ []) ≡ item_at q es
items_to_back p i es apart held q =
    let rest = without p es in let gone = item_at-without p p es apart ∙ rw (eq-eqb p p refl) refl in
    (reordered p i rest [] (absent p rest gone)).items q ∙ ap (λ l. item_at q ((p, i) ∷ l)) (append-nil rest) ∙ items_to_front p i es apart held q

-- other entries, and all else as it was
pub same_list : {K V S A H : Type 0} {x : IndexedList K V S A H} {es : List (ℕ × (K × V))} → KeepsAllButPairs x (record x { list = with_entries x.list es })
same_list = record {
  capacity = refl;
  places = refl;
  builder = refl;
  index = record { buckets = refl; links = refl; bound = refl; tags = refl };
}

module _ {K V S A H : Type 0} {hash : S → K → ℕ} {x : IndexedList K V S A H} where
  -- another order keeps the invariant
  indexed_ordered : (es : List (ℕ × (K × V))) → IsIndexed hash x → ((q : ℕ) → item_at q es ≡ item_at q x.list.entries)
      → length es ≤ length x.list.entries → IsIndexed hash (record x { list = with_entries x.list es })
  indexed_ordered es old items fewer = indexed_from old same_list (chained_stays x.list.entries es items old.chained) fewer

  module _ (p : ℕ) (i : K × V) (old : IsIndexed hash x) (apart : IsApart x.list.entries) (held : item_at p x.list.entries ≡ Some i) where
    -- an item that comes first
    pub indexed_front : IsIndexed hash (record x { list = with_entries x.list ((p, i) ∷ without p x.list.entries) })
    indexed_front =
        indexed_ordered ((p, i) ∷ without p x.list.entries) old (items_to_front p i x.list.entries apart held)
        (omega (arith, length-without_held p x.list.entries i held))

    -- an item that comes last
    pub indexed_back : IsIndexed hash (record x { list = with_entries x.list (without p x.list.entries ++ (p, i) ∷ []) })
    indexed_back =
        let rest = without p x.list.entries in
        indexed_ordered (rest ++ (p, i) ∷ []) old (items_to_back p i x.list.entries apart held)
        (omega (arith, length-without_held p x.list.entries i held, length-append rest ((p, i) ∷ [])))

  -- an item that gets another value keeps it
  pub indexed_written : (p : ℕ) (i : K × V) (v : V) → IsIndexed hash x → item_at p x.list.entries ≡ Some i
      → IsIndexed hash (record x { list = with_entries x.list (with_at p ((i.0, v)) x.list.entries) })
  indexed_written p i v old held =
      let es = x.list.entries in let w : K × V = (i.0, v) in
      indexed_from old same_list
      (keys_stay (key_at es) _ (λ q. elim (cases_eq p q) [
        | inl e ↦ rw (item_at-with_at p q w es i held, eq-eqb p q e, ← e, held) refl
        | inr n ↦ rw (item_at-with_at p q w es i held, ne_eqb p q n) refl
      ]) old.chained)
      (omega (arith, length-set_value (λ q. p == q) es w))
