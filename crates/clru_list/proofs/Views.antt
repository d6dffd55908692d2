-- What a list shows, from what its fields keep.
use Rattle.std.proofs.Common.{◌≡◌, ℕ, ◌<◌, ◌≤◌, eqb, List, [], ◌∷◌, ◌++◌, length, Option, Some, None, IsSome, refl, sym, ap, ◌∙◌, arith, subst}
use Rattle.std.proofs.lemmas.Bool.{eq-eqb}
use Rattle.std.specs.Option.{option_map, option_map_or}
use Rattle.std.specs.Map.{keys_of}
use Rattle.std.specs.Prelude.{vec_len, slice_index_or as get_or}
use Rattle.std.specs.Vec.{with_item}
use Rattle.clru_list.specs.PlaceList.{PlaceList, place_list, with_entries, item_at, without, with_at, to_back, to_front, first_entry, last_entry, last_entry_from, first_place, last_place, place_after, place_before_from, IsApart, IsValid}
use Rattle.clru_list.specs.declared.links.Links.{Links}
use Rattle.clru_list.specs.declared.links.Node.{Node}
use Rattle.clru_list.proofs.NodeLemmas.{links_of-set_item}
use Rattle.clru_list.proofs.Steps.{place_below, sound-write}
use Rattle.clru_list.specs.Places.{count, nowhere}
use Rattle.clru_list.specs.Links.{LinkMap, links_of, allotted_of, IsSound, place_of, walk, set_item}
use Rattle.clru_list.proofs.Puts.{split}
use Rattle.clru_list.proofs.Paths.{count-here, last_or, first_or, last_or-counted}
use Rattle.clru_list.proofs.EntryLists.{item_at-here, item_at-in, item_at-other, last_is, place_of-some}
use Rattle.clru_list.proofs.PlaceLemmas.{without-last}
use Rattle.clru_list.proofs.Rings.{front_is, back_is}
use Rattle.clru_list.proofs.Soundness.{view-is, valid, keys_once, first_place_view, last_place_view}

module _ {T : Type 0} where
  -- behind and before a place without an item there is none
  pub place_after-none : (p : ℕ) (es : List (ℕ × T)) → item_at p es ≡ None → place_after p es ≡ None
  place_after-none p [] h = refl
  place_after-none p (e ∷ es) h =
      split (eqb p e.0) (λ t. let same : Some e.1 ≡ None = rw t at h in absurd (cc)) (λ f. rw f (place_after-none p es (rw f at h)))

  pub place_before-none : (o : Option ℕ) (p : ℕ) (es : List (ℕ × T)) → item_at p es ≡ None → place_before_from o p es ≡ None
  place_before-none o p [] h = refl
  place_before-none o p (e ∷ es) h =
      split (eqb p e.0) (λ t. let same : Some e.1 ≡ None = rw t at h in absurd (cc)) (λ f. rw f (place_before-none (Some e.0) p es (rw f at h)))

  last_item-from : (e : ℕ × T) (es : List (ℕ × T)) → ((k : ℕ) → count k (keys_of (e ∷ es)) ≤ 1)
      → item_at (last_or e.0 (keys_of es)) (e ∷ es) ≡ option_map (λ d. d.1) (last_entry_from (Some e) es)
  last_item-from e [] once = item_at-here e.0 e.1 []
  last_item-from e (d ∷ es) once =
      let last = last_or-counted d.0 (keys_of es) in
      let ne : last_or d.0 (keys_of es) ≡ e.0 → ⊥ = λ h. let P : ℕ → Type 0 = λ k. 0 < count k (keys_of (d ∷ es)) in
      let held = subst P h last in let here = count-here e.0 (keys_of (d ∷ es)) in absurd (omega (arith, once e.0)) in
      item_at-other (last_or d.0 (keys_of es)) e.0 e.1 (d ∷ es) ne ∙ last_item-from d es (λ k. omega (arith, once k))

  -- the item at the last place
  pub last_item : (es : List (ℕ × T)) → ((k : ℕ) → count k (keys_of es) ≤ 1) → item_at (last_or nowhere (keys_of es)) es ≡ option_map (λ d. d.1) (last_entry es)
  last_item [] once = refl
  last_item (e ∷ es) once = last_item-from e es once

  -- the item at the first place
  pub first_item : (es : List (ℕ × T)) → item_at (first_or nowhere (keys_of es)) es ≡ option_map (λ d. d.1) (first_entry es)
  first_item [] = refl
  first_item (e ∷ es) = item_at-here e.0 e.1 es

  module _ (l : LinkMap T) (len capacity places allotted : ℕ) (i : (es : List (ℕ × T)) × IsSound l len capacity places allotted es) where
    module _ (now : PlaceList T) (h : place_list (walk l (l.next nowhere) len) capacity places ≡ now) where
      -- what is seen is the entries, with the fields
      pub seen : now ≡ place_list i.0 capacity places
      seen = sym h ∙ view-is l len capacity places allotted i.0 i.1

      pub seen_entries : now.entries ≡ i.0
      seen_entries = ap (λ n. n.entries) seen

      pub seen_valid : IsValid now
      seen_valid = subst IsValid (sym seen) (valid l len capacity places allotted i.0 i.1)

      pub seen_item : (p : ℕ) → l.item p ≡ item_at p now.entries
      seen_item p = i.1.held.live p ∙ ap (item_at p) (sym seen_entries)

      pub seen_front : l.item (l.next nowhere) ≡ option_map (λ e. e.1) (first_entry now.entries)
      seen_front = ap l.item (front_is l.next l.prev (keys_of i.0) i.1.linked) ∙ i.1.held.live _ ∙ first_item i.0
          ∙ ap (λ es. option_map (λ e. e.1) (first_entry es)) (sym seen_entries)

      pub front_place : l.next nowhere ≡ first_or nowhere (keys_of now.entries)
      front_place = front_is l.next l.prev (keys_of i.0) i.1.linked ∙ ap (λ es. first_or nowhere (keys_of es)) (sym seen_entries)

      pub seen_back : l.item (l.prev nowhere) ≡ option_map (λ e. e.1) (last_entry now.entries)
      seen_back = ap l.item (back_is l.next l.prev (keys_of i.0) i.1.linked) ∙ i.1.held.live _
          ∙ last_item i.0 (keys_once l len capacity places allotted i.0 i.1) ∙ ap (λ es. option_map (λ e. e.1) (last_entry es)) (sym seen_entries)

      pub seen_first : place_of (l.next nowhere) ≡ first_place now.entries
      seen_first = first_place_view l len capacity places allotted i.0 i.1 ∙ ap first_place (sym seen_entries)

      pub seen_last : place_of (l.prev nowhere) ≡ last_place now.entries
      seen_last = last_place_view l len capacity places allotted i.0 i.1 ∙ ap last_place (sym seen_entries)

  -- the first entry stays where it is
  to_front-first : (p : ℕ) (es : List (ℕ × T)) → first_or nowhere (keys_of es) ≡ p → to_front p es ≡ es
  to_front-first p [] first = refl
  to_front-first p (e ∷ es) first = let P : ℕ → Type 0 = λ q. to_front q (e ∷ es) ≡ e ∷ es in subst P first (rw (eq-eqb e.0 e.0 refl) refl)

  -- the last entry stays where it is
  to_back-last : (p : ℕ) (es : List (ℕ × T)) → IsApart es → last_place es ≡ Some p → to_back p es ≡ es
  to_back-last p es apart is =
      let last = last_is p es apart is in
      rw (ap (item_at p) last.is ∙ item_at-in p last.item last.before [] last.absent) (ap (λ bs. bs ++ (p, last.item) ∷ []) (without-last p es last) ∙ sym last.is)

  pub some_item : (o : Option T) → IsSome o → (x : T) × (o ≡ Some x)
  some_item None some = absurd (cc)
  some_item (Some x) some = (x, refl)

  module _ (l : LinkMap T) (len capacity places allotted : ℕ) (i : (es : List (ℕ × T)) × IsSound l len capacity places allotted es)
      (now : PlaceList T) (h : place_list (walk l (l.next nowhere) len) capacity places ≡ now) where
    -- the item that is seen at a place is there
    pub held_item : (p : ℕ) → IsSome (item_at p now.entries) → (x : T) × (l.item p ≡ Some x)
    held_item p some = let it = some_item (item_at p now.entries) some in (it.0, seen_item l len capacity places allotted i now h p ∙ it.1)

    pub seen_length : len ≡ length now.entries
    seen_length = i.1.counted ∙ ap length (sym (seen_entries l len capacity places allotted i now h))

    -- the room that is seen is there
    pub has_room : (length now.entries < now.places) × (length now.entries < now.capacity) → (len < places) × (len < capacity)
    has_room free =
        let sees = seen l len capacity places allotted i now h in let same_places = ap (λ n. n.places) sees in let same_allotted = ap (λ n. n.capacity) sees in
        let below = free.0 in let fits = free.1 in let counts = seen_length in (omega arith, omega arith)

    pub seen_with : (change : List (ℕ × T) → List (ℕ × T)) → with_entries now (change now.entries) ≡ place_list (change i.0) capacity places
    seen_with change = ap (λ n. with_entries n (change n.entries)) (seen l len capacity places allotted i now h)

    pub seen_to_front : (p : ℕ) (x : T) → l.item p ≡ Some x → with_entries now (to_front p now.entries) ≡ place_list ((p, x) ∷ without p i.0) capacity places
    seen_to_front p x is = seen_with (to_front p)
        ∙ ap (λ o. place_list (option_map_or (λ y. (p, y) ∷ without p i.0) o i.0) capacity places) (sym (i.1.held.live p) ∙ is)

    pub seen_front_stays : (p : ℕ) → l.next nowhere ≡ p → with_entries now (to_front p now.entries) ≡ now
    seen_front_stays p first = ap (with_entries now) (to_front-first p now.entries (sym (front_place l len capacity places allotted i now h) ∙ first))

    pub seen_to_back : (p : ℕ) (x : T) → l.item p ≡ Some x → with_entries now (to_back p now.entries) ≡ place_list (without p i.0 ++ (p, x) ∷ []) capacity places
    seen_to_back p x is = seen_with (to_back p)
        ∙ ap (λ o. place_list (option_map_or (λ y. without p i.0 ++ (p, y) ∷ []) o i.0) capacity places) (sym (i.1.held.live p) ∙ is)

    pub seen_back_stays : (p : ℕ) (x : T) → l.item p ≡ Some x → l.prev nowhere ≡ p → with_entries now (to_back p now.entries) ≡ now
    seen_back_stays p x is last =
        let below = place_below l len capacity places allotted i p x is in
        ap (with_entries now) (to_back-last p now.entries (seen_valid l len capacity places allotted i now h).apart
        (sym (seen_last l len capacity places allotted i now h) ∙ ap place_of last ∙ place_of-some p (λ e. absurd (omega (arith, i.1.held.small)))))

  -- the same fact of equal links, in memory of the same size
  pub sound-at : (l m : LinkMap T) (len capacity places allotted grown : ℕ) (es : List (ℕ × T)) → m ≡ l → grown ≡ allotted → IsSound l len capacity places allotted es
      → IsSound m len capacity places grown es
  sound-at l m len capacity places allotted grown es links memory s =
      let P : LinkMap T → Type 0 = λ k. IsSound k len capacity places allotted es in let Q : ℕ → Type 0 = λ r. IsSound m len capacity places r es in
      subst Q (sym memory) (subst P (sym links) s)

module _ {T A : Type 0} (c : Links T A) (len capacity places : ℕ)
    (i : (es : List (ℕ × T)) × IsSound (links_of c) len capacity places (allotted_of c) es) (p : ℕ) (x : T) (h : (links_of c).item p ≡ Some x)
    (n : Node T) (is : n ≡ get_or c.nodes.items p n) where
  -- another item is written into the node of a place
  pub sound-write_node : (w : T)
      → IsSound (links_of (record c { nodes = with_item c.nodes p (record n { item = Some w }) })) len capacity places (allotted_of c) (with_at p w i.0)
  sound-write_node w =
      let below : p < vec_len c.nodes = place_below (links_of c) len capacity places (allotted_of c) i p x h in let small = c.nodes.small in let ok = c.nodes.ok in
      sound-at (set_item (links_of c) p (Some w)) _ len capacity places (allotted_of c) (allotted_of c) _
      (links_of-set_item c p n below (λ e. absurd (omega arith)) is (Some w)) refl
      (sound-write (links_of c) len capacity places (allotted_of c) i p x h w)
