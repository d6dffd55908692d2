-- What each call does to a whole list.
use Rattle.std.proofs.Common.{◌≡◌, ℕ, suc, ◌+◌, ◌-◌, ◌<◌, ◌≤◌, ◌^◌, inl, inr, List, [], ◌∷◌, ◌++◌, length, Some, None, refl, sym, ap, ◌∙◌, arith, subst}
use Rattle.std.proofs.lemmas.List.{length-append, append-nil}
use Rattle.std.specs.Map.{keys_of}
use Rattle.clru_list.specs.PlaceList.{without, with_at, place_after, place_before}
use Rattle.clru_list.specs.Places.{put, count, nowhere}
use Rattle.clru_list.specs.Links.{LinkMap, IsLinked, IsHeld, IsSound, place_of, unlinked, linked, released, set_item, occupied, spot, IsEnd}
use Rattle.clru_list.proofs.Puts.{decide, put-other}
use Rattle.clru_list.proofs.Paths.{count-append, count-here, last_or, first_or, last_or-counted, first_or-counted, count-le-cons, path_last, path_left}
use Rattle.clru_list.proofs.EntryLists.{Split, split_at, without-split, with_at-split, item_at-none, keys-split, first_place-is, place_after-split, place_before-split, reordered}
use Rattle.clru_list.proofs.Rings.{next_is, prev_is, front_is, back_is}
use Rattle.clru_list.proofs.Holding.{below, end_of, free_is, held-reorder, held-write}
use Rattle.clru_list.proofs.Soundness.{IsLoose, link-loose, unlink-loose, release-loose, occupy-loose, no_nowhere, end_at}

first_counted : (p : ℕ) (ps : List ℕ) → 0 < count p ps → 0 < count (first_or nowhere ps) ps
first_counted p [] some = absurd (omega arith)
first_counted p (q ∷ qs) some = let here = count-here q qs in omega arith

module _ {T : Type 0} (l : LinkMap T) (len capacity places allotted : ℕ) (i : (es : List (ℕ × T)) × IsSound l len capacity places allotted es) where
  -- another capacity
  pub sound-resize : (c : ℕ) → len ≤ c → IsSound l len c places allotted i.0
  sound-resize c fits = record { linked = i.1.linked; held = i.1.held; counted = i.1.counted; fits = fits; within = i.1.within; reserved = i.1.reserved; countable = i.1.countable }

  -- more places
  pub sound-grow : (more grown : ℕ) → places ≤ more → more ≤ grown → grown < 2 ^ 63 → IsSound l len capacity more grown i.0
  sound-grow more grown grows reserved countable = record {
    linked = i.1.linked;
    held = i.1.held;
    counted = i.1.counted;
    fits = i.1.fits;
    within = omega (arith, i.1.within);
    reserved = reserved;
    countable = countable;
  }

  pub back_end : IsEnd l (l.prev nowhere)
  back_end = let P : ℕ → Type 0 = λ k. IsEnd l k in subst P (sym (back_is l.next l.prev (keys_of i.0) i.1.linked))
      (end_at l len capacity places allotted i.0 i.1 (last_or nowhere (keys_of i.0)) (last_or-counted nowhere (keys_of i.0)))

  pub size_room : l.size ≤ allotted
  size_room = omega (arith, i.1.within, i.1.reserved)

  module _ (p : ℕ) (x : T) (h : l.item p ≡ Some x) where
    at_place : Split p x i.0
    at_place = split_at p x i.0 (sym (i.1.held.live p) ∙ h)

    ring_split : IsLinked l.next l.prev (keys_of (at_place.before ++ (p, x) ∷ at_place.behind))
    ring_split = let P : List (ℕ × T) → Type 0 = λ es. IsLinked l.next l.prev (keys_of es) in subst P at_place.is i.1.linked

    held_split : IsHeld l.next l.item l.free l.size (at_place.before ++ (p, x) ∷ at_place.behind)
    held_split = let P : List (ℕ × T) → Type 0 = λ es. IsHeld l.next l.item l.free l.size es in subst P at_place.is i.1.held

    without_is : without p i.0 ≡ at_place.before ++ at_place.behind
    without_is = ap (without p) at_place.is ∙ without-split p x at_place.before at_place.behind at_place.absent

    ring_parts : IsLinked l.next l.prev (keys_of at_place.before ++ p ∷ keys_of at_place.behind)
    ring_parts = let P : List ℕ → Type 0 = λ r. IsLinked l.next l.prev r in subst P (keys-split at_place.before at_place.behind p x) ring_split

    keys_count : (k : ℕ) → count k (keys_of i.0) ≡ count k (keys_of at_place.before) + count k (p ∷ keys_of at_place.behind)
    keys_count k = ap (λ es. count k (keys_of es)) at_place.is ∙ ap (count k) (keys-split at_place.before at_place.behind p x)
        ∙ count-append k (keys_of at_place.before) (p ∷ keys_of at_place.behind)

    pub place_below : p < l.size
    place_below = let here = count-here p (keys_of at_place.behind) in below l.next l.item l.free l.size i.0 i.1.held p (omega (arith, keys_count p))

    pub prev_end : IsEnd l (l.prev p)
    prev_end = let P : ℕ → Type 0 = λ k. IsEnd l k in let k = last_or nowhere (keys_of at_place.before) in let last = last_or-counted nowhere (keys_of at_place.before) in
        subst P (sym (prev_is l.next l.prev (keys_of at_place.before) p (keys_of at_place.behind) ring_parts))
        (end_at l len capacity places allotted i.0 i.1 (last_or nowhere (keys_of at_place.before)) (omega (arith, keys_count (last_or nowhere (keys_of at_place.before)))))

    pub next_end : IsEnd l (l.next p)
    next_end = let P : ℕ → Type 0 = λ k. IsEnd l k in let first = first_or-counted nowhere (keys_of at_place.behind) in
        let le = count-le-cons (first_or nowhere (keys_of at_place.behind)) p (keys_of at_place.behind) in
        subst P (sym (next_is l.next l.prev (keys_of at_place.before) p (keys_of at_place.behind) ring_parts))
        (end_at l len capacity places allotted i.0 i.1 (first_or nowhere (keys_of at_place.behind)) (omega (arith, keys_count (first_or nowhere (keys_of at_place.behind)))))

    length_split : length i.0 ≡ suc (length (at_place.before ++ at_place.behind))
    length_split = ap length at_place.is ∙ (reordered p x at_place.before at_place.behind at_place.absent).lengths

    pub some_held : 0 < len
    some_held = omega (arith, i.1.counted, length_split)

    unlinked_loose : IsLoose (unlinked l p) p x (at_place.before ++ at_place.behind)
    unlinked_loose = unlink-loose l p x at_place.before at_place.behind at_place.absent ring_split held_split

    -- the item is out, and its place is free
    pub sound-remove : IsSound (released (unlinked (set_item l p None) p) p) (len - 1) capacity places allotted (without p i.0)
    sound-remove =
        let done = release-loose (unlinked l p) p x (at_place.before ++ at_place.behind) unlinked_loose in
        let P : List (ℕ × T) → Type 0 = λ es. IsSound (released (unlinked (set_item l p None) p) p) (len - 1) capacity places allotted es in
        subst P (sym without_is) (record {
          linked = done.0;
          held = done.1;
          counted = omega (arith, i.1.counted, length_split);
          fits = omega (arith, i.1.fits);
          within = i.1.within;
          reserved = i.1.reserved;
          countable = i.1.countable;
        })

    -- behind the front there is a place before
    pub prev_below : (l.next nowhere ≡ p → ⊥) → l.prev p < l.size
    prev_below ne =
        let bs = keys_of at_place.before in let cs = keys_of at_place.behind in elim prev_end [
          | inl e ↦ absurd (ne (ap l.next (sym e ∙ prev_is l.next l.prev bs p cs ring_parts)
              ∙ path_last l.next nowhere bs p (path_left l.next nowhere bs p cs nowhere ring_parts.forward)))
          | inr lt ↦ lt
        ]

    pub front_below : l.next nowhere < l.size
    front_below =
        let P : ℕ → Type 0 = λ k. k < l.size in let here = count-here p (keys_of at_place.behind) in
        subst P (sym (front_is l.next l.prev (keys_of i.0) i.1.linked))
        (below l.next l.item l.free l.size i.0 i.1.held (first_or nowhere (keys_of i.0)) (first_counted p (keys_of i.0) (omega (arith, keys_count p))))

    -- before the back there is a place behind
    pub next_below : (l.prev nowhere ≡ p → ⊥) → l.next p < l.size
    next_below ne =
        let here = count-here p (keys_of at_place.behind) in let le = count-le-cons p nowhere (keys_of i.0) in elim next_end [
          | inl e ↦ absurd (ne (ap l.prev (sym e) ∙ i.1.linked.backward p (omega (arith, keys_count p))))
          | inr lt ↦ lt
        ]

    left_loose : IsLoose (unlinked l p) p x (without p i.0)
    left_loose = let P : List (ℕ × T) → Type 0 = λ es. IsLoose (unlinked l p) p x es in subst P (sym without_is) unlinked_loose

    -- the item stands between two parts of the others
    sound-between : (bs cs : List (ℕ × T)) (a b : ℕ) → without p i.0 ≡ bs ++ cs → a ≡ last_or nowhere (keys_of bs) → b ≡ first_or nowhere (keys_of cs)
        → IsSound (linked (unlinked l p) a p b) len capacity places allotted (bs ++ (p, x) ∷ cs)
    sound-between bs cs a b parts is_a is_b =
        let P : List (ℕ × T) → Type 0 = λ es. IsLoose (unlinked l p) p x es in
        let done = link-loose (unlinked l p) p x a b bs cs is_a is_b (subst P parts left_loose) in
        record {
          linked = done.0;
          held = done.1;
          counted = omega (arith, i.1.counted, length_split, ap length (sym without_is ∙ parts), length-append bs cs, length-append bs ((p, x) ∷ cs));
          fits = i.1.fits;
          within = i.1.within;
          reserved = i.1.reserved;
          countable = i.1.countable;
        }

    -- the item is at the front, where it was not there before
    pub sound-moved : (l.next nowhere ≡ p → ⊥) → IsSound (linked (unlinked l p) nowhere p (l.next nowhere)) len capacity places allotted ((p, x) ∷ without p i.0)
    sound-moved ne =
        let stays = put-other l.next (l.prev p) (l.next p) nowhere (λ e. absurd (omega (arith, prev_below ne, i.1.held.small))) in
        sound-between [] (without p i.0) nowhere (l.next nowhere) refl refl
        (sym stays ∙ front_is (unlinked l p).next (unlinked l p).prev (keys_of (without p i.0)) left_loose.linked)

    -- the item is at the back, where it was not there before
    pub sound-moved_back : (l.prev nowhere ≡ p → ⊥) → IsSound (linked (unlinked l p) (l.prev nowhere) p nowhere) len capacity places allotted (without p i.0 ++ (p, x) ∷ [])
    sound-moved_back ne =
        let stays = put-other l.prev (l.next p) (l.prev p) nowhere (λ e. absurd (omega (arith, next_below ne, i.1.held.small))) in
        sound-between (without p i.0) [] (l.prev nowhere) nowhere (sym (append-nil (without p i.0)))
        (sym stays ∙ back_is (unlinked l p).next (unlinked l p).prev (keys_of (without p i.0)) left_loose.linked) refl

    -- another item is at the place
    pub sound-write : (w : T) → IsSound (set_item l p (Some w)) len capacity places allotted (with_at p w i.0)
    sound-write w =
        let bs = at_place.before in let cs = at_place.behind in
        let P : List (ℕ × T) → Type 0 = λ es. IsSound (set_item l p (Some w)) len capacity places allotted es in
        let Q : List ℕ → Type 0 = λ r. IsLinked l.next l.prev r in
        let order = reordered p x bs cs at_place.absent in let back = reordered p w bs cs at_place.absent in
        subst P (sym (ap (with_at p w) at_place.is ∙ with_at-split p x w bs cs at_place.absent)) (record {
          linked = subst Q (sym (keys-split bs cs p w)) ring_parts;
          held = held-reorder l.next (put l.item p (Some w)) l.free l.size ((p, w) ∷ (bs ++ cs)) (bs ++ (p, w) ∷ cs)
              (record { items = λ k. sym (back.items k); counts = λ k. sym (back.counts k); lengths = sym back.lengths })
              (held-write l.next l.item l.free l.size (bs ++ cs) p x w (held-reorder l.next l.item l.free l.size (bs ++ (p, x) ∷ cs) ((p, x) ∷ (bs ++ cs)) order held_split));
          counted = omega (arith, i.1.counted, length_split, back.lengths);
          fits = i.1.fits;
          within = i.1.within;
          reserved = i.1.reserved;
          countable = i.1.countable;
        })

    none_nowhere : (count nowhere (keys_of at_place.before) ≡ 0) × (count nowhere (keys_of at_place.behind) ≡ 0)
    none_nowhere = let n = no_nowhere l len capacity places allotted i.0 i.1 in (omega (arith, keys_count nowhere), omega (arith, keys_count nowhere))

    pub next_place : place_of (l.next p) ≡ place_after p i.0
    next_place = ap place_of (next_is l.next l.prev (keys_of at_place.before) p (keys_of at_place.behind) ring_parts) ∙ sym (first_place-is at_place.behind none_nowhere.1)
        ∙ sym (ap (place_after p) at_place.is ∙ place_after-split p x at_place.before at_place.behind at_place.absent)

    pub prev_place : place_of (l.prev p) ≡ place_before p i.0
    prev_place = ap place_of (prev_is l.next l.prev (keys_of at_place.before) p (keys_of at_place.behind) ring_parts)
        ∙ sym (ap (place_before p) at_place.is ∙ place_before-split nowhere p x at_place.before at_place.behind at_place.absent none_nowhere.0)

  -- where an item goes there is none, and a node for it has memory
  pub free_none : l.item l.free ≡ None
  free_none = elim (free_is l.next l.item l.free l.size i.0 i.1.held) [
    | inl e ↦ ap l.item e.0 ∙ i.1.held.live nowhere ∙ item_at-none nowhere i.0 (no_nowhere l len capacity places allotted i.0 i.1)
    | inr e ↦ e.1
  ]

  pub free_end : IsEnd l l.free
  free_end = elim (free_is l.next l.item l.free l.size i.0 i.1.held) [ inl e ↦ inl e.0 | inr e ↦ inr e.0 ]

  pub free_room : len < places → l.free ≡ nowhere → l.size < allotted
  free_room lt is = elim (free_is l.next l.item l.free l.size i.0 i.1.held) [
    | inl e ↦ omega (arith, e.1, i.1.counted, i.1.reserved)
    | inr e ↦ absurd (omega (arith, e.0, i.1.held.small))
  ]

  module _ (x : T) (lt : len < places) where
    occupied_loose : IsLoose (occupied l x) (spot l) x i.0
    occupied_loose = occupy-loose l x i.0 i.1.linked i.1.held (λ e. omega (arith, free_room lt e, i.1.countable))

    -- what any links that are so have: the place lies within them, and an end of the ring is an end of theirs
    pub spot_below : {m : LinkMap T} {p : ℕ} → m ≡ occupied l x → p ≡ spot l → p < m.size
    spot_below links place = let here = count-here (spot l) (keys_of i.0) in rw (links, place)
        (below (occupied l x).next (occupied l x).item (occupied l x).free (occupied l x).size ((spot l, x) ∷ i.0) occupied_loose.held (spot l) (omega arith))

    occupied_within : (occupied l x).size ≤ places
    occupied_within = decide nowhere l.free
        (λ e t. rw t (elim (free_is l.next l.item l.free l.size i.0 i.1.held) [
          | inl d ↦ omega (arith, d.1, i.1.counted)
          | inr d ↦ absurd (omega (arith, d.0, i.1.held.small))
        ]))
        (λ _ f. rw f i.1.within)

    pub occupied_room : {m : LinkMap T} → m ≡ occupied l x → m.size ≤ allotted
    occupied_room links = rw links (omega (arith, occupied_within, i.1.reserved))

    pub occupied_front : {m : LinkMap T} → m ≡ occupied l x → IsEnd m (m.next nowhere)
    occupied_front links = let loose = occupied_loose in let P : ℕ → Type 0 = λ k. IsEnd (occupied l x) k in
        let first = first_or-counted nowhere (keys_of i.0) in rw links (subst P (sym (front_is (occupied l x).next (occupied l x).prev (keys_of i.0) loose.linked))
        (end_of (occupied l x).next (occupied l x).item (occupied l x).free (occupied l x).size ((spot l, x) ∷ i.0) loose.held (first_or nowhere (keys_of i.0)) (omega arith)))

    pub occupied_back : {m : LinkMap T} → m ≡ occupied l x → IsEnd m (m.prev nowhere)
    occupied_back links = let loose = occupied_loose in let P : ℕ → Type 0 = λ k. IsEnd (occupied l x) k in
        let last = last_or-counted nowhere (keys_of i.0) in rw links (subst P (sym (back_is (occupied l x).next (occupied l x).prev (keys_of i.0) loose.linked))
        (end_of (occupied l x).next (occupied l x).item (occupied l x).free (occupied l x).size ((spot l, x) ∷ i.0) loose.held (last_or nowhere (keys_of i.0)) (omega arith)))

    -- the item is pushed to the front
    pub sound-push_front : len < capacity
        → IsSound (linked (occupied l x) nowhere (spot l) ((occupied l x).next nowhere)) (len + 1) capacity places allotted ((spot l, x) ∷ i.0)
    sound-push_front fits =
        let loose = occupied_loose in
        let done = link-loose (occupied l x) (spot l) x nowhere ((occupied l x).next nowhere) [] i.0 refl
        (front_is (occupied l x).next (occupied l x).prev (keys_of i.0) loose.linked) loose in
        record {
          linked = done.0;
          held = done.1;
          counted = omega (arith, i.1.counted);
          fits = omega arith;
          within = occupied_within;
          reserved = i.1.reserved;
          countable = i.1.countable;
        }

    -- the item is pushed to the back
    pub sound-push_back : len < capacity
        → IsSound (linked (occupied l x) ((occupied l x).prev nowhere) (spot l) nowhere) (len + 1) capacity places allotted (i.0 ++ (spot l, x) ∷ [])
    sound-push_back fits =
        let P : List (ℕ × T) → Type 0 = λ es. IsLoose (occupied l x) (spot l) x es in
        let loose = occupied_loose in
        let done = link-loose (occupied l x) (spot l) x ((occupied l x).prev nowhere) nowhere i.0 []
        (back_is (occupied l x).next (occupied l x).prev (keys_of i.0) loose.linked) refl
        (subst P (sym (append-nil i.0)) loose) in
        record {
          linked = done.0;
          held = done.1;
          counted = omega (arith, i.1.counted, length-append i.0 ((spot l, x) ∷ []));
          fits = omega arith;
          within = occupied_within;
          reserved = i.1.reserved;
          countable = i.1.countable;
        }
