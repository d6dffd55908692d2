-- What callers cite of a list's entries: how they read after a change, and how they split at a place.
use Rattle.std.proofs.Common.{◌≡◌, ℕ, suc, ◌-◌, ◌^◌, ◌<◌, ◌==◌, cond, List, [], ◌∷◌, ◌++◌, length, Option, Some, None, IsSome, refl, sym, ap, ◌∙◌, arith, subst}
use Rattle.std.proofs.lemmas.List.{append-nil}
use Rattle.std.specs.Map.{keys_of}
use Rattle.clru_list.specs.PlaceList.{PlaceList, item_at, without, with_at, first_place, last_place, place_after, IsApart, IsValid}
use Rattle.clru_list.specs.Places.{count, nowhere}
use Rattle.clru_list.proofs.Puts.{split, decide}
use Rattle.clru_list.proofs.Paths.{count-here}
use Rattle.clru_list.proofs.EntryLists as entries
pub use Rattle.clru_list.proofs.EntryLists.{item_at-here, item_at-other, without-none, Split, split_at, IsHead, head_is, no_head, IsLast, last_is, item_at-last, with_at-last}

module _ {T : Type 0} where
  -- ---- entries that stand around a place

  module _ (bs cs : List (ℕ × T)) (p : ℕ) (x : T) (apart : IsApart (bs ++ (p, x) ∷ cs)) where
    pub item_at-around : item_at p (bs ++ (p, x) ∷ cs) ≡ Some x
    item_at-around = entries.item_at-in p x bs cs (entries.absent_before bs cs p x apart)

    pub without-around : without p (bs ++ (p, x) ∷ cs) ≡ bs ++ cs
    without-around = entries.without-split p x bs cs (entries.absent_before bs cs p x apart)

    pub with_at-around : (w : T) → with_at p w (bs ++ (p, x) ∷ cs) ≡ bs ++ (p, w) ∷ cs
    with_at-around w = entries.with_at-split p x w bs cs (entries.absent_before bs cs p x apart)

    pub place_after-around : place_after p (bs ++ (p, x) ∷ cs) ≡ first_place cs
    place_after-around = entries.place_after-split p x bs cs (entries.absent_before bs cs p x apart)

  -- ---- the item at a place after a change

  without_at : (p q : ℕ) (es : List (ℕ × T)) → IsApart es → (o : Option T) → item_at p es ≡ o → item_at q (without p es) ≡ cond (p == q) None (item_at q es)
  without_at p q es apart None h =
      let P : ℕ → Type 0 = λ k. item_at k es ≡ None in
      ap (item_at q) (entries.without-none p es h) ∙ decide p q (λ same t. rw t (subst P same h)) (λ _ f. rw f refl)
  without_at p q es apart (Some x) h =
      let s = entries.split_at p x es h in let order = entries.reordered p x s.before s.behind s.absent in
      let once = entries.counts_from_apart es apart p in
      let counted : count p (keys_of es) ≡ count p (keys_of ((p, x) ∷ (s.before ++ s.behind))) = ap (λ l. count p (keys_of l)) s.is ∙ order.counts p in
      let here = count-here p (keys_of (s.before ++ s.behind)) in
      ap (item_at q) (ap (without p) s.is ∙ entries.without-split p x s.before s.behind s.absent)
      ∙ decide p q
      (λ same t. let P : ℕ → Type 0 = λ k. item_at k (s.before ++ s.behind) ≡ None in
      rw t (subst P same (entries.item_at-none p (s.before ++ s.behind) (omega arith))))
      (λ ne f. rw f (sym (ap (item_at q) s.is ∙ order.items q ∙ entries.item_at-other q p x (s.before ++ s.behind) (λ e. ne (sym e)))))

  pub item_at-without : (p q : ℕ) (es : List (ℕ × T)) → IsApart es → item_at q (without p es) ≡ cond (p == q) None (item_at q es)
  item_at-without p q es apart = without_at p q es apart (item_at p es) refl

  pub item_at-with_at : (p q : ℕ) (w x : T) (es : List (ℕ × T)) → item_at p es ≡ Some x → item_at q (with_at p w es) ≡ cond (p == q) (Some w) (item_at q es)
  item_at-with_at p q w x es h =
      let s = entries.split_at p x es h in let old = entries.reordered p x s.before s.behind s.absent in let new = entries.reordered p w s.before s.behind s.absent in
      ap (item_at q) (ap (with_at p w) s.is ∙ entries.with_at-split p x w s.before s.behind s.absent) ∙ new.items q
      ∙ decide p q
      (λ same t. let P : ℕ → Type 0 = λ k. item_at k ((p, w) ∷ (s.before ++ s.behind)) ≡ Some w in rw t (subst P same (entries.item_at-here p w (s.before ++ s.behind))))
      (λ ne f. let apart : q ≡ p → ⊥ = λ e. ne (sym e) in
      rw f (entries.item_at-other q p w (s.before ++ s.behind) apart ∙ sym (ap (item_at q) s.is ∙ old.items q ∙ entries.item_at-other q p x (s.before ++ s.behind) apart)))

  pub item_at-to_front : (p q : ℕ) (x : T) (es : List (ℕ × T)) → IsApart es → item_at p es ≡ Some x → item_at q ((p, x) ∷ without p es) ≡ item_at q es
  item_at-to_front p q x es apart h =
      let P : ℕ → Type 0 = λ k. item_at k ((p, x) ∷ without p es) ≡ item_at k es in
      decide p q (λ same _. subst P same (entries.item_at-here p x (without p es) ∙ sym h))
      (λ ne f. entries.item_at-other q p x (without p es) (λ e. ne (sym e)) ∙ item_at-without p q es apart ∙ rw f refl)

  -- a place that was pushed to the back was free
  pub fresh_back : (p : ℕ) (x : T) (es : List (ℕ × T)) → IsApart (es ++ (p, x) ∷ []) → item_at p es ≡ None
  fresh_back p x es apart = entries.item_at-none p es (entries.absent_before es [] p x apart)

  -- ---- lengths

  pub length-without : (p : ℕ) (x : T) (es : List (ℕ × T)) → item_at p es ≡ Some x → length es ≡ suc (length (without p es))
  length-without p x es h =
      let s = entries.split_at p x es h in
      ap length s.is ∙ (entries.reordered p x s.before s.behind s.absent).lengths
      ∙ ap (λ l. suc (length l)) (sym (ap (without p) s.is ∙ entries.without-split p x s.before s.behind s.absent))

  pub length-with_at : (p : ℕ) (w : T) (es : List (ℕ × T)) → length (with_at p w es) ≡ length es
  length-with_at p w [] = refl
  length-with_at p w (e ∷ es) = let ih = length-with_at p w es in split (p == e.0) (λ t. rw t refl) (λ f. rw f (omega arith))

  -- ---- places

  -- no list holds the greatest number as a place
  pub none_at_greatest : (l : PlaceList T) → IsValid l → item_at (2 ^ 64 - 1) l.entries ≡ None
  none_at_greatest l valid = none_at (item_at nowhere l.entries) refl where
    none_at : (o : Option T) → item_at nowhere l.entries ≡ o → item_at nowhere l.entries ≡ None
    none_at None h = h
    none_at (Some x) h = let below = valid.below nowhere (rw h refl) in absurd (omega (arith, valid.countable))

  -- a place with an item is below the number of places
  pub held_below : (l : PlaceList T) (p : ℕ) (x : T) → IsValid l → item_at p l.entries ≡ Some x → p < l.places
  held_below l p x valid h = valid.below p (rw h refl)

  -- the first place and the last have an item
  pub first_held : (p : ℕ) (es : List (ℕ × T)) → first_place es ≡ Some p → IsSome (item_at p es)
  first_held p es h = let e = entries.head_is p es h in rw (ap (item_at p) e.is ∙ entries.item_at-here p e.value e.rest) refl

  pub last_held : (p : ℕ) (es : List (ℕ × T)) → IsApart es → last_place es ≡ Some p → IsSome (item_at p es)
  last_held p es apart h = entries.last_some p es (entries.last_is p es apart h)

  pub without-last : (p : ℕ) (es : List (ℕ × T)) (last : entries.IsLast p es) → without p es ≡ last.before
  without-last p es last = ap (without p) last.is ∙ entries.without-split p last.item last.before [] last.absent ∙ append-nil last.before

  -- another item moves no place
  pub first_place-with_at : (p : ℕ) (w : T) (es : List (ℕ × T)) → first_place (with_at p w es) ≡ first_place es
  first_place-with_at p w [] = refl
  first_place-with_at p w (e ∷ es) = split (p == e.0) (λ t. rw t refl) (λ f. rw f refl)

  pub place_after-with_at : (p q : ℕ) (w : T) (es : List (ℕ × T)) → place_after q (with_at p w es) ≡ place_after q es
  place_after-with_at p q w [] = refl
  place_after-with_at p q w (e ∷ es) =
      split (p == e.0) (λ t. rw t refl)
      (λ f. split (q == e.0) (λ t. rw (f, t) (first_place-with_at p w es)) (λ n. rw (f, n) (place_after-with_at p q w es)))
