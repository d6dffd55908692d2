-- Which places are held and which are free, and what the steps of a list do to them.
use Rattle.std.proofs.Common.{◌≡◌, ℕ, ◌+◌, ◌<◌, ◌≤◌, ◌⊎◌, inl, inr, List, [], ◌∷◌, length, Option, Some, None, refl, sym, ap, ◌∙◌, arith, subst}
use Rattle.std.proofs.lemmas.Bool.{cases_lt}
use Rattle.std.specs.Map.{keys_of}
use Rattle.clru_list.specs.PlaceList.{item_at}
use Rattle.clru_list.specs.Places.{put, count, IsRest, nowhere}
use Rattle.clru_list.specs.Links.{IsHeld}
use Rattle.clru_list.proofs.Puts.{decide, put-here, put-other}
use Rattle.clru_list.proofs.Paths.{count-here, count-other, apart_head, apart_tail}
use Rattle.clru_list.proofs.EntryLists.{IsReordered, item_at-none, item_at-here, item_at-other}
use Rattle.clru_list.proofs.Rings.{IsOnce}

-- a link that no free place has
pub spare-outside : (f : ℕ → ℕ) (k v at : ℕ) (qs : List ℕ) → count k qs ≡ 0 → IsRest f at qs → IsRest (put f k v) at qs
spare-outside f k v at [] h chain = chain
spare-outside f k v at (q ∷ qs) h chain =
    let tail = apart_tail k q qs h in let P : ℕ → Type 0 = λ a. IsRest (put f k v) a qs in
    (chain.0, subst P (sym (put-other f k v q (apart_head k q qs h))) (spare-outside f k v (f q) qs tail chain.1))

module _ {T : Type 0} (next : ℕ → ℕ) (item : ℕ → Option T) (free size : ℕ) where
  -- each place is held once, and `nowhere` is not held
  pub once : (all : List (ℕ × T)) → IsHeld next item free size all → IsOnce (nowhere ∷ keys_of all)
  once all h k =
      elim (cases_lt k size) [
        | inl lt ↦ let n = count-other k nowhere (keys_of all) (λ e. absurd (omega (arith, h.small))) in omega (arith, h.inside k lt)
        | inr ge ↦ decide k nowhere
            (λ e _. let n = count-here k (keys_of all) in let P : ℕ → Type 0 = λ m. count k (m ∷ keys_of all) ≡ 1 + count k (keys_of all) in
            let m = subst P e n in omega (arith, h.outside k ge))
            (λ ne _. let n = count-other k nowhere (keys_of all) ne in omega (arith, h.outside k ge))
      ]

  -- a place that is held, or `nowhere`, is not free
  pub not_spare : (all : List (ℕ × T)) (h : IsHeld next item free size all) (k : ℕ) → 0 < count k (nowhere ∷ keys_of all) → count k h.spare ≡ 0
  not_spare all h k held =
      elim (cases_lt k size) [
        | inl lt ↦ let n = count-other k nowhere (keys_of all) (λ e. absurd (omega (arith, h.small))) in omega (arith, h.inside k lt)
        | inr ge ↦ omega (arith, h.outside k ge)
      ]

  -- the place of an item has a node
  pub below : (all : List (ℕ × T)) → IsHeld next item free size all → (k : ℕ) → 0 < count k (keys_of all) → k < size
  below all h k held = elim (cases_lt k size) [ inl lt ↦ lt | inr ge ↦ absurd (omega (arith, h.outside k ge)) ]

  -- `nowhere` or a place with a node
  pub end_of : (all : List (ℕ × T)) → IsHeld next item free size all → (k : ℕ) → 0 < count k (nowhere ∷ keys_of all) → (k ≡ nowhere) ⊎ (k < size)
  end_of all h k held =
      decide k nowhere (λ e _. inl e)
      (λ ne _. inr (let n = count-other k nowhere (keys_of all) ne in below all h k (omega arith)))

  pub held-reorder : (es ds : List (ℕ × T)) → IsReordered es ds → IsHeld next item free size es → IsHeld next item free size ds
  held-reorder es ds same h = record {
    spare = h.spare;
    live = λ k. h.live k ∙ same.items k;
    chained = h.chained;
    inside = λ k lt. omega (arith, h.inside k lt, same.counts k);
    outside = λ k ge. omega (arith, h.outside k ge, same.counts k);
    total = omega (arith, h.total, same.lengths);
    small = h.small;
  }

  -- a link of a place that is not free
  pub held-next : (all : List (ℕ × T)) (at v : ℕ) → 0 < count at (nowhere ∷ keys_of all) → IsHeld next item free size all → IsHeld (put next at v) item free size all
  held-next all at v held h = record {
    spare = h.spare;
    live = h.live;
    chained = spare-outside next at v free h.spare (not_spare all h at held) h.chained;
    inside = h.inside;
    outside = h.outside;
    total = h.total;
    small = h.small;
  }

  fill_from : (all : List (ℕ × T)) (x : T) (spare : List ℕ) → (nowhere ≡ free → ⊥) → ((k : ℕ) → item k ≡ item_at k all) → IsRest next free spare
      → ((k : ℕ) → k < size → count k spare + count k (keys_of all) ≡ 1) → ((k : ℕ) → size ≤ k → count k spare + count k (keys_of all) ≡ 0)
      → length all + length spare ≡ size → size ≤ nowhere → IsHeld next (put item free (Some x)) (next free) size ((free, x) ∷ all)
  fill_from all x [] ne live chained inside outside total small = absurd (ne (sym chained))
  fill_from all x (q ∷ qs) ne live chained inside outside total small =
      let I : ℕ → Type 0 = λ a. (k : ℕ) → k < size → count k (a ∷ qs) + count k (keys_of all) ≡ 1 in let inside_free = subst I (sym chained.0) inside in
      let O : ℕ → Type 0 = λ a. (k : ℕ) → size ≤ k → count k (a ∷ qs) + count k (keys_of all) ≡ 0 in let outside_free = subst O (sym chained.0) outside in
      let S : ℕ → Type 0 = λ a. IsRest next (next a) qs in
      record {
        spare = qs;
        live = λ k. decide free k (λ e t. rw t (let P : ℕ → Type 0 = λ m. Some x ≡ item_at m ((free, x) ∷ all) in subst P e (sym (item_at-here free x all))))
            (λ other f. rw f (live k ∙ sym (item_at-other k free x all (λ e. other (sym e)))));
        chained = subst S (sym chained.0) chained.1;
        inside = λ k lt. omega (arith, inside_free k lt);
        outside = λ k ge. omega (arith, outside_free k ge);
        total = omega arith;
        small = small;
      }

  -- an item goes into the first free place
  pub held-fill : (all : List (ℕ × T)) (x : T) → (nowhere ≡ free → ⊥) → IsHeld next item free size all
      → IsHeld next (put item free (Some x)) (next free) size ((free, x) ∷ all)
  held-fill all x ne h = fill_from all x h.spare ne h.live h.chained h.inside h.outside h.total h.small

  free_from : (all : List (ℕ × T)) → IsHeld next item free size all → (spare : List ℕ) → IsRest next free spare → length all + length spare ≡ size
      → ((k : ℕ) → size ≤ k → count k spare ≡ 0) → ((k : ℕ) → k < size → count k spare + count k (keys_of all) ≡ 1)
      → ((free ≡ nowhere) × (size ≡ length all)) ⊎ ((free < size) × (item free ≡ None) × (length all < size))
  free_from all h [] chained total outside inside = inl (chained, omega arith)
  free_from all h (q ∷ qs) chained total outside inside =
      let here = count-here q qs in
      let lt : q < size = elim (cases_lt q size) [ inl lt ↦ lt | inr ge ↦ absurd (omega (arith, outside q ge)) ] in
      let none = item_at-none q all (omega (arith, inside q lt)) in
      inr (omega (arith, chained.0), ap item chained.0 ∙ h.live q ∙ none, omega arith)

  -- the first free place has a node and no item, or there is none
  pub free_is : (all : List (ℕ × T)) → IsHeld next item free size all → ((free ≡ nowhere) × (size ≡ length all)) ⊎ ((free < size) × (item free ≡ None) × (length all < size))
  free_is all h = free_from all h h.spare h.chained h.total (λ k ge. omega (arith, h.outside k ge)) (λ k lt. h.inside k lt)

  -- an item goes into a new node
  pub held-append : (all : List (ℕ × T)) (x : T) (v : ℕ) → size < nowhere → IsHeld next item free size all
      → IsHeld (put next size v) (put item size (Some x)) free (size + 1) ((size, x) ∷ all)
  held-append all x v room h = record {
    spare = h.spare;
    live = λ k. decide size k (λ e t. rw t (let P : ℕ → Type 0 = λ m. Some x ≡ item_at m ((size, x) ∷ all) in subst P e (sym (item_at-here size x all))))
        (λ ne f. rw f (h.live k ∙ sym (item_at-other k size x all (λ e. ne (sym e)))));
    chained = spare-outside next size v free h.spare (omega (arith, h.outside size)) h.chained;
    inside = λ k lt. decide k size
        (λ e _. let n = count-here k (keys_of all) in let P : ℕ → Type 0 = λ m. count k (m ∷ keys_of all) ≡ 1 + count k (keys_of all) in let m = subst P e n in
        omega (arith, h.outside k (omega arith)))
        (λ ne _. let n = count-other k size (keys_of all) ne in omega (arith, h.inside k (omega arith)));
    outside = λ k ge. let n = count-other k size (keys_of all) (λ e. absurd (omega arith)) in omega (arith, h.outside k (omega arith));
    total = omega (arith, h.total);
    small = omega arith;
  }

  -- an item leaves its place, which is then the first free one
  pub held-release : (all : List (ℕ × T)) (p : ℕ) (x : T) → IsHeld next item free size ((p, x) ∷ all)
      → IsHeld (put next p free) (put item p None) p size all
  held-release all p x h =
      let here = count-here p (keys_of all) in
      let free_p = not_spare ((p, x) ∷ all) h p (omega arith) in
      let once_p = once ((p, x) ∷ all) h p in
      let P : ℕ → Type 0 = λ a. IsRest (put next p free) a h.spare in
      record {
        spare = p ∷ h.spare;
        live = λ k. decide p k (λ e t. rw t (sym (item_at-none k all (let Q : ℕ → Type 0 = λ m. count m (keys_of all) ≡ 0 in subst Q e (omega arith)))))
            (λ ne f. rw f (h.live k ∙ item_at-other k p x all (λ e. ne (sym e))));
        chained = (refl, subst P (sym (put-here next p free p refl)) (spare-outside next p free free h.spare free_p h.chained));
        inside = λ k lt. omega (arith, h.inside k lt);
        outside = λ k ge. omega (arith, h.outside k ge);
        total = omega (arith, h.total);
        small = h.small;
      }

  -- another item at a place
  pub held-write : (all : List (ℕ × T)) (p : ℕ) (x w : T) → IsHeld next item free size ((p, x) ∷ all)
      → IsHeld next (put item p (Some w)) free size ((p, w) ∷ all)
  held-write all p x w h = record {
    spare = h.spare;
    live = λ k. decide p k (λ e t. rw t (let P : ℕ → Type 0 = λ m. Some w ≡ item_at m ((p, w) ∷ all) in subst P e (sym (item_at-here p w all))))
        (λ ne f. rw f (h.live k ∙ item_at-other k p x all (λ e. ne (sym e)) ∙ sym (item_at-other k p w all (λ e. ne (sym e)))));
    chained = h.chained;
    inside = h.inside;
    outside = h.outside;
    total = h.total;
    small = h.small;
  }
