-- What the fields of a list keep, and what its steps do to its entries.
use Rattle.std.proofs.Common.{◌≡◌, ℕ, ◌<◌, ◌≤◌, ◌^◌, inl, inr, List, [], ◌∷◌, ◌++◌, length, Option, Some, None, IsSome, refl, sym, ap, ◌∙◌, arith, subst}
use Rattle.std.proofs.lemmas.Bool.{cases_lt}
use Rattle.std.specs.Map.{keys_of}
use Rattle.clru_list.specs.PlaceList.{place_list, item_at, first_place, last_place, IsValid}
use Rattle.clru_list.specs.Places.{put, count, nowhere}
use Rattle.clru_list.specs.Links.{LinkMap, IsPath, IsLinked, IsHeld, IsSound, place_of, walk, unlinked, linked, released, occupied, spot, IsEnd}
use Rattle.clru_list.proofs.Puts.{decide}
use Rattle.clru_list.proofs.Paths.{count-append, count-here, count-other, last_or, first_or, last_or-counted}
use Rattle.clru_list.proofs.EntryLists.{reordered, item_at-none, item_at-here, keys-split, keys-joined, apart_from_counts, first_place-is, last_place-is}
use Rattle.clru_list.proofs.Rings.{IsOnce, prev_is, front_is, back_is, linked-unlink, linked-link, linked-next, linked-prev}
use Rattle.clru_list.proofs.Holding.{once, below, end_of, held-reorder, held-next, held-fill, held-append, held-release}

module _ {T : Type 0} where
  -- the walk along the links of the entries
  walk-from : (l : LinkMap T) (es : List (ℕ × T)) (a : ℕ) → IsPath l.next a (keys_of es) nowhere → ((k : ℕ) → count k (keys_of es) ≤ 1)
      → ((k : ℕ) (x : T) → item_at k es ≡ Some x → l.item k ≡ Some x) → walk l (l.next a) (length es) ≡ es
  walk-from l [] a path apart live = refl
  walk-from l (e ∷ es) a path apart live =
      let here = live e.0 e.1 (item_at-here e.0 e.1 es) in let n = count-here e.0 (keys_of es) in
      let rest = walk-from l es e.0 path.1 (λ k. omega (arith, apart k))
      (λ k x h. live k x (decide k e.0
      (λ same _. let P : ℕ → Type 0 = λ m. item_at m es ≡ Some x in let none = item_at-none e.0 es (omega (arith, apart e.0)) in
      let some = subst P same h in absurd (cc))
      (λ ne f. rw f h))) in
      rw (path.0, here) (ap (λ r. e ∷ r) rest)

  pub counted : (k : ℕ) (es : List (ℕ × T)) → IsSome (item_at k es) → 0 < count k (keys_of es)
  counted k es some =
      elim (cases_lt 0 (count k (keys_of es))) [
        | inl lt ↦ lt
        | inr ge ↦ let P : Option T → Type 0 = λ o. IsSome o in let none = subst P (item_at-none k es (omega arith)) some in absurd (cc)
      ]

  module _ (l : LinkMap T) (len capacity places allotted : ℕ) (es : List (ℕ × T)) (s : IsSound l len capacity places allotted es) where
    pub ring_once : IsOnce (nowhere ∷ keys_of es)
    ring_once = once l.next l.item l.free l.size es s.held

    pub keys_once : (k : ℕ) → count k (keys_of es) ≤ 1
    keys_once k = omega (arith, ring_once k)

    pub no_nowhere : count nowhere (keys_of es) ≡ 0
    no_nowhere = let here = count-here nowhere (keys_of es) in omega (arith, ring_once nowhere)

    -- what contracts see is the entries
    pub walk-is : walk l (l.next nowhere) len ≡ es
    walk-is =
        let P : ℕ → Type 0 = λ n. walk l (l.next nowhere) n ≡ es in
        subst P (sym s.counted) (walk-from l es nowhere s.linked.forward keys_once (λ k x h. s.held.live k ∙ h))

    pub view-is : place_list (walk l (l.next nowhere) len) capacity places ≡ place_list es capacity places
    view-is = ap (λ w. place_list w capacity places) walk-is

    pub valid : IsValid (place_list es capacity places)
    valid = record {
      apart = apart_from_counts es keys_once;
      below = λ p some. omega (arith, below l.next l.item l.free l.size es s.held p (counted p es some), s.within);
      countable = omega (arith, s.reserved, s.countable);
      fits = omega (arith, s.counted, s.fits);
      held = omega (arith, s.held.total, s.within);
    }

    pub valid_view : IsValid (place_list (walk l (l.next nowhere) len) capacity places)
    valid_view = subst IsValid (sym view-is) valid

    pub first_place_view : place_of (l.next nowhere) ≡ first_place es
    first_place_view = ap place_of (front_is l.next l.prev (keys_of es) s.linked) ∙ sym (first_place-is es no_nowhere)

    pub last_place_view : place_of (l.prev nowhere) ≡ last_place es
    last_place_view = ap place_of (back_is l.next l.prev (keys_of es) s.linked) ∙ sym (last_place-is es no_nowhere)

    -- a link may be written at the ends
    pub end_at : (k : ℕ) → 0 < count k (nowhere ∷ keys_of es) → IsEnd l k
    end_at k held = end_of l.next l.item l.free l.size es s.held k held

  -- an item that is not linked, with the other entries
  pub record IsLoose (l : LinkMap T) (p : ℕ) (x : T) (es : List (ℕ × T)) : Type 0 where
    pub linked : IsLinked l.next l.prev (keys_of es)
    pub held : IsHeld l.next l.item l.free l.size ((p, x) ∷ es)

  module _ (l : LinkMap T) (p : ℕ) (x : T) where
    -- it comes between a and b
    pub link-loose : (a b : ℕ) (bs cs : List (ℕ × T)) → a ≡ last_or nowhere (keys_of bs) → b ≡ first_or nowhere (keys_of cs) → IsLoose l p x (bs ++ cs)
        → IsLinked (linked l a p b).next (linked l a p b).prev (keys_of (bs ++ (p, x) ∷ cs))
        × IsHeld (linked l a p b).next l.item l.free l.size (bs ++ (p, x) ∷ cs)
    link-loose a b bs cs is_a is_b loose =
        let ps = keys_of bs in let qs = keys_of cs in let split = keys-split bs cs p x in let joined = keys-joined bs cs in
        let apart = once l.next l.item l.free l.size ((p, x) ∷ (bs ++ cs)) loose.held in
        let apart_in : IsOnce (nowhere ∷ (ps ++ p ∷ qs)) = λ k. omega (arith, apart k, ap (count k) joined, count-append k ps qs, count-append k ps (p ∷ qs)) in
        let here = count-here p (keys_of (bs ++ cs)) in
        let outside : count p ps ≡ 0 = omega (arith, apart p, ap (count p) joined, count-append p ps qs) in
        let R : List ℕ → Type 0 = λ r. IsLinked l.next l.prev r in
        let S : List ℕ → Type 0 = λ r. IsLinked (put (put l.next p b) a p) (put (put l.prev p a) b p) r in
        let last = last_or-counted nowhere ps in
        let A : ℕ → Type 0 = λ k. 0 < count k (nowhere ∷ ps) in let held_a = subst A (sym is_a) last in
        let at_p = held-next l.next l.item l.free l.size ((p, x) ∷ (bs ++ cs)) p b (omega arith) loose.held in
        let at_a = held-next (put l.next p b) l.item l.free l.size ((p, x) ∷ (bs ++ cs)) a p
        (omega (arith, ap (count a) joined, count-append a ps qs)) at_p in
        let order = reordered p x bs cs outside in (
          subst S (sym split) (linked-link l.next l.prev ps p qs a b is_a is_b apart_in (subst R joined loose.linked)),
          held-reorder (put (put l.next p b) a p) l.item l.free l.size ((p, x) ∷ (bs ++ cs)) (bs ++ (p, x) ∷ cs)
              (record { items = λ k. sym (order.items k); counts = λ k. sym (order.counts k); lengths = sym order.lengths }) at_a,
        )

    -- it leaves its neighbours
    pub unlink-loose : (bs cs : List (ℕ × T)) → count p (keys_of bs) ≡ 0 → IsLinked l.next l.prev (keys_of (bs ++ (p, x) ∷ cs))
        → IsHeld l.next l.item l.free l.size (bs ++ (p, x) ∷ cs) → IsLoose (unlinked l p) p x (bs ++ cs)
    unlink-loose bs cs outside ring holds =
        let ps = keys_of bs in let qs = keys_of cs in let split = keys-split bs cs p x in let joined = keys-joined bs cs in
        let apart = once l.next l.item l.free l.size (bs ++ (p, x) ∷ cs) holds in
        let apart_in : IsOnce (nowhere ∷ (ps ++ p ∷ qs)) = λ k. omega (arith, apart k, ap (count k) split) in
        let R : List ℕ → Type 0 = λ r. IsLinked l.next l.prev r in let ring_in = subst R split ring in
        let S : List ℕ → Type 0 = λ r. IsLinked (unlinked l p).next (unlinked l p).prev r in
        let last = last_or-counted nowhere ps in
        let A : ℕ → Type 0 = λ k. 0 < count k (nowhere ∷ ps) in let held_a = subst A (sym (prev_is l.next l.prev ps p qs ring_in)) last in
        let order = reordered p x bs cs outside in
        record {
          linked = subst S (sym joined) (linked-unlink l.next l.prev ps p qs apart_in ring_in);
          held = held-next l.next l.item l.free l.size ((p, x) ∷ (bs ++ cs)) (l.prev p) (l.next p)
              (omega (arith, ap (count (l.prev p)) joined, count-append (l.prev p) ps qs))
              (held-reorder l.next l.item l.free l.size (bs ++ (p, x) ∷ cs) ((p, x) ∷ (bs ++ cs)) order holds);
        }

    -- its place is free
    pub release-loose : (es : List (ℕ × T)) → IsLoose l p x es
        → IsLinked (released l p).next l.prev (keys_of es) × IsHeld (released l p).next (put l.item p None) p l.size es
    release-loose es loose =
        let here = count-here p (keys_of es) in let apart = once l.next l.item l.free l.size ((p, x) ∷ es) loose.held in
        let outside : count p (nowhere ∷ keys_of es) ≡ 0 = omega (arith, apart p) in
        (linked-next l.next l.prev p l.free (keys_of es) outside loose.linked, held-release l.next l.item l.free l.size es p x loose.held)

  -- an item goes into a free place or a new one
  pub occupy-loose : (l : LinkMap T) (x : T) (es : List (ℕ × T)) → IsLinked l.next l.prev (keys_of es) → IsHeld l.next l.item l.free l.size es
      → (l.free ≡ nowhere → l.size < nowhere) → IsLoose (occupied l x) (spot l) x es
  occupy-loose l x es ring holds room =
      decide nowhere l.free
      (λ e t. let small = room (sym e) in let far = count-other l.size nowhere (keys_of es) (λ d. absurd (omega arith)) in
      let outside : count l.size (nowhere ∷ keys_of es) ≡ 0 = omega (arith, holds.outside l.size (omega arith)) in
      rw t (record {
        linked = linked-next l.next (put l.prev l.size nowhere) l.size nowhere (keys_of es) outside (linked-prev l.next l.prev l.size nowhere (keys_of es) outside ring);
        held = held-append l.next l.item l.free l.size es x nowhere small holds;
      }))
      (λ ne f. rw f (record { linked = ring; held = held-fill l.next l.item l.free l.size es x ne holds }))

  -- a list with no nodes
  pub sound-empty : (l : LinkMap T) (capacity places allotted : ℕ) → l.next nowhere ≡ nowhere → l.prev nowhere ≡ nowhere → ((k : ℕ) → l.item k ≡ None)
      → l.free ≡ nowhere → l.size ≡ 0 → places ≤ allotted → allotted < 2 ^ 63 → IsSound l 0 capacity places allotted []
  sound-empty l capacity places allotted next prev item free size reserved countable = record {
    linked = record {
      forward = next;
      backward = λ k held. decide k nowhere (λ e _. ap (λ m. l.prev (l.next m)) e ∙ ap l.prev next ∙ prev ∙ sym e)
          (λ ne _. let none = count-other k nowhere [] ne in absurd (omega arith));
    };
    held = record { spare = []; live = item; chained = free; inside = λ k lt. absurd (omega arith); outside = λ k ge. refl; total = sym size; small = omega arith };
    counted = refl;
    fits = omega arith;
    within = omega arith;
    reserved = reserved;
    countable = countable;
  }
