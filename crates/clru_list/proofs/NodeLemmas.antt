-- What a write to one node and its upper halves, or a new node, does to the links.
use Rattle.std.proofs.Common.{◌≡◌, ℕ, zero, suc, ◌-◌, ◌+◌, ◌*◌, ◌<◌, List, length, replicate, take, get_or, set, map, ◌++◌, ◌∷◌, [], Option, None, vec_len, sym, ap, ◌∙◌, arith, subst, inl, inr, ◌≤◌, ◌⊎◌, refl}
use Rattle.std.proofs.lemmas.List.{map-set, map-append, get_or-set_same, get_or-set_other, get_or_append_left, get_or-map, length-map, get_or-append_right, take_all}
use Rattle.std.specs.Prelude.{Vec}
use Rattle.std.specs.Vec.{with_item}
use Rattle.std.proofs.lemmas.List.{get_or_past, length-append}
use Rattle.std.proofs.Math.Seq.{get_or-append_seam}
use Rattle.std.proofs.lemmas.Bool.{cases_lt}
use mathlib.Core.Path.{fun_ext}
use Rattle.clru_list.specs.Places.{put, nowhere, narrow, place_by}
use Rattle.clru_list.specs.Halves.{upper_next, upper_prev}
use Rattle.clru_list.specs.Links.{links_of, next_of, prev_of, item_of, allotted_of, IsEnd, set_next, set_prev, set_item}
use Rattle.clru_list.specs.declared.halves.Upper.{Upper}
use Rattle.clru_list.specs.declared.links.Links.{Links}
use Rattle.clru_list.specs.declared.links.Node.{Node}
use Rattle.clru_list.proofs.Puts.{decide, put-same, put-swap, put-other}

module _ {N X : Type 0} (field : N → X) (d : X) where
  -- a field of each node
  abbrev pub column : List N → ℕ → X
  column ns k = get_or (map field ns) k d

  pub column-set : (ns : List N) (at : ℕ) (n : N) → at < length ns → column (set ns at n) ≡ put (column ns) at (field n)
  column-set ns at n within =
      fun_ext (λ k. let long : at < length (map field ns) = rw length-map within in
      rw (map-set field ns at n) (decide at k
      (λ e t. rw (t, ← e) (get_or-set_same (map field ns) at (field n) d long))
      (λ ne f. rw f (get_or-set_other (map field ns) at k (field n) d (λ e. ne (sym e))))))

  pub column-append : (ns : List N) (n : N) → column (ns ++ n ∷ []) ≡ put (column ns) (length ns) (field n)
  column-append ns n =
      let len : length (map field ns) ≡ length ns = length-map ns field in
      let longer : length (map field ns ++ field n ∷ []) ≡ length ns + 1 = length-append (map field ns) (field n ∷ []) ∙ ap (λ m. m + 1) len in
      fun_ext (λ k. rw (map-append field ns (n ∷ [])) (decide (length ns) k
      (λ e t. let P : ℕ → Type 0 = λ m. get_or (map field ns ++ field n ∷ []) m d ≡ field n in
      rw t (subst P (len ∙ e) (get_or-append_seam (map field ns) (field n) [] d)))
      (λ ne f. rw f (elim (cases_lt k (length ns)) [
        | inl lt ↦ get_or_append_left (map field ns) (field n ∷ []) d k (omega arith)
        | inr ge ↦ get_or_past (map field ns ++ field n ∷ []) k d (omega arith) ∙ sym (get_or_past (map field ns) k d (omega arith))
      ]))))

  -- the same, where it is known how many nodes there were
  pub column-longer : (ns ms : List N) (n : N) (k : ℕ) → ms ≡ ns ++ n ∷ [] → length ns ≡ k → column ms ≡ put (column ns) k (field n)
  column-longer ns ms n k same len = ap column same ∙ column-append ns n ∙ ap (λ m. put (column ns) m (field n)) len

  -- the field of the node that is read
  pub column-read : (ns : List N) (at : ℕ) (n : N) → at < length ns → n ≡ get_or ns at n → column ns at ≡ field n
  column-read ns at n within h = get_or-map field ns at n d within ∙ ap field (sym h)

pub place_by-none : place_by 0 0 ≡ nowhere
unfolding place_by
place_by-none = refl

pub place_by-some : (n : ℕ) → (n ≡ 0 → ⊥) → place_by n 0 + 1 ≡ n
unfolding place_by
place_by-some n some = decide (n + 0 * 4294967296) 0 (λ e _. absurd (some (omega arith))) (λ _ f. rw f (omega arith))

pub place_by-below : (n : ℕ) → place_by n 0 < narrow → n ≤ narrow
place_by-below n below = decide n 0 (λ e _. omega arith) (λ ne _. omega (arith, place_by-some n ne))

-- a lower half that names a place by itself
pub lower_alone : (a b to : ℕ) → a < 4294967296 → b < 4294967296 → place_by a b ≡ to → (to ≡ nowhere) ⊎ (to < narrow) → place_by a 0 ≡ to
unfolding place_by
lower_alone a b to lower upper is small =
    decide (a + b * 4294967296) 0
    (λ e t. let h : nowhere ≡ to = rw t at is in let none : a + 0 * 4294967296 ≡ 0 = omega arith in rw none h)
    (λ ne f. let h : a + b * 4294967296 - 1 ≡ to = rw f at is in
    let alone : b ≡ 0 = elim small [ inl e ↦ absurd (omega arith) | inr lt ↦ omega arith ] in
    sym (ap (place_by a) alone) ∙ is)

-- what links lead to, by their halves
abbrev pub joined : (ℕ → ℕ) → (ℕ → ℕ) → ℕ → ℕ
joined lower upper k = place_by (lower k) (upper k)

pub joined-put : (lower upper : ℕ → ℕ) (at a b : ℕ) → joined (put lower at a) (put upper at b) ≡ put (joined lower upper) at (place_by a b)
joined-put lower upper at a b = fun_ext (λ k. decide at k (λ _ t. rw t refl) (λ _ f. rw f refl))

module _ {A : Type 0} where
  -- where there are no upper halves they are 0
  pub upper_next-past : (v : Vec Upper A) (at : ℕ) → vec_len v ≤ at → upper_next v at ≡ 0
  upper_next-past v at past = get_or_past (map (λ u. u.next) v.items) at 0 (omega (arith, v.ok.0, length-map v.items (λ u. u.next)))

  pub upper_prev-past : (v : Vec Upper A) (at : ℕ) → vec_len v ≤ at → upper_prev v at ≡ 0
  upper_prev-past v at past = get_or_past (map (λ u. u.prev) v.items) at 0 (omega (arith, v.ok.0, length-map v.items (λ u. u.prev)))

module _ {T A : Type 0} where
  abbrev lower_next : Links T A → ℕ → ℕ
  lower_next c = column (λ n. n.next) 0 c.nodes.items

  abbrev lower_prev : Links T A → ℕ → ℕ
  lower_prev c = column (λ n. n.prev) 0 c.nodes.items

  -- where the lower halves alone lead
  pub named : (c : Links T A) (at to : ℕ) → at < vec_len c.nodes → IsEnd (links_of c) to → vec_len c.nodes ≤ allotted_of c → vec_len c.upper ≤ at
      → (to ≡ nowhere) ⊎ (to < narrow)
  named c at to within end allotted none = elim end [ inl e ↦ inl e | inr h ↦ inr (omega arith) ]

  -- a node is written, and its upper halves
  pub links_of-write : (c : Links T A) (at : ℕ) (n : Node T) (v : Vec Upper A) (a b : ℕ) → at < vec_len c.nodes → (at ≡ nowhere → ⊥)
      → upper_next v ≡ put (upper_next c.upper) at a → upper_prev v ≡ put (upper_prev c.upper) at b
      → links_of (record c { nodes = with_item c.nodes at n; upper = v })
      ≡ record {
        next = put (next_of c) at (place_by n.next a);
        prev = put (prev_of c) at (place_by n.prev b);
        item = put (item_of c) at n.item;
        free = c.free;
        size = vec_len c.nodes;
      }
  links_of-write c at n v a b within ne nexts prevs =
      let long : at < length c.nodes.items = omega (arith, c.nodes.ok.0) in
      let lower = column-set (λ m. m.next) 0 c.nodes.items at n long in
      let next : next_of (record c { nodes = with_item c.nodes at n; upper = v }) ≡ put (next_of c) at (place_by n.next a) =
      (λ i. put (joined (lower i) (nexts i)) nowhere (place_by c.front 0)) ∙ ap (λ f. put f nowhere (place_by c.front 0)) (joined-put (lower_next c) (upper_next c.upper) at n.next a)
      ∙ put-swap (joined (lower_next c) (upper_next c.upper)) at nowhere (place_by n.next a) (place_by c.front 0) ne in
      let lower_of_prev = column-set (λ m. m.prev) 0 c.nodes.items at n long in
      let prev : prev_of (record c { nodes = with_item c.nodes at n; upper = v }) ≡ put (prev_of c) at (place_by n.prev b) =
      (λ i. put (joined (lower_of_prev i) (prevs i)) nowhere (place_by c.back 0)) ∙ ap (λ f. put f nowhere (place_by c.back 0)) (joined-put (lower_prev c) (upper_prev c.upper) at n.prev b)
      ∙ put-swap (joined (lower_prev c) (upper_prev c.upper)) at nowhere (place_by n.prev b) (place_by c.back 0) ne in
      let item : item_of (record c { nodes = with_item c.nodes at n }) ≡ put (item_of c) at n.item = column-set (λ m. m.item) None c.nodes.items at n long in
      λ i. record { next = next i; prev = prev i; item = item i; free = c.free; size = vec_len c.nodes }

  -- a node is added, with the upper halves of its place
  pub links_of-append : (c : Links T A) (v : Vec (Node T) A) (w : Vec Upper A) (n : Node T) (a b : ℕ) → v.items ≡ c.nodes.items ++ n ∷ []
      → vec_len v ≡ vec_len c.nodes + 1 → (vec_len c.nodes ≡ nowhere → ⊥)
      → upper_next w ≡ put (upper_next c.upper) (vec_len c.nodes) a → upper_prev w ≡ put (upper_prev c.upper) (vec_len c.nodes) b
      → links_of (record c { nodes = v; upper = w })
      ≡ record {
        next = put (next_of c) (vec_len c.nodes) (place_by n.next a);
        prev = put (prev_of c) (vec_len c.nodes) (place_by n.prev b);
        item = put (item_of c) (vec_len c.nodes) n.item;
        free = c.free;
        size = vec_len c.nodes + 1;
      }
  links_of-append c v w n a b same longer ne nexts prevs =
      let len : length c.nodes.items ≡ vec_len c.nodes = sym c.nodes.ok.0 in
      let lower = column-longer (λ m. m.next) 0 c.nodes.items v.items n (vec_len c.nodes) same len in
      let next : next_of (record c { nodes = v; upper = w }) ≡ put (next_of c) (vec_len c.nodes) (place_by n.next a) =
      (λ i. put (joined (lower i) (nexts i)) nowhere (place_by c.front 0)) ∙ ap (λ f. put f nowhere (place_by c.front 0)) (joined-put (lower_next c) (upper_next c.upper) (vec_len c.nodes) n.next a)
      ∙ put-swap (joined (lower_next c) (upper_next c.upper)) (vec_len c.nodes) nowhere (place_by n.next a) (place_by c.front 0) ne in
      let lower_of_prev = column-longer (λ m. m.prev) 0 c.nodes.items v.items n (vec_len c.nodes) same len in
      let prev : prev_of (record c { nodes = v; upper = w }) ≡ put (prev_of c) (vec_len c.nodes) (place_by n.prev b) =
      (λ i. put (joined (lower_of_prev i) (prevs i)) nowhere (place_by c.back 0)) ∙ ap (λ f. put f nowhere (place_by c.back 0)) (joined-put (lower_prev c) (upper_prev c.upper) (vec_len c.nodes) n.prev b)
      ∙ put-swap (joined (lower_prev c) (upper_prev c.upper)) (vec_len c.nodes) nowhere (place_by n.prev b) (place_by c.back 0) ne in
      let item : item_of (record c { nodes = v }) ≡ put (item_of c) (vec_len c.nodes) n.item =
      column-longer (λ m. m.item) None c.nodes.items v.items n (vec_len c.nodes) same len in
      λ i. record { next = next i; prev = prev i; item = item i; free = c.free; size = longer i }

  -- what a node says is what the links say
  pub node_next : (c : Links T A) (at : ℕ) (n : Node T) → at < vec_len c.nodes → (at ≡ nowhere → ⊥) → n ≡ get_or c.nodes.items at n
      → next_of c at ≡ place_by n.next (upper_next c.upper at)
  node_next c at n within ne h =
      put-other (joined (lower_next c) (upper_next c.upper)) nowhere (place_by c.front 0) at (λ e. ne (sym e))
      ∙ ap (λ m. place_by m (upper_next c.upper at)) (column-read (λ m. m.next) 0 c.nodes.items at n (omega (arith, c.nodes.ok.0)) h)

  pub node_prev : (c : Links T A) (at : ℕ) (n : Node T) → at < vec_len c.nodes → (at ≡ nowhere → ⊥) → n ≡ get_or c.nodes.items at n
      → prev_of c at ≡ place_by n.prev (upper_prev c.upper at)
  node_prev c at n within ne h =
      put-other (joined (lower_prev c) (upper_prev c.upper)) nowhere (place_by c.back 0) at (λ e. ne (sym e))
      ∙ ap (λ m. place_by m (upper_prev c.upper at)) (column-read (λ m. m.prev) 0 c.nodes.items at n (omega (arith, c.nodes.ok.0)) h)

  pub node_item : (c : Links T A) (at : ℕ) (n : Node T) → at < vec_len c.nodes → n ≡ get_or c.nodes.items at n → item_of c at ≡ n.item
  node_item c at n within h = column-read (λ m. m.item) None c.nodes.items at n (omega (arith, c.nodes.ok.0)) h

  -- a place with a node, where a link may be written and that is not `nowhere`
  pub within : (c : Links T A) (at : ℕ) → IsEnd (links_of c) at → (at ≡ nowhere → ⊥) → at < vec_len c.nodes
  within c at end ne = elim end [ inl e ↦ absurd (ne e) | inr h ↦ h ]

  module _ (c : Links T A) (at : ℕ) (n : Node T) (long : at < vec_len c.nodes) (ne : at ≡ nowhere → ⊥) (h : n ≡ get_or c.nodes.items at n) where
    -- the halves of one link are written
    pub links_of-set_next : (v : Vec Upper A) (lower upper to : ℕ) → upper_next v ≡ put (upper_next c.upper) at upper → upper_prev v ≡ upper_prev c.upper
        → place_by lower upper ≡ to → links_of (record c { nodes = with_item c.nodes at (record n { next = lower }); upper = v }) ≡ set_next (links_of c) at to
    links_of-set_next v lower upper to nexts prevs is =
        let prev = put-same (prev_of c) at (place_by n.prev (upper_prev c.upper at)) (node_prev c at n long ne h) in
        let item = put-same (item_of c) at n.item (node_item c at n long h) in
        links_of-write c at (record n { next = lower }) v upper (upper_prev c.upper at) long ne nexts (prevs ∙ sym (put-same (upper_prev c.upper) at _ refl))
        ∙ (λ i. record { next = put (next_of c) at (is i); prev = prev i; item = item i; free = c.free; size = vec_len c.nodes })

    pub links_of-set_prev : (v : Vec Upper A) (lower upper to : ℕ) → upper_prev v ≡ put (upper_prev c.upper) at upper → upper_next v ≡ upper_next c.upper
        → place_by lower upper ≡ to → links_of (record c { nodes = with_item c.nodes at (record n { prev = lower }); upper = v }) ≡ set_prev (links_of c) at to
    links_of-set_prev v lower upper to prevs nexts is =
        let next = put-same (next_of c) at (place_by n.next (upper_next c.upper at)) (node_next c at n long ne h) in
        let item = put-same (item_of c) at n.item (node_item c at n long h) in
        links_of-write c at (record n { prev = lower }) v (upper_next c.upper at) upper long ne (nexts ∙ sym (put-same (upper_next c.upper) at _ refl)) prevs
        ∙ (λ i. record { next = next i; prev = put (prev_of c) at (is i); item = item i; free = c.free; size = vec_len c.nodes })

    pub links_of-set_item : (x : Option T) → links_of (record c { nodes = with_item c.nodes at (record n { item = x }) }) ≡ set_item (links_of c) at x
    links_of-set_item x =
        let next = put-same (next_of c) at (place_by n.next (upper_next c.upper at)) (node_next c at n long ne h) in
        let prev = put-same (prev_of c) at (place_by n.prev (upper_prev c.upper at)) (node_prev c at n long ne h) in
        links_of-write c at (record n { item = x }) c.upper _ _ long ne (sym (put-same (upper_next c.upper) at _ refl)) (sym (put-same (upper_prev c.upper) at _ refl))
        ∙ (λ i. record { next = next i; prev = prev i; item = put (item_of c) at x; free = c.free; size = vec_len c.nodes })

    -- where there are no upper halves
    module _ (none : vec_len c.upper ≤ at) where
      pub links_of-write_next : (lower to : ℕ) → place_by lower 0 ≡ to → links_of (record c { nodes = with_item c.nodes at (record n { next = lower }) }) ≡ set_next (links_of c) at to
      links_of-write_next lower to is = links_of-set_next c.upper lower 0 to (sym (put-same (upper_next c.upper) at 0 (upper_next-past c.upper at none))) refl is

      pub links_of-write_prev : (lower to : ℕ) → place_by lower 0 ≡ to → links_of (record c { nodes = with_item c.nodes at (record n { prev = lower }) }) ≡ set_prev (links_of c) at to
      links_of-write_prev lower to is = links_of-set_prev c.upper lower 0 to (sym (put-same (upper_prev c.upper) at 0 (upper_prev-past c.upper at none))) refl is

    -- and where there are
    module _ (u : Upper) (wide : at < vec_len c.upper) (d : u ≡ get_or c.upper.items at u) where
      upper_next-read : upper_next c.upper at ≡ u.next
      upper_next-read = column-read (λ m. m.next) 0 c.upper.items at u (omega (arith, c.upper.ok.0)) d

      upper_prev-read : upper_prev c.upper at ≡ u.prev
      upper_prev-read = column-read (λ m. m.prev) 0 c.upper.items at u (omega (arith, c.upper.ok.0)) d

      pub links_of-write_next_wide : (lower upper to : ℕ) → place_by lower upper ≡ to
          → links_of (record c { nodes = with_item c.nodes at (record n { next = lower }); upper = with_item c.upper at (record u { next = upper }) })
          ≡ set_next (links_of c) at to
      links_of-write_next_wide lower upper to is =
          links_of-set_next (with_item c.upper at (record u { next = upper })) lower upper to
          (column-set (λ m. m.next) 0 c.upper.items at (record u { next = upper }) (omega (arith, c.upper.ok.0)))
          (column-set (λ m. m.prev) 0 c.upper.items at (record u { next = upper }) (omega (arith, c.upper.ok.0)) ∙ put-same (upper_prev c.upper) at u.prev upper_prev-read) is

      pub links_of-write_prev_wide : (lower upper to : ℕ) → place_by lower upper ≡ to
          → links_of (record c { nodes = with_item c.nodes at (record n { prev = lower }); upper = with_item c.upper at (record u { prev = upper }) })
          ≡ set_prev (links_of c) at to
      links_of-write_prev_wide lower upper to is =
          links_of-set_prev (with_item c.upper at (record u { prev = upper })) lower upper to
          (column-set (λ m. m.prev) 0 c.upper.items at (record u { prev = upper }) (omega (arith, c.upper.ok.0)))
          (column-set (λ m. m.next) 0 c.upper.items at (record u { prev = upper }) (omega (arith, c.upper.ok.0)) ∙ put-same (upper_next c.upper) at u.next upper_next-read) is

  -- other memory for the same nodes, and upper halves that are 0
  pub links_of-moved : (c : Links T A) (v : Vec (Node T) A) (w : Vec Upper A) → v.items ≡ c.nodes.items → vec_len v ≡ vec_len c.nodes
      → upper_next w ≡ upper_next c.upper → upper_prev w ≡ upper_prev c.upper → links_of (record c { nodes = v; upper = w }) ≡ links_of c
  links_of-moved c v w same len nexts prevs =
      λ i. record {
        next = put (joined (column (λ m. m.next) 0 (same i)) (nexts i)) nowhere (place_by c.front 0);
        prev = put (joined (column (λ m. m.prev) 0 (same i)) (prevs i)) nowhere (place_by c.back 0);
        item = column (λ m. m.item) None (same i);
        free = c.free;
        size = len i;
      }

-- elements whose field is the default change no column
pub column-widened : {N X : Type 0} (field : N → X) (d : X) (ns : List N) (more : ℕ) (n : N) → field n ≡ d → column field d (ns ++ replicate more n) ≡ column field d ns
column-widened field d ns more n is =
    let len = length-map ns field in
    fun_ext (λ k. rw (map-append field ns (replicate more n)) (elim (cases_lt k (length ns)) [
      | inl lt ↦ get_or_append_left (map field ns) (map field (replicate more n)) d k (omega arith)
      | inr ge ↦ get_or-append_right (map field ns) (map field (replicate more n)) (length ns) k d len ge
          ∙ all_default more (k - length ns) ∙ sym (get_or_past (map field ns) k d (omega arith))
    ]))
  where
    all_default : (m k : ℕ) → get_or (map field (replicate m n)) k d ≡ d
    all_default zero k = refl
    all_default (suc m) zero = is
    all_default (suc m) (suc k) = all_default m k

-- the same of a vector that was filled up to a length
pub column-resized : {N X : Type 0} (field : N → X) (d : X) (ns ms : List N) (n more : ℕ) (os : List N) (x : N) → field x ≡ d → ms ≡ ns → length ns ≤ n
    → os ≡ take n ms ++ replicate more x → column field d os ≡ column field d ns
column-resized field d ns ms n more os x is same long e =
    ap (column field d) (e ∙ (λ i. take n (same i) ++ replicate more x) ∙ ap (λ l. l ++ replicate more x) (take_all n ns long))
    ∙ column-widened field d ns more x is
