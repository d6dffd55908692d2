-- What a write to one node does to links where lower halves serve.
use Rattle.std.proofs.Common.{◌≡◌, ℕ, ◌<◌, arith, List, length, set, get_or, None, refl, sym, ap, ◌∙◌}
use Rattle.std.proofs.lemmas.List.{get_or-map, length-set}
use mathlib.Core.Path.{fun_ext}
use Rattle.std.specs.Prelude.{vec_len}
use Rattle.clru_list.specs.Places.{put, nowhere, place_by}
use Rattle.clru_list.specs.Links.{LinkMap, links_of, narrow_links, set_next, set_prev}
use Rattle.clru_list.specs.declared.links.Links.{Links}
use Rattle.clru_list.specs.declared.links.Node.{Node}
use Rattle.clru_list.proofs.NodeLemmas.{column, column-set, upper_next-past, upper_prev-past}
use Rattle.clru_list.proofs.Puts.{decide, put-same, put-swap, put-twice, put-other}

-- what numbers lead to
abbrev led : (ℕ → ℕ) → ℕ → ℕ
led numbers k = place_by (numbers k) 0

led-put : (numbers : ℕ → ℕ) (at a : ℕ) → led (put numbers at a) ≡ put (led numbers) at (place_by a 0)
led-put numbers at a = fun_ext (λ k. decide at k (λ _ t. rw t refl) (λ _ f. rw f refl))

module _ {T : Type 0} (ns : List (Node T)) (front back free at : ℕ) (long : at < length ns) (ne : at ≡ nowhere → ⊥) where
  abbrev old : LinkMap T
  old = narrow_links ns front back free

  narrow-write : (n : Node T) → narrow_links (set ns at n) front back free
      ≡ record { next = put old.next at (place_by n.next 0); prev = put old.prev at (place_by n.prev 0); item = put old.item at n.item; free = free; size = length ns }
  narrow-write n =
      let nexts = column (λ m. m.next) 0 ns in let prevs = column (λ m. m.prev) 0 ns in
      let lower = column-set (λ m. m.next) 0 ns at n long in let lower_of_prev = column-set (λ m. m.prev) 0 ns at n long in
      let next : (narrow_links (set ns at n) front back free).next ≡ put old.next at (place_by n.next 0) =
      (λ i. put (led (lower i)) nowhere (place_by front 0)) ∙ ap (λ f. put f nowhere (place_by front 0)) (led-put nexts at n.next)
      ∙ put-swap (led nexts) at nowhere (place_by n.next 0) (place_by front 0) ne in
      let prev : (narrow_links (set ns at n) front back free).prev ≡ put old.prev at (place_by n.prev 0) =
      (λ i. put (led (lower_of_prev i)) nowhere (place_by back 0)) ∙ ap (λ f. put f nowhere (place_by back 0)) (led-put prevs at n.prev)
      ∙ put-swap (led prevs) at nowhere (place_by n.prev 0) (place_by back 0) ne in
      let item = column-set (λ m. m.item) None ns at n long in let size : length (set ns at n) ≡ length ns = length-set ns at n in
      λ i. record { next = next i; prev = prev i; item = item i; free = free; size = size i }

  module _ (r : Node T) where
    abbrev n : Node T
    n = get_or ns at r

    pub narrow-next : old.next at ≡ place_by n.next 0
    narrow-next = put-other (led (column (λ m. m.next) 0 ns)) nowhere (place_by front 0) at (λ e. ne (sym e)) ∙ ap (λ m. place_by m 0) (get_or-map (λ m. m.next) ns at r 0 long)

    pub narrow-prev : old.prev at ≡ place_by n.prev 0
    narrow-prev = put-other (led (column (λ m. m.prev) 0 ns)) nowhere (place_by back 0) at (λ e. ne (sym e)) ∙ ap (λ m. place_by m 0) (get_or-map (λ m. m.prev) ns at r 0 long)

    narrow-item : old.item at ≡ n.item
    narrow-item = get_or-map (λ m. m.item) ns at r None long

    pub narrow-set_next : (to : ℕ) → narrow_links (set ns at (record n { next = to })) front back free ≡ set_next old at (place_by to 0)
    narrow-set_next to =
        let prev = put-same old.prev at (place_by n.prev 0) narrow-prev in let item = put-same old.item at n.item narrow-item in
        narrow-write (record n { next = to }) ∙ (λ i. record { next = put old.next at (place_by to 0); prev = prev i; item = item i; free = free; size = length ns })

    pub narrow-set_prev : (to : ℕ) → narrow_links (set ns at (record n { prev = to })) front back free ≡ set_prev old at (place_by to 0)
    narrow-set_prev to =
        let next = put-same old.next at (place_by n.next 0) narrow-next in let item = put-same old.item at n.item narrow-item in
        narrow-write (record n { prev = to }) ∙ (λ i. record { next = next i; prev = put old.prev at (place_by to 0); item = item i; free = free; size = length ns })

-- the ends are put there by their numbers
module _ {T : Type 0} (ns : List (Node T)) (front back free : ℕ) where
  pub narrow-front : (to : ℕ) → narrow_links ns to back free ≡ set_next (narrow_links ns front back free) nowhere (place_by to 0)
  narrow-front to = λ i. record (narrow_links ns front back free) {
    next = sym (put-twice (led (column (λ m. m.next) 0 ns)) nowhere (place_by front 0) (place_by to 0)) i;
  }

  pub narrow-back : (to : ℕ) → narrow_links ns front to free ≡ set_prev (narrow_links ns front back free) nowhere (place_by to 0)
  narrow-back to = λ i. record (narrow_links ns front back free) {
    prev = sym (put-twice (led (column (λ m. m.prev) 0 ns)) nowhere (place_by back 0) (place_by to 0)) i;
  }

-- links without upper halves are those
pub links_of-narrow : {T A : Type 0} (c : Links T A) → vec_len c.upper ≡ 0 → links_of c ≡ narrow_links c.nodes.items c.front c.back c.free
links_of-narrow c none =
    let nexts = column (λ m. m.next) 0 c.nodes.items in let prevs = column (λ m. m.prev) 0 c.nodes.items in
    let next = fun_ext (λ (k : ℕ). ap (place_by (nexts k)) (upper_next-past c.upper k (omega arith))) in
    let prev = fun_ext (λ (k : ℕ). ap (place_by (prevs k)) (upper_prev-past c.upper k (omega arith))) in
    λ i. record {
      next = put (next i) nowhere (place_by c.front 0);
      prev = put (prev i) nowhere (place_by c.back 0);
      item = (links_of c).item;
      free = c.free;
      size = c.nodes.ok.0 i;
    }
