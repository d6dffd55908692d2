-- How a list's nodes are linked. No public clause cites it.
use Rattle.std.specs.Prelude.{◌≡◌, ◌⊎◌, ℕ, zero, suc, ◌+◌, ◌<◌, ◌≤◌, ◌==◌, ◌^◌, if◌then◌else◌, List, [], ◌∷◌, map, length, Option, Some, None, min, max, slice_index_or, vec_len, vec_capacity}
use Rattle.std.specs.Option.{option_map_or}
use Rattle.std.specs.Map.{keys_of}
use Rattle.clru_list.specs.PlaceList.{item_at}
use Rattle.clru_list.specs.Halves.{upper_next, upper_prev}
use Rattle.clru_list.specs.Places.{nowhere, narrow, place_by, put, count, IsRest}
use Rattle.clru_list.specs.declared.links.Links.{Links}
use Rattle.clru_list.specs.declared.links.Node.{Node}

-- the links and the item at each place. At `nowhere` the next place is the front and the one before is the back
pub record LinkMap (T : Type 0) : Type 0 where
  pub next : ℕ → ℕ
  pub prev : ℕ → ℕ
  pub item : ℕ → Option T
  pub free : ℕ
  pub size : ℕ

module _ {T A : Type 0} where
  abbrev pub next_of : Links T A → ℕ → ℕ
  next_of c = put (λ k. place_by (slice_index_or (map (λ n. n.next) c.nodes.items) k 0) (upper_next c.upper k)) nowhere (place_by c.front 0)

  abbrev pub prev_of : Links T A → ℕ → ℕ
  prev_of c = put (λ k. place_by (slice_index_or (map (λ n. n.prev) c.nodes.items) k 0) (upper_prev c.upper k)) nowhere (place_by c.back 0)

  abbrev pub item_of : Links T A → ℕ → Option T
  item_of c k = slice_index_or (map (λ n. n.item) c.nodes.items) k None

  abbrev pub links_of : Links T A → LinkMap T
  links_of c = record { next = next_of c; prev = prev_of c; item = item_of c; free = c.free; size = vec_len c.nodes }

  -- how many places have memory, and a name
  abbrev pub allotted_of : Links T A → ℕ
  allotted_of c = min (vec_capacity c.nodes) (max narrow (vec_len c.upper))

module _ {T : Type 0} where
  -- the same of nodes alone, where lower halves serve; the ends are numbers
  abbrev pub narrow_links : List (Node T) → ℕ → ℕ → ℕ → LinkMap T
  narrow_links ns front back free = record {
    next = put (λ k. place_by (slice_index_or (map (λ n. n.next) ns) k 0) 0) nowhere (place_by front 0);
    prev = put (λ k. place_by (slice_index_or (map (λ n. n.prev) ns) k 0) 0) nowhere (place_by back 0);
    item = λ k. slice_index_or (map (λ n. n.item) ns) k None;
    free = free;
    size = length ns;
  }

  abbrev pub set_next : LinkMap T → ℕ → ℕ → LinkMap T
  set_next l at to = record l { next = put l.next at to }

  abbrev pub set_prev : LinkMap T → ℕ → ℕ → LinkMap T
  set_prev l at to = record l { prev = put l.prev at to }

  abbrev pub set_item : LinkMap T → ℕ → Option T → LinkMap T
  set_item l at x = record l { item = put l.item at x }

  -- a link may be written there
  abbrev pub IsEnd : LinkMap T → ℕ → Type 0
  IsEnd l k = (k ≡ nowhere) ⊎ (k < l.size)

  -- the neighbours of the place name each other
  abbrev pub unlinked : LinkMap T → ℕ → LinkMap T
  unlinked l p = set_prev (set_next l (l.prev p) (l.next p)) (l.next p) (l.prev p)

  -- the place stands between a and b
  abbrev pub linked : LinkMap T → ℕ → ℕ → ℕ → LinkMap T
  linked l a p b = set_prev (set_next (set_prev (set_next l p b) p a) a p) b p

  -- the place comes to the front
  abbrev pub brought_front : LinkMap T → ℕ → LinkMap T
  brought_front l p = linked (unlinked l p) nowhere p (l.next nowhere)

  -- the place comes to the back
  abbrev pub brought_back : LinkMap T → ℕ → LinkMap T
  brought_back l p = linked (unlinked l p) (l.prev nowhere) p nowhere

  -- the place is the first free one
  abbrev pub released : LinkMap T → ℕ → LinkMap T
  released l p = record (set_next l p l.free) { free = p }

  -- where an item goes: to the first free place, or to a new node
  abbrev pub spot : LinkMap T → ℕ
  spot l = if nowhere == l.free then l.size else l.free

  abbrev pub appended : LinkMap T → T → LinkMap T
  appended l x = record {
    next = put l.next l.size nowhere;
    prev = put l.prev l.size nowhere;
    item = put l.item l.size (Some x);
    free = l.free;
    size = l.size + 1;
  }

  abbrev pub filled : LinkMap T → T → LinkMap T
  filled l x = record (set_item l l.free (Some x)) { free = l.next l.free }

  abbrev pub occupied : LinkMap T → T → LinkMap T
  occupied l x = if nowhere == l.free then appended l x else filled l x

  -- so many entries along the next places, from a place on
  abbrev pub walk : LinkMap T → ℕ → ℕ → List (ℕ × T)
  walk l at zero = []
  walk l at (suc n) = option_map_or (λ x. (at, x) ∷ walk l (l.next at) n) (l.item at) []

-- a link as a place
abbrev pub place_of : ℕ → Option ℕ
place_of k = if nowhere == k then None else Some k

-- f leads from a along the places to b
abbrev pub IsPath : (ℕ → ℕ) → ℕ → List ℕ → ℕ → Type 0
IsPath f a [] b = f a ≡ b
IsPath f a (p ∷ ps) b = (f a ≡ p) × IsPath f p ps b

-- the places of a ring, after `nowhere`: forwards each link leads to the next, and backwards each leads to where it came from
pub record IsLinked (next prev : ℕ → ℕ) (ring : List ℕ) : Type 0 where
  pub forward : IsPath next nowhere ring nowhere
  pub backward : (k : ℕ) → 0 < count k (nowhere ∷ ring) → prev (next k) ≡ k

module _ {T : Type 0} where
  -- the nodes hold these entries, in whatever order, and each other node is free
  pub record IsHeld (next : ℕ → ℕ) (item : ℕ → Option T) (free size : ℕ) (all : List (ℕ × T)) : Type 0 where
    pub spare : List ℕ
    pub live : (k : ℕ) → item k ≡ item_at k all
    pub chained : IsRest next free spare
    -- each place is free once or held once
    pub inside : (k : ℕ) → k < size → count k spare + count k (keys_of all) ≡ 1
    pub outside : (k : ℕ) → size ≤ k → count k spare + count k (keys_of all) ≡ 0
    pub total : length all + length spare ≡ size
    pub small : size ≤ nowhere

  -- the entries of a list, with its fields and what is allotted to its links
  pub record IsSound (l : LinkMap T) (len capacity places allotted : ℕ) (es : List (ℕ × T)) : Type 0 where
    pub linked : IsLinked l.next l.prev (keys_of es)
    pub held : IsHeld l.next l.item l.free l.size es
    pub counted : len ≡ length es
    pub fits : len ≤ capacity
    pub within : l.size ≤ places
    pub reserved : places ≤ allotted
    pub countable : allotted < 2 ^ 63
