-- Private: what an indexed list is seen as, and what holds of it between the calls. No public clause cites it.
use Rattle.std.specs.Prelude.{◌≡◌, ℕ, ◌≤◌, List, length}
use Rattle.clru_list.specs.PlaceList.{with_entries}
use Rattle.clru_linked_map.specs.Buckets.{key_at, IsChainedAs, KeepsSizes}
use Rattle.clru_linked_map.specs.LinkedMap.{LinkedMap, linked_map, pairs_of}
use Rattle.clru_linked_map.specs.declared.indexed_list.IndexedList.{IndexedList}

-- the item with another value
abbrev pub item_with : {K V : Type 0} → K × V → V → K × V
item_with i v = (i.0, v)

module _ {K V S A H : Type 0} where
  -- the pairs, front first
  abbrev pub pairs_in : IndexedList K V S A H → List (K × V)
  pairs_in x = pairs_of x.list.entries

  -- the map that it is
  abbrev pub map_of : IndexedList K V S A H → LinkedMap K V S
  map_of x = linked_map (pairs_in x) x.list.capacity x.list.places x.hash_builder

  -- it with other items
  abbrev pub with_items : List (ℕ × (K × V)) → IndexedList K V S A H → IndexedList K V S A H
  with_items es x = record x { list = with_entries x.list es }

  -- what holds between the calls: each key is found by its hash, each pair has memory, and each place has a link and a name
  pub record IsIndexed (hash : S → K → ℕ) (x : IndexedList K V S A H) : Type 0 where
    pub chained : IsChainedAs hash (key_at x.list.entries) x
    pub held : length x.list.entries ≤ x.list.places
    pub spread : length x.index.links ≤ length x.index.firsts
    pub linked : x.list.places ≤ length x.index.links
    pub named : x.list.places ≤ x.index.bound

  -- all but the chains, the pairs and their order is as it was
  pub record KeepsAllButPairs (old new : IndexedList K V S A H) : Type 0 where
    pub capacity : new.list.capacity ≡ old.list.capacity
    pub places : new.list.places ≡ old.list.places
    pub builder : new.hash_builder ≡ old.hash_builder
    pub index : KeepsSizes old.index new.index

  -- the pairs stay, and so do the capacity and the builder
  pub record KeepsPairs (old new : IndexedList K V S A H) : Type 0 where
    pub pairs : pairs_in new ≡ pairs_in old
    pub capacity : new.list.capacity ≡ old.list.capacity
    pub builder : new.hash_builder ≡ old.hash_builder
