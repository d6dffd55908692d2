-- Private: what a table of strings is seen as, and what holds of it between the calls. No public clause cites it.
use Rattle.std.specs.Prelude.{◌≡◌, ℕ, zero, suc, ◌≤◌, ◌==◌, Bool, true, false, if◌then◌else◌, List, [], ◌∷◌, ◌++◌, length, map, slice_range, bytes_eq, ⊤}
use Rattle.std.specs.List.{AllByRecursion}
use Rattle.std.specs.declared.hash.BuildHasher as builder
use Rattle.std.specs.declared.hash.Hasher as hasher
use Rattle.clru_list.specs.Places.{nowhere}
use Rattle.clru_linked_map.specs.BucketList.{BucketList}
use Rattle.clru_linked_map.specs.Stacked.{AreLinked, IsStacked, LeadsTo}
use Rattle.clru_linked_map.specs.declared.bytes_table.BytesTable.{BytesTable}
use Rattle.clru_linked_map.specs.declared.bytes_table.Item.{Item}

-- the hash of bytes, by what the builder and its hasher say
abbrev pub bytes_hash_by : {S H : Type 0} → (H → ℕ) → (H → List ℕ → H) → (S → H) → S → List ℕ → ℕ
bytes_hash_by finish write build b bytes = finish (write (build b) bytes)

-- the same by the members of the traits, as a clause has them
abbrev pub bytes_hash_of : {S H : Type 0} → builder.Ghosts S H → hasher.Ghosts H → S → List ℕ → ℕ
bytes_hash_of build hash = bytes_hash_by hash.finish hash.write build.build_hasher

-- how many places there are up to one
abbrev pub places_to : ℕ → ℕ
places_to p = if p == nowhere then 0 else suc p

module _ {V : Type 0} where
  -- the entries of items, of which the first string begins at `start`, in front of the earlier ones
  abbrev pub entries_onto : List ℕ → ℕ → List (Item V) → List (List ℕ × V) → List (List ℕ × V)
  entries_onto bytes start [] earlier = earlier
  entries_onto bytes start (i ∷ is) earlier = entries_onto bytes i.end is ((slice_range bytes start i.end, i.value) ∷ earlier)

  -- no string ends before it begins, and the last one ends at `len`
  abbrev pub Fills : ℕ → ℕ → List (Item V) → Type 0
  Fills start len [] = start ≡ len
  Fills start len (i ∷ is) = (start ≤ i.end) × Fills i.end len is

  -- where the string at a place begins
  abbrev pub start_from : ℕ → List (Item V) → ℕ → ℕ
  start_from start is zero = start
  start_from start [] (suc p) = start
  start_from start (i ∷ is) (suc p) = start_from i.end is p

  -- the string at a place
  abbrev pub string_at : List ℕ → ℕ → List (Item V) → ℕ → List ℕ
  string_at bytes start [] p = []
  string_at bytes start (i ∷ is) zero = slice_range bytes start i.end
  string_at bytes start (i ∷ is) (suc p) = string_at bytes i.end is p

  -- the hashes of the strings
  abbrev pub hashes_of : (List ℕ → ℕ) → List (List ℕ × V) → List ℕ
  hashes_of hash es = map (λ e. hash e.0) es

  -- no string passes
  abbrev pub NonePass : (List ℕ → Bool) → List (List ℕ × V) → Type 0
  NonePass test es = AllByRecursion (λ e. test e.0 ≡ false) es

  -- no string stands there twice
  abbrev pub AreApart : List (List ℕ × V) → Type 0
  AreApart [] = ⊤
  AreApart (e ∷ es) = NonePass (bytes_eq e.0) es × AreApart es

  -- the string stands at the place p
  pub record StandsAt (string : List ℕ) (p : ℕ) (es : List (List ℕ × V)) : Type 0 where
    pub later : List (List ℕ × V)
    pub value : V
    pub earlier : List (List ℕ × V)
    pub split : es ≡ later ++ (string, value) ∷ earlier
    pub place : p ≡ length earlier

  -- the latest entry that passes stands at the place p
  pub record IsFoundAt (test : List ℕ → Bool) (p : ℕ) (es : List (List ℕ × V)) : Type 0 where
    pub later : List (List ℕ × V)
    pub entry : List ℕ × V
    pub earlier : List (List ℕ × V)
    pub split : es ≡ later ++ entry ∷ earlier
    pub passed : NonePass test later
    pub same : test entry.0 ≡ true
    pub place : p ≡ length earlier

  -- a walk along the chain of the bucket h came to the number n, and no string that it left behind passes
  pub record IsSought (hash : List ℕ → ℕ) (test : List ℕ → Bool) (x : BucketList) (h n : ℕ) (es : List (List ℕ × V)) : Type 0 where
    pub later : List (List ℕ × V)
    pub left : List (List ℕ × V)
    pub split : es ≡ later ++ left
    pub passed : NonePass test later
    pub leads : LeadsTo (length x.firsts) x.bound x.tags h n (hashes_of hash left)
    pub linked : AreLinked (length x.firsts) x.bound x.tags x.links (hashes_of hash left)

module _ {V S A : Type 0} where
  -- the entries, the latest first
  abbrev pub entries_of : BytesTable V S A → List (List ℕ × V)
  entries_of t = entries_onto t.buffer.items 0 t.held.items []

  -- what holds between the calls: the strings fill the buffer, none is there twice, each is found by its hash, and each place has a
  -- link and a name
  pub record IsTable (hash : S → List ℕ → ℕ) (t : BytesTable V S A) : Type 0 where
    pub fills : Fills 0 (length t.buffer.items) t.held.items
    pub apart : AreApart (entries_of t)
    pub stacked : IsStacked t.index (hashes_of (hash t.hash_builder) (entries_of t))
    pub linked : length t.held.items ≤ length t.index.links
    pub named : length t.index.links ≤ t.index.bound

  -- all but the index is as it was
  pub record KeepsStrings (old new : BytesTable V S A) : Type 0 where
    pub buffer : new.buffer.items ≡ old.buffer.items
    pub held : new.held.items ≡ old.held.items
    pub builder : new.hash_builder ≡ old.hash_builder
