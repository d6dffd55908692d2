-- Private: how the buckets, the links and the places of an indexed list go together. No public clause cites it.
use Rattle.std.specs.Prelude.{◌≡◌, ℕ, zero, suc, ◌+◌, ◌-◌, ◌<◌, ◌≤◌, Bool, true, if◌then◌else◌, Option, Some, None, List, [], ◌∷◌, length, slice_index_or, bit_and}
use Rattle.std.specs.Option.{option_map}
use Rattle.clru_list.specs.PlaceList.{item_at}
use Rattle.clru_list.specs.Places.{nowhere, put}
use Rattle.clru_linked_map.specs.Chained.{steps_of, IsLinked, IsRelinked}
use Rattle.clru_linked_map.specs.BucketList.{BucketList, place_named, tag_by}
use Rattle.clru_linked_map.specs.declared.indexed_list.IndexedList.{IndexedList}

-- the bucket of a hash, of n buckets
abbrev pub bucket_by : ℕ → ℕ → ℕ
bucket_by n hash = bit_and hash (n - 1)

module _ {K V : Type 0} where
  -- the items with another value at the first key that passes
  abbrev pub with_value : (K → Bool) → V → List (ℕ × (K × V)) → List (ℕ × (K × V))
  with_value test v [] = []
  with_value test v (e ∷ es) =
      if test e.1.0 then ((e.0, (e.1.0, v)) ∷ es) else e ∷ with_value test v es

  abbrev pub key_at : List (ℕ × (K × V)) → ℕ → Option K
  key_at es q = option_map (λ i. i.0) (item_at q es)

  -- some item is there
  abbrev pub IsLive : List (ℕ × (K × V)) → ℕ → Type 0
  IsLive es q = (i : K × V) × (item_at q es ≡ Some i)

  -- the pair stood at the place
  abbrev pub IsTaken : K × V → ℕ → List (ℕ × (K × V)) → Type 0
  IsTaken pair p es = item_at p es ≡ Some pair

  -- the item at the place has the key x, or the key of which x is a form
  pub record IsAt {X : Type 0} (eq : X → K → Bool) (x : X) (p : ℕ) (es : List (ℕ × (K × V))) : Type 0 where
    pub item : K × V
    pub held : item_at p es ≡ Some item
    pub same : eq x item.0 ≡ true

-- the entries with another item at an index
abbrev pub with_item_at : {X : Type 0} → ℕ → X → List (ℕ × X) → List (ℕ × X)
with_item_at k x [] = []
with_item_at zero x (e ∷ es) = (e.0, x) ∷ es
with_item_at (suc k) x (e ∷ es) = e ∷ with_item_at k x es

-- the number of a bucket, or of the link of a place
abbrev pub number_in : List ℕ → ℕ → ℕ
number_in numbers k = slice_index_or numbers k 0

-- the place that it names: a bucket's first one, or the one that a place is linked to
abbrev pub place_in : ℕ → List ℕ → ℕ → ℕ
place_in bound numbers k = place_named bound (number_in numbers k)

-- the steps along the chain of a bucket
abbrev pub steps_in : BucketList → ℕ → ℕ → ℕ
steps_in x h = steps_of (place_in x.bound x.firsts) (place_in x.bound x.links) h

-- the numbers along it
abbrev pub numbers_along : BucketList → ℕ → ℕ → ℕ
numbers_along x h = steps_of (number_in x.firsts) (number_in x.links) h

-- a greater number says that the place that it names is linked on
abbrev pub low_of : BucketList → ℕ
low_of x = x.bound + x.tags

-- the place has a link
abbrev pub HasLink : BucketList → ℕ → Type 0
HasLink x q = q < length x.links

-- a number that can be written
abbrev pub IsNumber : BucketList → ℕ → Type 0
IsNumber x n = n ≤ low_of x + low_of x + 1

-- a number for a place, whose key has the hash, and which is not linked on
pub record IsNumberOf (x : BucketList) (p hash n : ℕ) : Type 0 where
  pub place : place_named x.bound n ≡ p
  pub tag : tag_by x.tags n ≡ tag_by x.tags hash
  pub ends : n ≤ low_of x

-- one number of a chain is written anew: it names the same place, and has the same tag
pub record IsRewritten (old new : BucketList) (h at : ℕ) : Type 0 where
  pub number : ℕ
  pub written : IsRelinked (number_in old.firsts) (number_in old.links) h at number (number_in new.firsts) (number_in new.links)
  pub place : place_named old.bound number ≡ steps_in old h at
  pub tag : tag_by old.tags number ≡ tag_by old.tags (numbers_along old h at)

-- as many buckets and links, which can name as many places
pub record KeepsSizes (old new : BucketList) : Type 0 where
  pub buckets : length new.firsts ≡ length old.firsts
  pub links : length new.links ≡ length old.links
  pub bound : new.bound ≡ old.bound
  pub tags : new.tags ≡ old.tags

-- the keys by their places stand in the chains of their buckets, and nothing else does
abbrev pub IsChainedIn : {K : Type 0} → (K → ℕ) → BucketList → (ℕ → Option K) → Type 0
IsChainedIn hash x key = IsLinked hash (tag_by x.tags) (low_of x) nowhere (λ k. bucket_by (length x.firsts) (hash k)) (place_named x.bound)
    (number_in x.firsts) (number_in x.links) key

module _ {K V S A H : Type 0} where
  -- the bucket of a key
  abbrev pub home_at : (S → K → ℕ) → IndexedList K V S A H → K → ℕ
  home_at hash x k = bucket_by (length x.index.firsts) (hash x.hash_builder k)

  -- the same of an indexed list
  abbrev pub IsChainedAs : (S → K → ℕ) → (ℕ → Option K) → IndexedList K V S A H → Type 0
  IsChainedAs hash key x = IsChainedIn (hash x.hash_builder) x.index key

  -- each key stands in the chain of its bucket, but for the one at the place `out`
  abbrev pub IsChainedBut : (S → K → ℕ) → ℕ → IndexedList K V S A H → Type 0
  IsChainedBut hash out x = IsChainedAs hash (put (key_at x.list.entries) out None) x

  -- what a place holds, whose key has the bucket h
  pub record HasHome (hash : S → K → ℕ) (h p : ℕ) (x : IndexedList K V S A H) : Type 0 where
    pub item : K × V
    pub held : item_at p x.list.entries ≡ Some item
    pub home : home_at hash x item.0 ≡ h
    pub off : p ≡ nowhere → ⊥
    pub within : h < length x.index.firsts

  -- what a place holds, whose key has the hash n
  pub record HasHash (hash : S → K → ℕ) (n p : ℕ) (x : IndexedList K V S A H) : Type 0 where
    pub item : K × V
    pub held : item_at p x.list.entries ≡ Some item
    pub hashed : hash x.hash_builder item.0 ≡ n
    pub off : p ≡ nowhere → ⊥

  -- all but buckets and links is as it was
  pub record KeepsPlaces (old new : IndexedList K V S A H) : Type 0 where
    pub list : new.list ≡ old.list
    pub builder : new.hash_builder ≡ old.hash_builder
