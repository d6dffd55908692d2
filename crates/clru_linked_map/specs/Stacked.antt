-- Private: an index whose chains grow at their front alone. It is seen as the hashes of its places, the latest first: the place of a
-- hash is how many stand behind it. No public clause cites this file.
use Rattle.std.specs.Prelude.{◌≡◌, ℕ, ◌+◌, ◌≤◌, List, [], ◌∷◌, length, ⊤}
use Rattle.std.specs.List.{AllByRecursion}
use Rattle.clru_list.specs.Places.{nowhere}
use Rattle.clru_linked_map.specs.BucketList.{BucketList, place_named, tag_by}
use Rattle.clru_linked_map.specs.Buckets.{bucket_by, number_in}

-- of so many buckets, none of the hashes has this one
abbrev pub HasNone : ℕ → ℕ → List ℕ → Type 0
HasNone size h hashes = AllByRecursion (λ hash. bucket_by size hash ≡ h → ⊥) hashes

-- of so many buckets, by the bits of a number that name a place, and by those that are a tag
module _ (size bound tags : ℕ) where
  -- the number names the place of the hash, behind which the earlier ones stand; and a low one says that none of these has its bucket
  pub record Names (h hash : ℕ) (earlier : List ℕ) (n : ℕ) : Type 0 where
    pub place : place_named bound n ≡ length earlier
    pub tag : tag_by tags n ≡ tag_by tags hash
    pub last : n ≤ bound + tags → HasNone size h earlier

  pub record NamesNone (n : ℕ) : Type 0 where
    pub place : place_named bound n ≡ nowhere
    pub last : n ≤ bound + tags

  -- the number leads to the latest place in the bucket h
  abbrev pub LeadsTo : ℕ → ℕ → List ℕ → Type 0
  LeadsTo h n [] = NamesNone n
  LeadsTo h n (hash ∷ earlier) =
      (bucket_by size hash ≡ h → Names h hash earlier n) × ((bucket_by size hash ≡ h → ⊥) → LeadsTo h n earlier)

  -- the link of each place leads to the latest one before it in its bucket
  abbrev pub AreLinked : List ℕ → List ℕ → Type 0
  AreLinked links [] = ⊤
  AreLinked links (hash ∷ earlier) = LeadsTo (bucket_by size hash) (number_in links (length earlier)) earlier × AreLinked links earlier

-- each bucket leads to its latest place, and each place to the one before it
pub record IsStacked (x : BucketList) (hashes : List ℕ) : Type 0 where
  pub firsts : (h : ℕ) → LeadsTo (length x.firsts) x.bound x.tags h (number_in x.firsts h) hashes
  pub links : AreLinked (length x.firsts) x.bound x.tags x.links hashes
