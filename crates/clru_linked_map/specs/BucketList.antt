-- Private: what buckets are seen as. No public clause cites it.
use Rattle.std.specs.Prelude.{◌≡◌, ℕ, ◌+◌, ◌-◌, ◌*◌, ◌^◌, ◌<◌, ◌≤◌, ◌==◌, if◌then◌else◌, List, length, take, drop, bit_and, refl}
use Rattle.std.specs.Coded.{Coded, code_by, coded×, coded_list, coded_ℕ}
use Rattle.clru_list.specs.Packed.{Packed}
use Rattle.clru_list.specs.Places.{nowhere}

-- the number of each bucket, the number of the link of each place, the bound of the places that can be named, and the bits of a
-- number that are those of a hash
pub record BucketList : Type 0 where
  pub firsts : List ℕ
  pub links : List ℕ
  pub bound : ℕ
  pub tags : ℕ

abbrev pub bucket_list : List ℕ → List ℕ → ℕ → ℕ → BucketList
bucket_list firsts links bound tags = record { firsts = firsts; links = links; bound = bound; tags = tags }

abbrev pub bucket_list_code : Coded BucketList
bucket_list_code = code_by (List ℕ × (List ℕ × (ℕ × ℕ))) (coded× (coded_list coded_ℕ) (coded× (coded_list coded_ℕ) (coded× coded_ℕ coded_ℕ)))
    (λ h. (h.firsts, (h.links, (h.bound, h.tags)))) (λ p. bucket_list p.0 p.1.0 p.1.1.0 p.1.1.1) (λ _. refl)

-- the place that is one less, and 0 leads nowhere
abbrev pub place_numbered : ℕ → ℕ
place_numbered n = if n == 0 then nowhere else n - 1

-- the place that a number names: the bits of the mask are one more than it
abbrev pub place_named : ℕ → ℕ → ℕ
place_named mask n = place_numbered (bit_and n mask)

-- the bits of a number, or of a hash, that tell keys apart
abbrev pub tag_by : ℕ → ℕ → ℕ
tag_by tags n = bit_and n tags

-- the mask has the lowest bits, the tags have those above it, and one bit is left above them
pub record IsShaped (mask tags : ℕ) : Type 0 where
  pub low : ℕ
  pub high : ℕ
  pub masked : mask + 1 ≡ 2 ^ low
  pub tagged : mask + tags + 1 ≡ 2 ^ (high + low)

-- the first numbers, as many as the mask and one, are those of buckets, and the others those of links
abbrev pub list_of : Packed → ℕ → ℕ → BucketList
list_of words mask tags = bucket_list (take (mask + 1) words.numbers) (drop (mask + 1) words.numbers) mask tags

-- there are so many buckets, each place with a link can be named, and a number has its tag and one bit more
pub record IsWorded (words : Packed) (mask tags : ℕ) : Type 0 where
  pub sized : mask < length words.numbers
  pub named : length words.numbers ≤ mask + 1 + mask
  pub shaped : IsShaped mask tags
  pub fits : (mask + tags + 1) * 2 ≡ words.greatest + 1
  pub countable : mask + tags < 2 ^ 63
