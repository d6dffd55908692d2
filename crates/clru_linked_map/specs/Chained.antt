-- Chains of places: walks along a function from each place to the next. No public clause cites this file.
use Rattle.std.specs.Prelude.{◌≡◌, ℕ, zero, suc, ◌+◌, ◌==◌, ◌<◌, ◌≤◌, if◌then◌else◌, Option, Some, None, List, [], ◌∷◌, length}
use Rattle.clru_list.specs.Places.{nowhere, put, count, IsRest}

-- a walk from the first place passes those of the list, and stands at the last place then
abbrev pub Reaches : (ℕ → ℕ) → ℕ → List ℕ → ℕ → Type 0
Reaches f from [] to = from ≡ to
Reaches f from (p ∷ ps) to = (f from ≡ p) × Reaches f p ps to

-- a walk from the start to its end, seen from a place on it; it meets q as often as the number at q says
pub record IsCut (f : ℕ → ℕ) (met : ℕ → ℕ) (at : ℕ) : Type 0 where
  pub before : List ℕ
  pub rest : List ℕ
  pub behind : Reaches f nowhere before at
  pub ahead : IsRest f (f at) rest
  pub once : (q : ℕ) → count q (nowhere ∷ before) + count q rest ≡ met q

-- the same, with a place that the walk passed, or its start, before it came to this one
pub record IsCutBehind (f : ℕ → ℕ) (met : ℕ → ℕ) (behind at : ℕ) : Type 0 where
  pub cut : IsCut f met at
  pub passed : 0 < count behind (nowhere ∷ cut.before)

-- the steps of the chain of a bucket: from the start to its first place, and along the links
abbrev pub steps_of : (buckets link : ℕ → ℕ) → ℕ → ℕ → ℕ
steps_of buckets link h = put link nowhere (buckets h)

module _ {K : Type 0} (home : K → ℕ) where
  -- 1 where a key has the bucket h
  abbrev pub is_of : ℕ → Option K → ℕ
  is_of h None = 0
  is_of h (Some k) = if home k == h then 1 else 0

  -- 1 at the start and at the places whose keys have the bucket h, and 0 elsewhere
  abbrev pub of_bucket : ℕ → (ℕ → Option K) → ℕ → ℕ
  of_bucket h key = put (λ q. is_of h (key q)) nowhere 1

  -- the chain of each bucket meets each place whose key has that bucket once, and no other place
  pub record IsChained (buckets link : ℕ → ℕ) (key : ℕ → Option K) : Type 0 where
    pub chain : (h : ℕ) → IsCut (steps_of buckets link h) (of_bucket h key) nowhere

-- what a number tells of the place that it names, from which `link` leads on: numbers above `low` name places that are linked,
-- but for one, `ahead`, that is about to be, and others the last place of a chain; and the number has the tag of the key's hash
module _ {K : Type 0} (hash : K → ℕ) (tag : ℕ → ℕ) (low ahead : ℕ) where
  pub record IsHint (link : ℕ → ℕ) (key : ℕ → Option K) (n p : ℕ) : Type 0 where
    pub leads : low < n → p ≡ nowhere → ⊥
    pub on : low < n → link p ≡ nowhere → p ≡ ahead
    pub tagged : (k : K) → (p ≡ nowhere → ⊥) → key p ≡ Some k → tag n ≡ tag (hash k)
    pub ends : (k : K) → (p ≡ nowhere → ⊥) → key p ≡ Some k → n ≤ low → link p ≡ nowhere

  -- the places that the numbers of buckets and links name are chains, and each number in a chain tells what is true of its place
  pub record IsLinked (home : K → ℕ) (place first next : ℕ → ℕ) (key : ℕ → Option K) : Type 0 where
    pub chains : IsChained home (λ h. place (first h)) (λ q. place (next q)) key
    pub hints : (h q : ℕ) → 0 < of_bucket home h key q
        → IsHint (λ p. place (next p)) key (steps_of first next h q) (steps_of (λ g. place (first g)) (λ p. place (next p)) h q)

-- one step of the chain of h is written: that at `at` now leads to `to`
pub record IsRelinked (buckets link : ℕ → ℕ) (h at to : ℕ) (buckets' link' : ℕ → ℕ) : Type 0 where
  pub here : (q : ℕ) → steps_of buckets' link' h q ≡ put (steps_of buckets link h) at to q
  pub others : (g : ℕ) → (g ≡ h → ⊥) → buckets' g ≡ buckets g

-- a walk that comes to the place next: at most len places lie ahead, each alive, and what is wanted is among them
pub record IsWalk (f : ℕ → ℕ) (alive wanted : ℕ → Type 0) (next len : ℕ) : Type 0 where
  pub rest : List ℕ
  pub ahead : IsRest f next rest
  pub living : (q : ℕ) → 0 < count q rest → alive q
  pub short : length rest ≤ len
  pub held : (q : ℕ) → wanted q → 0 < count q rest

-- the place itself, where there is one
abbrev pub IsPlace : ℕ → ℕ → Type 0
IsPlace p q = (q ≡ p) × (p ≡ nowhere → ⊥)

-- how many places a walk passes that comes to the place next, at most n
abbrev pub steps_left : (ℕ → ℕ) → ℕ → ℕ → ℕ
steps_left f next zero = 0
steps_left f next (suc n) = if next == nowhere then 0 else suc (steps_left f (f next) n)
