-- Hits and schedules said again by positions, counted from 0, in the words of a sentence about them. Public clauses cite them.
use Rattle.std.specs.Prelude.{◌≡◌, ◌⊎◌, ◌↔◌, ℕ, ◌+◌, ◌<◌, ◌≤◌, Bool, true, false, nat_eq, Some, List, length}
use Rattle.std.specs.List.{slice_get, slice_range, Contains, IsDistinct}

-- n is how many positions have the property: there is a list of n pairwise different positions, which are those and no others
pub record IsCountOf (P : ℕ → Type 0) (n : ℕ) : Type 0 where
  pub positions : List ℕ
  pub many : length positions ≡ n
  pub different : IsDistinct nat_eq positions
  pub each : (p : ℕ) → Contains positions p ↔ P p

module _ {K : Type 0} (eq : K → K → Bool) where
  -- some position of ks has a key that is the same as x
  abbrev pub HasKey : K → List K → Type 0
  HasKey x ks = (p : ℕ) × (y : K) × (slice_get ks p ≡ Some y) × (eq x y ≡ true)

  -- no position of ks has a key that is the same as x
  abbrev pub LacksKey : K → List K → Type 0
  LacksKey x ks = (p : ℕ) (y : K) → slice_get ks p ≡ Some y → eq x y ≡ false

  -- the key at p stands there first: no position before p has a key that is the same
  pub record IsFirstAt (ks : List K) (p : ℕ) : Type 0 where
    pub key : K
    pub at : slice_get ks p ≡ Some key
    pub none_before : (j : ℕ) (y : K) → j < p → slice_get ks j ≡ Some y → eq key y ≡ false

  -- the request at i hits: its key was requested before, and since the latest such request fewer than k distinct keys were
  pub record IsHitAt (k : ℕ) (rs : List K) (i : ℕ) : Type 0 where
    pub key : K
    pub requested : slice_get rs i ≡ Some key
    pub before : ℕ
    pub earlier : before < i
    pub key_before : K
    pub requested_before : slice_get rs before ≡ Some key_before
    pub same : eq key key_before ≡ true
    pub latest : (p : ℕ) (y : K) → before < p → p < i → slice_get rs p ≡ Some y → eq key y ≡ false
    -- how many of the requests strictly between ask for a key that none of these before it asked for
    pub between : ℕ
    pub distinct_between : IsCountOf (IsFirstAt (slice_range rs (before + 1) i)) between
    pub few : between < k

  -- a schedule of h keys: one more list of held keys than requests, each of at most h keys. Each key held after a request was held before it or
  -- is the request's, and the request's key is held after it
  pub record IsScheduleAt (h : ℕ) (held : List (List K)) (rs : List K) : Type 0 where
    pub one_more : length held ≡ length rs + 1
    pub short : (i : ℕ) (ks : List K) → slice_get held i ≡ Some ks → length ks ≤ h
    pub kept_or_requested : (i : ℕ) (ks next : List K) (x : K)
        → slice_get held i ≡ Some ks → slice_get held (i + 1) ≡ Some next
        → slice_get rs i ≡ Some x → (p : ℕ) (q : K) → slice_get next p ≡ Some q → HasKey q ks ⊎ (eq q x ≡ true)
    pub served : (i : ℕ) (next : List K) (x : K)
        → slice_get held (i + 1) ≡ Some next → slice_get rs i ≡ Some x → HasKey x next

  -- a schedule misses the request at i: no key that it holds before it is the same as the request's
  pub record IsScheduleMissAt (held : List (List K)) (rs : List K) (i : ℕ) : Type 0 where
    pub key : K
    pub requested : slice_get rs i ≡ Some key
    pub keys : List K
    pub held_before : slice_get held i ≡ Some keys
    pub not_held : LacksKey key keys
