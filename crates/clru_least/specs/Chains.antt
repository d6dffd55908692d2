-- Private: chains of positions through numbers, and what is found along them. No public clause cites it.
use Rattle.std.specs.Prelude.{◌≡◌, ℕ, suc, ◌+◌, ◌-◌, ◌<◌, ◌≤◌, ◌==◌, nat_le, bit_and, Bool, false, if◌then◌else◌, List, [], ◌∷◌, ◌++◌, length, reverse, take, set, slice_index_or, Option, Some, None}
use Rattle.std.specs.List.{AllByRecursion, slice_get}
use Rattle.clru_model.specs.Requests.{IsLatestOf}
use Rattle.clru_least.specs.Passes.{IsForesight}
use Rattle.clru_least.specs.declared.chains.Chains.{Chains}

-- the number at a position, and 0 behind them all
abbrev pub number_in : List ℕ → ℕ → ℕ
number_in numbers p = slice_index_or numbers p 0

-- the same if it says where a key is requested next, and 0 if it is a link
abbrev pub next_in : List ℕ → ℕ → ℕ
next_in numbers p = if nat_le (number_in numbers p) p then 0 else number_in numbers p

-- the bucket of a hash
abbrev pub masked_bucket : ℕ → ℕ → ℕ
masked_bucket mask hash = bit_and hash mask

-- from the number n links lead down along these positions, and then to 0
abbrev pub LeadsAlong : (ℕ → ℕ) → ℕ → List ℕ → Type 0
LeadsAlong f n [] = n ≡ 0
LeadsAlong f n (p ∷ ps) = (n ≡ suc p) × (f p ≤ p) × LeadsAlong f (f p) ps

-- the same along positions below i
pub record IsChain (f : ℕ → ℕ) (n i : ℕ) (chain : List ℕ) : Type 0 where
  pub leads : LeadsAlong f n chain
  pub below : AllByRecursion (λ p. p < i) chain

-- the position and 1 of the last one, and 0 without any
abbrev pub last_number : List ℕ → ℕ
last_number [] = 0
last_number (p ∷ []) = suc p
last_number (p ∷ q ∷ ps) = last_number (q ∷ ps)

-- the numbers once that of a position is its next request, and the one before it in its chain, if there is one, leads past it
abbrev pub cut_out : List ℕ → (behind number next : ℕ) → List ℕ
cut_out numbers behind number next =
    if behind == 0 then set numbers (number - 1) next else
    set (set numbers (number - 1) next) (behind - 1) (number_in numbers (number - 1))

-- where the chain begins then
abbrev pub first_behind : List ℕ → (first behind number : ℕ) → ℕ
first_behind numbers first behind number = if behind == 0 then number_in numbers (number - 1) else first

module _ {K : Type 0} (eq : K → K → Bool) (keys : List K) where
  -- whether a key, if there is one, equals x
  abbrev pub same_as : K → Option K → Bool
  same_as x None = false
  same_as x (Some y) = eq x y

  -- whether the key at a position equals x
  abbrev pub same_at : K → ℕ → Bool
  same_at x p = same_as x (slice_get keys p)

  -- the first of the positions whose key equals x
  abbrev pub first_of : K → List ℕ → Option ℕ
  first_of x [] = None
  first_of x (p ∷ ps) = if same_at x p then Some p else first_of x ps

  -- a walk along a chain came to the number n, behind the position that `behind` names, and none that it passed has the key x
  pub record IsWalked (f : ℕ → ℕ) (x : K) (chain : List ℕ) (behind n : ℕ) : Type 0 where
    pub before : List ℕ
    pub rest : List ℕ
    pub split : chain ≡ before ++ rest
    pub passed : AllByRecursion (λ p. same_at x p ≡ false) before
    pub last : behind ≡ last_number before
    pub leads : LeadsAlong f n rest

  -- the key at the position p has the bucket h, and was requested before the position i
  pub record IsInBucket (home : K → ℕ) (i h p : ℕ) : Type 0 where
    pub bucket : (k : K) → slice_get keys p ≡ Some k → home k ≡ h
    pub before : p < i

  -- the first i requests are taken: the chain of each bucket has the latest request of each of its keys, the other requests say where
  -- their keys are requested next, and what is behind them is 0
  pub record AreTaken (home : K → ℕ) (i : ℕ) (numbers firsts : List ℕ) : Type 0 where
    pub chains : ℕ → List ℕ
    pub leads : (h : ℕ) → LeadsAlong (number_in numbers) (number_in firsts h) (chains h)
    pub homed : (h : ℕ) → AllByRecursion (IsInBucket home i h) (chains h)
    pub latest : (z : K) → IsLatestOf eq (reverse (take i keys)) z (first_of z (chains (home z)))
    pub nexts : List ℕ
    pub foresight : IsForesight eq (reverse (take i keys)) nexts
    pub same : (p : ℕ) → p < i → next_in numbers p ≡ number_in nexts p
    pub blank : (p : ℕ) → i ≤ p → number_in numbers p ≡ 0

module _ {A : Type 0} where
  -- there is a number for each request, each fits, and the mask picks any of the buckets; there are two or more, since nothing is written
  -- to a single number
  pub record HasRoom (requests : ℕ) (c : Chains A) : Type 0 where
    pub numbers : length c.numbers.numbers ≡ requests
    pub fits : requests ≤ c.numbers.greatest
    pub firsts : c.mask + 1 ≡ length c.firsts.numbers
    pub several : 0 < c.mask
    pub first_fits : requests ≤ c.firsts.greatest
