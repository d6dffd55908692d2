-- Runs of calls over entry lists. Public clauses cite them.
use Rattle.std.specs.Prelude.{◌≡◌, ℕ, ◌+◌, ◌-◌, ◌<◌, nat_lt, Bool, true, false, if◌then◌else◌, ⊤, List, [], ◌∷◌, length, take, drop, map}
use Rattle.std.specs.Option.{option_to_list}
use Rattle.std.specs.Map.{keys_of}
use Rattle.clru_model.specs.Entries.{without, touch, plain_drop, weighted_put}
use Rattle.clru_model.specs.Requests.{holds}
use Rattle.clru_model.specs.Schedule.{schedule_marks}

-- one call on a cache
pub data Call (K V : Type 0) : Type 0 where
  put_with_weight : K → V → Call K V
  pop : K → Call K V
  pop_front : Call K V
  pop_back : Call K V
  clear : Call K V
  peek : K → Call K V
  contains : K → Call K V

module _ {K V : Type 0} (eq : K → K → Bool) (weight : K → V → ℕ) (c : ℕ) where
  -- the entries after a call under the capacity c; a put of a pair that is too heavy is refused, and they stay
  abbrev pub after : Call K V → List (K × V) → List (K × V)
  after (put_with_weight x v) es = if nat_lt (weight x v) c then weighted_put eq weight c x v es else es
  after (pop x) es = without eq x es
  after pop_front es = drop 1 es
  after pop_back es = take (length es - 1) es
  after clear es = []
  after (peek x) es = es
  after (contains x) es = es

  -- the entries after the calls, one after the other
  abbrev pub after_all : List (Call K V) → List (K × V) → List (K × V)
  after_all [] es = es
  after_all (call ∷ calls) es = after_all calls (after call es)

module _ {K V : Type 0} (weight : K → V → ℕ) (c : ℕ) where
  -- the capacity c takes the call: it is no put of a pair that is too heavy
  abbrev pub IsTaken : Call K V → Type 0
  IsTaken (put_with_weight x v) = weight x v < c
  IsTaken call = ⊤

  -- it takes each of the calls
  abbrev pub AreTaken : List (Call K V) → Type 0
  AreTaken [] = ⊤
  AreTaken (call ∷ calls) = IsTaken call × AreTaken calls

module _ {R K V : Type 0} (step : R → List (K × V) → List (K × V) → Type 0) where
  -- the first of the later lists is one that a step at the request r leaves
  abbrev pub StepsTo : List (K × V) → R → List (List (K × V)) → Type 0
  StepsTo es r [] = ⊥
  StepsTo es r (next ∷ later) = step r es next

  -- the entries before each request and at the end, where each request in turn is a step
  abbrev pub IsRunOf : List (List (K × V)) → List R → Type 0
  IsRunOf [] requests = ⊥
  IsRunOf (es ∷ later) [] = later ≡ []
  IsRunOf (es ∷ later) (r ∷ requests) = StepsTo es r later × IsRunOf later requests

module _ {K V : Type 0} (step : K → List (K × V) → List (K × V) → Type 0) where
  -- a step as caches are used: a look-up of x, and, where x is not held, this step
  pub record IsGetOr (eq : K → K → Bool) (x : K) (es next : List (K × V)) : Type 0 where
    pub held : holds eq x (keys_of es) ≡ true → next ≡ touch eq x es
    pub missed : holds eq x (keys_of es) ≡ false → step x es next

module _ {K V : Type 0} (eq : K → K → Bool) (k : ℕ) where
  -- the entries after a put of the key x under the capacity k at weight zero, in whichever form: first a pair of the key, then
  -- the others without its old pair, or, where it was not held, as many of the others as have room beside it
  pub record IsPut (x : K) (es next : List (K × V)) : Type 0 where
    pub key : K
    pub value : V
    pub same : eq x key ≡ true
    pub entries : next ≡ (key, value) ∷ (if holds eq x (keys_of es) then without eq x es else take (k - 1) es)

  -- the entries before each request and at the end, where each request in turn is a put of its key
  abbrev pub IsPutRun : List (List (K × V)) → List K → Type 0
  IsPutRun run requests = IsRunOf IsPut run requests

  -- how many pairs plain puts drop in such a run
  abbrev pub drops : List (List (K × V)) → List K → ℕ
  drops [] requests = 0
  drops (es ∷ later) [] = 0
  drops (es ∷ later) (x ∷ requests) = length (option_to_list (plain_drop eq k x es)) + drops later requests

module _ {K V : Type 0} (eq : K → K → Bool) where
  -- for each request in order whether its key is held before it
  abbrev pub held_before : List (List (K × V)) → List K → List Bool
  held_before run requests = schedule_marks eq (map keys_of run) requests
