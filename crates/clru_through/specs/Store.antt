-- What a contract sees of a store. Public clauses cite it.
use Rattle.std.specs.Prelude.{◌≡◌, Bool, IsTrue, Option, Some, List, refl}
use Rattle.std.specs.Coded.{Coded, code_by, coded×}
use Rattle.std.specs.List.{AllByRecursion}
use Rattle.clru.specs.Cache.{Cache}

-- the cache, and the source behind it
pub record Store (K V W R : Type 0) : Type 0 where
  pub cache : Cache K V W
  pub source : R

module _ {K V W R : Type 0} where
  abbrev pub store : Cache K V W → R → Store K V W R
  store c s = record { cache = c; source = s }

  abbrev pub store_code : Coded (Cache K V W) → Coded R → Coded (Store K V W R)
  store_code c r = code_by (Cache K V W × R) (coded× c r) (λ t. (t.cache, t.source)) (λ p. store p.0 p.1) (λ _. refl)

-- each entry has a value that keeps what is promised of its key
unfoldable pub AllKeep : {K P V : Type 0} → (P → V → Type 0) → (K → P) → List (K × V) → Type 0
AllKeep keeps promised es = AllByRecursion (λ e. keeps (promised e.0) e.1) es

-- v keeps what is promised of each key that passes the test
abbrev pub KeepsFor : {K P V : Type 0} → (P → V → Type 0) → (K → P) → (K → Bool) → V → Type 0
KeepsFor {K} keeps promised test v = (k : K) → IsTrue (test k) → keeps (promised k) v

-- both where the promise is the value itself: each entry has the value that the source gives for its key
abbrev pub AllFrom : {K V : Type 0} → (K → Option V) → List (K × V) → Type 0
AllFrom value es = AllKeep (λ promise v. promise ≡ Some v) value es

-- and v is the value that the source gives for each key that passes the test
abbrev pub IsValueOf : {K V : Type 0} → (K → Option V) → (K → Bool) → V → Type 0
IsValueOf value test v = KeepsFor (λ promise v. promise ≡ Some v) value test v
