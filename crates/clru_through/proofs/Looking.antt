-- What the answer of a look-up says of the entries.
use Rattle.std.proofs.Common.{◌≡◌, Bool, true, false, List, [], ◌∷◌, Option, Some, None, IsTrue, IsSomeAnd, slice_get, refl, sym, ap, subst}
use Rattle.std.specs.Borrow.{Bor}
use Rattle.std.specs.Map.{lookup}
use Rattle.std.specs.Map.Iter.{deref_pair}
use Rattle.std.specs.Option.{IfNone, IfSome, is_some, option_copied, option_map}
use Rattle.clru.specs.Cache.{Cache, with_entries}
use Rattle.clru_model.specs.Entries.{touch}
use Rattle.clru_model.proofs.Forms.{IsForm}
use Rattle.clru_through.specs.Store.{AllKeep, KeepsFor, store}
use Rattle.clru_through.proofs.Sourced.{KeepsFor-lookup, first-touch, touch-absent}

-- where it answers something, it answers a value
pub is_there : {V : Type 0} (held : Option V) → is_some held ≡ true → (v : V) × (held ≡ Some v)
is_there None some = cc
is_there (Some v) some = (v, refl)

-- where a look-up answers nothing, the key is not held
pub is_absent : {V : Type 0} (answer : Option (Bor V)) (held : Option V) → option_copied answer ≡ held → is_some answer ≡ false → held ≡ None
is_absent None held is none = sym is
is_absent (Some v) held is none = cc

-- where x is not held, bringing its entry to the front leaves the cache as it is
pub with_entries-touch-absent : {X K V W : Type 0} (eq : X → K → Bool) (x : X) (c : Cache K V W) → lookup (eq x) c.entries ≡ None
    → with_entries c (touch eq x c.entries) ≡ c
with_entries-touch-absent eq x c absent = ap (with_entries c) (touch-absent eq x c.entries absent)

-- nor the store with that cache
pub unchanged_if_none : {X K V W R : Type 0} (eq : X → K → Bool) (x : X) (c : Cache K V W) (source : R) (answer : Option (Bor V))
    → option_copied answer ≡ lookup (eq x) c.entries → IfNone answer (store (with_entries c (touch eq x c.entries)) source ≡ store c source)
unchanged_if_none eq x c source None is = ap (λ c. store c source) (with_entries-touch-absent eq x c (sym is))
unchanged_if_none eq x c source (Some v) is = tt

-- the value that a look-up answers then stands first
pub first_if_some : {X K V : Type 0} (eq : X → K → Bool) (x : X) (es : List (K × V)) (answer : Option (Bor V))
    → option_copied answer ≡ lookup (eq x) es → IfSome answer (λ v. IsSomeAnd (slice_get (touch eq x es) 0) (λ e. e.1 ≡ v.now))
first_if_some eq x es None is = tt
first_if_some eq x es (Some v) is = first-touch eq x es v.now (sym is) (λ w. w ≡ v.now) refl

-- the value that a look-up by a form of a key answers keeps what is promised
pub IfSome-lookup : {K P V : Type 0} {eq : K → K → Bool} {test : K → Bool} → IsForm eq test → (keeps : P → V → Type 0) {promised : K → P}
    → ((x y : K) → IsTrue (eq x y) → promised x ≡ promised y) → (es : List (K × V)) → AllKeep keeps promised es → (answer : Option (Bor V))
    → option_copied answer ≡ lookup test es → IfSome answer (λ v. KeepsFor keeps promised test v.now)
IfSome-lookup form keeps same es all None is = tt
IfSome-lookup form keeps same es all (Some v) is = KeepsFor-lookup form keeps same es all v.now (sym is)

-- so does that of the first pair
pub IfSome-first : {K P V : Type 0} (keeps : P → V → Type 0) (promised : K → P) (es : List (K × V)) → AllKeep keeps promised es
    → (answer : Option (Bor K × Bor V)) → option_map deref_pair answer ≡ slice_get es 0
    → IfSome answer (λ e. keeps (promised e.0.now) e.1.now)
unfolding AllKeep
IfSome-first keeps promised es all None is = tt
IfSome-first keeps promised [] all (Some e) is = cc
IfSome-first {K = K} {V = V} keeps promised (d ∷ es) all (Some e) is =
    let same : (e.0.now, e.1.now) ≡ d = cc in subst (λ (p : K × V). keeps (promised p.0) p.1) (sym same) all.0
