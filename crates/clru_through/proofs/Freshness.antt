-- Which value a load leaves that fetches stale values again.
use Rattle.std.proofs.Common.{◌≡◌, ℕ, Bool, true, false, not, Option, Some, None, Result, Ok, Err, IfOk, IfSome, IsSomeAnd, slice_get, refl, inl}
use Rattle.std.specs.Borrow.{Bor}
use Rattle.std.specs.Fn.{Mut, Called}
use Rattle.std.specs.Map.{lookup}
use Rattle.std.specs.Option.{option_copied}
use Rattle.clru_through.specs.Given.{IsHeld, loaded_value}
use Rattle.clru_through.specs.Steps.{Loads, LoadsBy}
use Rattle.clru_through.specs.Store.{Store}
use Rattle.clru_through.specs.Unless.{IsFresh, Says}
use Rattle.clru_through.specs.declared.answer.Loaded.{Loaded}
use Rattle.clru_through.specs.declared.answer.Loaded.TheVariants.{Held, Passed}
use Rattle.clru_through.proofs.Sourced.{entry_of, lookup-touch}

module _ {K V W R E : Type 0} (eq : K → K → Bool) (weight : K → V → ℕ) (fetches : R → K → Result V E → R → Type 0)
    (says : V → Bool → Type 0) (old : Store K V W R) (x : K) (new : Store K V W R) where
  fresh_by : (result : Result (Loaded V) E) (o : Option V) → lookup (eq x) old.cache.entries ≡ o → IsSomeAnd o (λ v. says v false)
      → LoadsBy eq weight fetches old x result new o
      → IfOk result (λ loaded. IsSomeAnd (loaded_value (eq x) new.cache.entries loaded) (IsFresh fetches says old.source x new.source))
  fresh_by result None is said step = absurd said
  fresh_by (Err d) (Some v) is said step = tt
  fresh_by (Ok (Held f)) (Some v) is said step = rw step.ends (rw (lookup-touch eq x old.cache.entries v is) (inl said))
  fresh_by (Ok (Passed w)) (Some v) is said step = let no = step.answer in cc

  -- a load of a held value that is not said to be stale leaves one that is fresh
  pub fresh_loaded : (result : Result (Loaded V) E) → IsSomeAnd (lookup (eq x) old.cache.entries) (λ v. says v false)
      → Loads eq weight fetches old x result new
      → IfOk result (λ loaded. IsSomeAnd (loaded_value (eq x) new.cache.entries loaded) (IsFresh fetches says old.source x new.source))
  fresh_loaded result said step = fresh_by result (lookup (eq x) old.cache.entries) refl said step

  first_by : (result : Result (Loaded V) E) (o : Option V) → lookup (eq x) old.cache.entries ≡ o → IsSomeAnd o (λ v. says v false)
      → LoadsBy eq weight fetches old x result new o
      → IfOk result (λ loaded. IsHeld loaded → IsSomeAnd (slice_get new.cache.entries 0) (λ e. loaded_value (eq x) new.cache.entries loaded ≡ Some e.1))
  first_by result None is said step = absurd said
  first_by (Err d) (Some v) is said step = tt
  first_by (Ok (Held f)) (Some v) is said step = λ _.
      let e = entry_of (eq x) old.cache.entries v is in rw step.ends (rw e.looked_up (rw e.passes refl))
  first_by (Ok (Passed w)) (Some v) is said step = λ held. absurd held

  -- and it stands first
  pub first_fresh : (result : Result (Loaded V) E) → IsSomeAnd (lookup (eq x) old.cache.entries) (λ v. says v false)
      → Loads eq weight fetches old x result new
      → IfOk result (λ loaded. IsHeld loaded → IsSomeAnd (slice_get new.cache.entries 0) (λ e. loaded_value (eq x) new.cache.entries loaded ≡ Some e.1))
  first_fresh result said step = first_by result (lookup (eq x) old.cache.entries) refl said step

-- of one call of a closure at the value that a look-up answers
module _ {F K V : Type 0} (g : Mut F (Bor K × (Bor V × Unit {0})) Bool) (f f' : F) (key : Bor K) where
  said : (answer : Option (Bor V)) (value : Bor V) (stale : Bool) (held : Option V) → answer ≡ Some value → option_copied answer ≡ held
      → Called g f (key, (value, tt)) stale f' → IsSomeAnd held (λ v. Says g f key.now v stale)
  said answer value stale held some is called =
      rw (← is) (rw some (f', record { key = key; value = value; shows = (refl, refl); called = called; stays = refl }))

  pub said_fresh : (answer : Option (Bor V)) (value : Bor V) (stale : Bool) (held : Option V) → answer ≡ Some value
      → option_copied answer ≡ held → Called g f (key, (value, tt)) stale f' → not stale ≡ true
      → IsSomeAnd held (λ v. Says g f key.now v false)
  said_fresh answer value true held some is called says = cc
  said_fresh answer value false held some is called says = said answer value false held some is called

  if_some : (held : Option V) (fits : V → Type 0) → IsSomeAnd held fits → IfSome held fits
  if_some None fits none = tt
  if_some (Some v) fits it = it

  pub said_stale : (answer : Option (Bor V)) (value : Bor V) (stale : Bool) (held : Option V) → answer ≡ Some value
      → option_copied answer ≡ held → Called g f (key, (value, tt)) stale f' → not stale ≡ false
      → IfSome held (λ v. Says g f key.now v true)
  said_stale answer value true held some is called says =
      if_some held (λ v. Says g f key.now v true) (said answer value true held some is called)
  said_stale answer value false held some is called says = cc
