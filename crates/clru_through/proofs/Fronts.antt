-- What stands first after a load.
use Rattle.std.proofs.Common.{◌≡◌, ℕ, Bool, Option, Some, None, Result, Ok, Err, slice_get, refl, sym, ap, ◌∙◌}
use Rattle.std.specs.Borrow.{Bor}
use Rattle.std.specs.Cmp.{IsEquivalence}
use Rattle.std.specs.Map.{lookup}
use Rattle.std.specs.Map.Iter.{deref_pair}
use Rattle.std.specs.Option.{option_map}
use Rattle.clru_through.specs.Steps.{TakesAnswer, LoadsBy, Loads}
use Rattle.clru_through.specs.Store.{Store}
use Rattle.clru_through.specs.declared.answer.Loaded.TheVariants.{Held}
use Rattle.clru_through.proofs.Sourced.{entry_of}

module _ {K V W R E : Type 0} (eq : K → K → Bool) (laws : IsEquivalence eq) (weight : K → V → ℕ) (fetches : R → K → Result V E → R → Type 0)
    (old : Store K V W R) (x : K) (new : Store K V W R) where
  first_fetched : (f : Bool) (fetched : Result V E) → TakesAnswer eq weight old.cache x fetched (Ok (Held f)) new.cache
      → option_map (λ e. e.1) (slice_get new.cache.entries 0) ≡ lookup (eq x) new.cache.entries
  first_fetched f (Ok v) put = rw put.1.entries (rw (laws.refl x) refl)
  first_fetched f (Err d) none = absurd none

  first_by : (f : Bool) (o : Option V) → lookup (eq x) old.cache.entries ≡ o → LoadsBy eq weight fetches old x (Ok (Held f)) new o
      → option_map (λ e. e.1) (slice_get new.cache.entries 0) ≡ lookup (eq x) new.cache.entries
  first_by f None absent miss = first_fetched f miss.fetched miss.passes
  first_by f (Some v) held hit =
      let e = entry_of (eq x) old.cache.entries v held in rw hit.ends (rw e.looked_up (rw e.passes refl))

  -- after a load that answered `Held` the first value is that of the key
  pub first_loaded : (f : Bool) → Loads eq weight fetches old x (Ok (Held f)) new
      → option_map (λ e. e.1) (slice_get new.cache.entries 0) ≡ lookup (eq x) new.cache.entries
  first_loaded f step = first_by f (lookup (eq x) old.cache.entries) refl step

  shown : (front : Option (Bor K × Bor V)) (e : Bor K × Bor V) (held : Option V)
      → option_map (λ e. e.1) (option_map deref_pair front) ≡ held → front ≡ Some e → held ≡ Some e.1.now
  shown None e held is some = cc
  shown (Some d) e held is some = sym is ∙ ap (λ f. option_map (λ e. e.1) (option_map deref_pair f)) some

  -- the value that is shown first is that of the key
  pub front_loaded : (f : Bool) → Loads eq weight fetches old x (Ok (Held f)) new → (front : Option (Bor K × Bor V)) (e : Bor K × Bor V)
      → option_map deref_pair front ≡ slice_get new.cache.entries 0 → front ≡ Some e → lookup (eq x) new.cache.entries ≡ Some e.1.now
  front_loaded f step front e is some =
      shown front e (lookup (eq x) new.cache.entries) (ap (option_map (λ e. e.1)) is ∙ first_loaded f step) some
