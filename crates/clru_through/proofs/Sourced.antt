-- Entries whose values keep what is promised of their keys, and a key in the lists that a load leaves.
use Rattle.std.proofs.Common.{◌≡◌, ℕ, ◌-◌, ◌⊎◌, Bool, true, false, List, [], ◌∷◌, Option, Some, None, IsTrue, IfSome, IsSomeAnd, slice_get, refl, sym, ap, ◌∙◌, inl, inr}
use Rattle.std.specs.Cmp.{IsEquivalence}
use Rattle.std.specs.Option.{option_map_or}
use Rattle.std.specs.Map.{lookup, lookup_entry}
use Rattle.clru.specs.Cache.{Cache}
use Rattle.clru_model.specs.Entries.{fit, touch, weighted_put, without}
use Rattle.clru_model.proofs.Sublists.{All-sublist, IsSublist, sublist_remove_entry, sublist_trans}
use Rattle.clru_model.proofs.Fitting.{sublist_fit}
use Rattle.clru_model.proofs.Forms.{IsForm}
use Rattle.clru_through.specs.Steps.{Takes}
use Rattle.clru_through.specs.Store.{AllKeep, KeepsFor}
use Rattle.clru_through.specs.declared.answer.Loaded.{Loaded}
use Rattle.clru_through.specs.declared.answer.Loaded.TheVariants.{Held, Passed}

module _ {K V : Type 0} (test : K → Bool) where
  -- the first entry whose key passes has the value v
  pub record IsEntryOf (es : List (K × V)) (v : V) : Type 0 where
    pub key : K
    pub passes : test key ≡ true
    pub looked_up : lookup_entry test es ≡ Some (key, v)

  pub entry_of : (es : List (K × V)) (v : V) → lookup test es ≡ Some v → IsEntryOf es v
  entry_of [] v h = cc
  entry_of (e ∷ es) v h = (elim (test e.0) as (λ b. test e.0 ≡ b → IsEntryOf (e ∷ es) v) [
    | true ↦ λ t. let first : Some e.1 ≡ Some v = rw t at h in let value : e.1 ≡ v = cc in record {
      key = e.0;
      passes = t;
      looked_up = rw t (ap (λ w. Some (e.0, w)) value);
    }
    | false ↦ λ t. let later = entry_of es v (rw t at h) in record { key = later.key; passes = later.passes; looked_up = rw t later.looked_up }
  ]) refl

  pub no_entry : (es : List (K × V)) → lookup test es ≡ None → lookup_entry test es ≡ None
  no_entry [] h = refl
  no_entry (e ∷ es) h = (elim (test e.0) as (λ b. test e.0 ≡ b → lookup_entry test (e ∷ es) ≡ None) [
    | true ↦ λ t. let no : Some e.1 ≡ None = rw t at h in cc
    | false ↦ λ t. rw t (no_entry es (rw t at h))
  ]) refl

  module _ {P : Type 0} (keeps : P → V → Type 0) (promised : K → P) where
    -- what holds of each entry holds of the one that is found
    pub AllKeep-lookup_entry : (es : List (K × V)) (e : K × V) → AllKeep keeps promised es → lookup_entry test es ≡ Some e → keeps (promised e.0) e.1
    unfolding AllKeep
    AllKeep-lookup_entry [] e all h = cc
    AllKeep-lookup_entry (f ∷ es) e all h = (elim (test f.0) as (λ b. test f.0 ≡ b → keeps (promised e.0) e.1) [
      | true ↦ λ t. let first : Some f ≡ Some e = rw t at h in let same : f ≡ e = cc in rw (← same) all.0
      | false ↦ λ t. AllKeep-lookup_entry es e all.1 (rw t at h)
    ]) refl

module _ {K P V : Type 0} (keeps : P → V → Type 0) (promised : K → P) where
  pub AllKeep-nil : AllKeep keeps promised []
  unfolding AllKeep
  AllKeep-nil = tt

  -- of a cache that a store can be made of
  pub AllKeep_given : (es : List (K × V)) → (es ≡ []) ⊎ AllKeep keeps promised es → AllKeep keeps promised es
  AllKeep_given es given = elim given [ inl empty ↦ rw empty AllKeep-nil | inr all ↦ all ]

  pub AllKeep-sublist : (es fs : List (K × V)) → IsSublist fs es → AllKeep keeps promised fs → AllKeep keeps promised es
  unfolding AllKeep
  AllKeep-sublist es fs less all = All-sublist (λ (d : K × V). keeps (promised d.0) d.1) less all

  pub AllKeep-without : {X : Type 0} (eq : X → K → Bool) (x : X) (es : List (K × V)) → AllKeep keeps promised es → AllKeep keeps promised (without eq x es)
  AllKeep-without eq x es all = AllKeep-sublist (without eq x es) es (sublist_remove_entry (eq x) es) all

  pub AllKeep-fit : (weight : K → V → ℕ) (c : ℕ) (es : List (K × V)) → AllKeep keeps promised es → AllKeep keeps promised (fit weight c es)
  AllKeep-fit weight c es all = AllKeep-sublist (fit weight c es) es (sublist_fit weight c es) all

-- of a source that promises the same as another
pub AllKeep_promised : {K P V : Type 0} (keeps : P → V → Type 0) (new old : K → P) → ((k : K) → new k ≡ old k) → (es : List (K × V))
    → AllKeep keeps old es → AllKeep keeps new es
unfolding AllKeep
AllKeep_promised keeps new old kept [] all = tt
AllKeep_promised keeps new old kept (e ∷ es) all = (rw (kept e.0) all.0, AllKeep_promised keeps new old kept es all.1)

-- by a key or a form of it
module _ {X K V : Type 0} (eq : X → K → Bool) (x : X) where
  pub touch-absent : (es : List (K × V)) → lookup (eq x) es ≡ None → touch eq x es ≡ es
  touch-absent es h = rw (no_entry (eq x) es h) refl

  pub lookup-touch : (es : List (K × V)) (v : V) → lookup (eq x) es ≡ Some v → lookup (eq x) (touch eq x es) ≡ Some v
  lookup-touch es v h = let e = entry_of (eq x) es v h in rw e.looked_up (rw e.passes refl)

  -- brought to the front it stands first
  pub first-touch : (es : List (K × V)) (v : V) → lookup (eq x) es ≡ Some v → (fits : V → Type 0) → fits v
      → IsSomeAnd (slice_get (touch eq x es) 0) (λ e. fits e.1)
  first-touch es v h fits so = let e = entry_of (eq x) es v h in rw e.looked_up so

  module _ {P : Type 0} (keeps : P → V → Type 0) (promised : K → P) where
    AllKeep-touched : (es : List (K × V)) (o : Option (K × V)) → AllKeep keeps promised es → lookup_entry (eq x) es ≡ o
        → AllKeep keeps promised (option_map_or (λ e. e ∷ without eq x es) o es)
    unfolding AllKeep
    AllKeep-touched es None all h = all
    AllKeep-touched es (Some e) all h = (
      AllKeep-lookup_entry (eq x) keeps promised es e all h,
      All-sublist (λ (d : K × V). keeps (promised d.0) d.1) (sublist_remove_entry (eq x) es) all,
    )

    pub AllKeep-touch : (es : List (K × V)) → AllKeep keeps promised es → AllKeep keeps promised (touch eq x es)
    AllKeep-touch es all = AllKeep-touched es (lookup_entry (eq x) es) all refl

module _ {K P V : Type 0} (eq : K → K → Bool) (x : K) (keeps : P → V → Type 0) (promised : K → P) where
  pub AllKeep-weighted_put : (weight : K → V → ℕ) (c : ℕ) (v : V) (es : List (K × V)) → keeps (promised x) v → AllKeep keeps promised es
      → AllKeep keeps promised (weighted_put eq weight c x v es)
  unfolding AllKeep
  AllKeep-weighted_put weight c v es h all = (
    h,
    All-sublist (λ (d : K × V). keeps (promised d.0) d.1)
        (sublist_trans (sublist_remove_entry (eq x) es) (sublist_fit weight (c - 1 - weight x v) (without eq x es))) all,
  )

-- what becomes of a fetched value that keeps what is promised leaves such entries
pub AllKeep-taken : {K P V W : Type 0} (eq : K → K → Bool) (weight : K → V → ℕ) (keeps : P → V → Type 0) (promised : K → P)
    (old new : Cache K V W) (x : K) (v : V) (loaded : Loaded V) → keeps (promised x) v → Takes eq weight old x v loaded new
    → AllKeep keeps promised old.entries → AllKeep keeps promised new.entries
AllKeep-taken eq weight keeps promised old new x v (Held fetched) given taken all =
    rw taken.1.entries (AllKeep-weighted_put eq x keeps promised weight old.capacity v old.entries given all)
AllKeep-taken eq weight keeps promised old new x v (Passed w) given taken all = rw taken.entries all

-- by a form of a key, where the same is promised of keys that are the same
module _ {K P V : Type 0} {eq : K → K → Bool} {test : K → Bool} (form : IsForm eq test) (keeps : P → V → Type 0) {promised : K → P}
    (same : (x y : K) → IsTrue (eq x y) → promised x ≡ promised y) (es : List (K × V)) (all : AllKeep keeps promised es) where
  -- the value that is found keeps it
  pub KeepsFor-lookup : (v : V) → lookup test es ≡ Some v → KeepsFor keeps promised test v
  KeepsFor-lookup v h = λ k passes.
      let e = entry_of test es v h in
      rw (← same e.key k (sym (form e.key k e.passes) ∙ passes)) (AllKeep-lookup_entry test keeps promised es (e.key, v) all e.looked_up)

  -- and so does the one that is taken out
  pub IfSome-held : (held : Option V) → held ≡ lookup test es → IfSome held (λ v. KeepsFor keeps promised test v)
  IfSome-held None is = tt
  IfSome-held (Some v) is = KeepsFor-lookup v (sym is)

-- a key is a form of itself
pub AllKeep-lookup : {K P V : Type 0} {eq : K → K → Bool} → IsEquivalence eq → (x : K) (keeps : P → V → Type 0) {promised : K → P}
    → ((x y : K) → IsTrue (eq x y) → promised x ≡ promised y) → (es : List (K × V)) → AllKeep keeps promised es
    → (v : V) → lookup (eq x) es ≡ Some v → keeps (promised x) v
AllKeep-lookup laws x keeps same es all v h = KeepsFor-lookup (laws.congr x) keeps same es all v h x (laws.refl x)
