-- A put-or-modify whose closures may fail, as an attempt says.
use Rattle.std.proofs.Common.{◌≡◌, Bool, ◌∷◌, Option, Some, None, Result, Ok, Err, refl, sym, ap, ◌∙◌}
use Rattle.std.specs.Borrow.{Bor, MutBor}
use Rattle.std.specs.Fn.{Mut, Called}
use Rattle.std.specs.Map.{lookup_entry, remove_entry}
use Rattle.clru_model.specs.Refusals.{IfNoMemory, MatchTryPutError}
use Rattle.clru_model.specs.declared.error.TryPutError.{TryPutError}
use Rattle.clru_model.specs.declared.error.TryPutError.TheVariants.{NoMemory, Failed}
use Rattle.clru_model.proofs.Finding.{missed_at, touch-missed}
use Rattle.clru.specs.Cache.{Cache}
use Rattle.clru.specs.Closures.{TryPutsOrModifies, FailsToPutOrModify}
use Rattle.clru_model.specs.Entries.{touch, plain_put}
use Rattle.clru.specs.Memory.{GrowsOnlyIf, NeedsPlace}
use Rattle.clru_runs.specs.Attempts.{stored_by, succeeds_by, left_by}
use Rattle.clru_runs.specs.Step.{TryPuts, written}
use Rattle.clru_runs.specs.declared.call.Attempt.{Attempt}
use Rattle.clru_runs.specs.declared.call.Attempt.TheVariants.{Store, Fail}
use Rattle.clru_runs.proofs.Lending.{set_value-absent, lookup_entry-set_value, remove_entry-set_value}

module _ {K V W : Type 0} (eq : K → K → Bool) (old : Cache K V W) (x : K) where
  -- a failed put operation leaves the entries
  written-absent : (left : Option V) → None ≡ lookup_entry (eq x) old.entries → touch eq x (written eq old x left) ≡ old.entries
  written-absent None none = touch-missed eq x (missed_at (eq x) none)
  written-absent (Some v) none =
      let m = missed_at (eq x) none in rw (set_value-absent (eq x) v old.entries m.value) (touch-missed eq x m)

  -- and a failed modify operation leaves what it wrote in front
  written-held : (left : Option V) (e : K × V) → lookup_entry (eq x) old.entries ≡ Some e
      → touch eq x (written eq old x left) ≡ (e.0, left_by (Fail left) e.1) ∷ remove_entry (eq x) old.entries
  written-held None e some = rw some refl
  written-held (Some v) e some =
      rw (lookup_entry-set_value (eq x) v old.entries e some, remove_entry-set_value (eq x) v old.entries) refl

module _ {P M K V : Type 0} (p : Mut P (Bor K × (Attempt V × Unit {0})) (Result V (Unit {0})))
    (m : Mut M (Bor K × (MutBor V × (Attempt V × Unit {0}))) (Result (Unit {0}) (Unit {0}) × (MutBor V × Unit {0}))) (put : P) (modify : M) where
  -- the put operation answers as the attempt says
  abbrev Stores : Attempt V → Type 0
  Stores attempt = (shown : Bor K) (r : Result V (Unit {0})) (put' : P) → Called p put (shown, (attempt, tt)) r put' → r ≡ stored_by attempt

  -- and so does the modify operation, which writes so
  abbrev Writes : Attempt V → Type 0
  Writes attempt = (shown : Bor K) (lent left : MutBor V) (r : Result (Unit {0}) (Unit {0})) (modify' : M)
      → Called m modify (shown, (lent, (attempt, tt))) (r, (left, tt)) modify' → (r ≡ succeeds_by attempt) × (left.now ≡ left_by attempt lent.now)

  -- where one succeeded, the attempt stored what is lent
  pub lent_by : (attempt : Attempt V) → Stores attempt → Writes attempt → (held : Option (K × V)) (x : K) {v : V}
      → TryPutsOrModifies p m held put modify x attempt v → attempt ≡ Store v
  lent_by (Store w) stores writes None x {v} c =
      let answer : Ok v ≡ Ok w = stores c.1.shown (Ok v) c.0 c.1.called in let same : w ≡ v = cc in ap (λ u. Store u) same
  lent_by (Store w) stores writes (Some e) x {v} c =
      ap (λ u. Store u) (sym (writes c.1.shown c.1.lent c.1.left (Ok tt) c.0 c.1.called).1 ∙ c.1.leaves)
  lent_by (Fail left) stores writes None x {v} c = let answer = stores c.1.shown (Ok v) c.0 c.1.called in cc
  lent_by (Fail left) stores writes (Some e) x {v} c = let answer = (writes c.1.shown c.1.lent c.1.left (Ok tt) c.0 c.1.called).0 in cc

  module _ {W : Type 0} (eq : K → K → Bool) (old new : Cache K V W) (x : K) (grows : GrowsOnlyIf (NeedsPlace eq old x) old new) where
    -- where one failed, the entries are as the attempt has left them
    failed_by : (attempt : Attempt V) (f : Unit {0}) → Stores attempt → Writes attempt → (held : Option (K × V)) → held ≡ lookup_entry (eq x) old.entries
        → FailsToPutOrModify p m held put modify x attempt f old.entries (λ v. plain_put eq old.capacity x v old.entries) new.entries
        → TryPuts eq old x attempt (Err (Failed f)) new
    failed_by (Store w) f stores writes None is c = let answer = stores c.0.1.shown (Err f) c.0.0 c.0.1.called in cc
    failed_by (Store w) f stores writes (Some e) is c = let answer = (writes c.2.shown c.2.lent c.2.left (Err f) c.1 c.2.called).0 in cc
    failed_by (Fail left) f stores writes None is c = (c.1 ∙ sym (written-absent eq old x left is), grows)
    failed_by (Fail left) f stores writes (Some e) is c =
        let wrote = sym c.2.leaves ∙ (writes c.2.shown c.2.lent c.2.left (Err f) c.1 c.2.called).1 ∙ ap (λ v. left_by (Fail left) v) c.2.lends in
        let put : plain_put eq old.capacity x c.0 old.entries ≡ (e.0, c.0) ∷ remove_entry (eq x) old.entries = rw (← is) refl in
        (c.3 ∙ put ∙ ap (λ v. (e.0, v) ∷ remove_entry (eq x) old.entries) wrote ∙ sym (written-held eq old x left e (sym is)), grows)

    -- where it was refused, that is a step
    pub refused_by : (attempt : Attempt V) (r : TryPutError K (Attempt V) (Unit {0})) → Stores attempt → Writes attempt
        → IfNoMemory r (λ back. back ≡ (x, attempt)) → IfNoMemory r (λ _. NeedsPlace eq old x)
        → MatchTryPutError r (new.entries ≡ old.entries) (λ f. FailsToPutOrModify p m (lookup_entry (eq x) old.entries) put modify x attempt f old.entries
        (λ v. plain_put eq old.capacity x v old.entries) new.entries) → TryPuts eq old x attempt (Err r) new
    refused_by (Store w) (NoMemory k d) stores writes back needs same = (back, record { needs = needs; entries = same; places = grows })
    refused_by (Fail left) (NoMemory k d) stores writes back needs same = (back, record { needs = needs; entries = same; places = grows })
    refused_by attempt (Failed f) stores writes back needs fails = failed_by attempt f stores writes (lookup_entry (eq x) old.entries) refl fails
