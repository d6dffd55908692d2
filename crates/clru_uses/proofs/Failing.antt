-- A put that can't succeed is a look-up: its put operation always fails, and its modify operation writes nothing.
use Rattle.std.proofs.Common.{◌≡◌, Bool, Some, None, is_some, Result, Ok, Err, List, refl, sym, ap, ◌∙◌}
use Rattle.std.specs.Borrow.{Bor, MutBor}
use Rattle.std.specs.Fn.{Mut, Called}
use Rattle.std.specs.Map.{lookup, lookup_entry}
use Rattle.clru.specs.Closures.{TryPutsOrModifies, FailsToPutOrModify}
use Rattle.clru_model.specs.Entries.{touch}
use Rattle.clru_model.proofs.Finding.{missed, held_at, missed_at, touch-missed}

module _ {K V : Type 0} (eq : K → K → Bool) (x : K) (es : List (K × V)) where
  -- the key is not held and the entries are as they were
  pub record IsUnheld (after : List (K × V)) : Type 0 where
    pub absent : None ≡ lookup (eq x) es
    pub touched : after ≡ touch eq x es

  pub unheld : {after : List (K × V)} → None ≡ lookup (eq x) es → after ≡ es → IsUnheld after
  unheld absent same = record { absent = absent; touched = same ∙ sym (touch-missed eq x (missed (eq x) (ap is_some absent))) }

module _ {P M K V T E : Type 0} (p : Mut P (Bor K × (T × Unit {0})) (Result V E))
    (m : Mut M (Bor K × (MutBor V × (T × Unit {0}))) (Result (Unit {0}) E × (MutBor V × Unit {0}))) (eq : K → K → Bool) (x : K) (es : List (K × V))
    {modify : M} {t : T} where
  -- where it succeeds, it lends the value as it was
  pub finds : {put : P} {v : V} → ((shown : Bor K) (r : V) (put' : P) → Called p put (shown, (t, tt)) (Ok r) put' → ⊥)
      → ((shown : Bor K) (lent left : MutBor V) (modify' : M) → Called m modify (shown, (lent, (t, tt))) (Ok tt, (left, tt)) modify' → left.now ≡ lent.now)
      → TryPutsOrModifies p m (lookup_entry (eq x) es) put modify x t v → Some v ≡ lookup (eq x) es
  finds {put} {v} fails leaves called =
      (elim (lookup_entry (eq x) es) as (λ o. lookup_entry (eq x) es ≡ o → TryPutsOrModifies p m o put modify x t v → Some v ≡ lookup (eq x) es) [
        | None ↦ λ none c. absurd (fails c.1.shown v c.0 c.1.called)
        | Some e ↦ λ some c. let h = held_at (eq x) (sym some) in let same : Some e ≡ Some h.entry = sym some ∙ h.looked_up in
            let is : e ≡ h.entry = cc in
            ap (λ w. Some w) (sym c.1.leaves ∙ leaves c.1.shown c.1.lent c.1.left c.0 c.1.called ∙ c.1.lends ∙ ap (λ (d : K × V). d.1) is) ∙ sym h.value
      ]) refl called

  -- where it fails, the key is not held and the entries are as they were
  pub finds_none : (put : P) (written : V → List (K × V)) {f : E} {after : List (K × V)}
      → ((shown : Bor K) (lent left : MutBor V) (modify' : M) → Called m modify (shown, (lent, (t, tt))) (Err f, (left, tt)) modify' → ⊥)
      → FailsToPutOrModify p m (lookup_entry (eq x) es) put modify x t f es written after → IsUnheld eq x es after
  finds_none put written {f} {after} succeeds fails =
      (elim (lookup_entry (eq x) es) as (λ o. lookup_entry (eq x) es ≡ o → FailsToPutOrModify p m o put modify x t f es written after → IsUnheld eq x es after) [
        | None ↦ λ none c. unheld eq x es (sym (missed_at (eq x) (sym none)).value) c.1
        | Some e ↦ λ some c. let call = c.2 in absurd (succeeds call.shown call.lent call.left c.1 call.called)
      ]) refl fails
