-- What a put-or-modify lends, whose closures both store the data, and what one leaves whose closures may fail.
use Rattle.std.proofs.Common.{◌≡◌, Bool, List, [], ◌∷◌, Option, Some, None, is_some, refl, sym, ap, ◌∙◌}
use Rattle.std.specs.Map.{lookup, lookup_entry, remove_entry, set_value}
use Rattle.std.specs.Borrow.{Bor, MutBor}
use Rattle.std.specs.Fn.{Mut, Called}
use Rattle.clru_model.proofs.Cases.{split}
use Rattle.clru_model.proofs.Finding.{missed, touch-missed}
use Rattle.clru.specs.Closures.{PutsOrModifies}
use Rattle.clru_model.specs.Entries.{touch}

-- a put-or-modify whose put operation gives the data and whose modify operation leaves it lends the data
pub lends_data : {P M K V : Type 0} (p : Mut P (Bor K × (V × Unit {0})) V)
    (m : Mut M (Bor K × (MutBor V × (V × Unit {0}))) (Unit {0} × (MutBor V × Unit {0})))
    (held : Option (K × V)) {put : P} {modify : M} (x : K) {t v : V}
    → ((shown : Bor K) (r : V) (put' : P) → Called p put (shown, (t, tt)) r put' → r ≡ t)
    → ((shown : Bor K) (lent left : MutBor V) (modify' : M) → Called m modify (shown, (lent, (t, tt))) (tt, (left, tt)) modify' → left.now ≡ t)
    → PutsOrModifies p m held put modify x t v → v ≡ t
lends_data p m None x puts modifies c = puts c.1.shown _ c.0 c.1.called
lends_data p m (Some e) x puts modifies c = sym c.1.leaves ∙ modifies c.1.shown c.1.lent c.1.left c.0 c.1.called

module _ {K V : Type 0} (test : K → Bool) (v : V) where
  -- where no key passes, nothing is written
  pub set_value-absent : (es : List (K × V)) → lookup test es ≡ None → set_value test es v ≡ es
  set_value-absent [] h = refl
  set_value-absent (e ∷ es) h = split (test e.0) (λ t. let no : Some e.1 ≡ None = rw t at h in cc)
      (λ f. rw f (ap (λ l. e ∷ l) (set_value-absent es (rw f at h))))

  pub lookup_entry-set_value : (es : List (K × V)) (e : K × V) → lookup_entry test es ≡ Some e → lookup_entry test (set_value test es v) ≡ Some (e.0, v)
  lookup_entry-set_value [] e h = cc
  lookup_entry-set_value (d ∷ es) e h = split (test d.0)
      (λ t. let first : Some d ≡ Some e = rw t at h in let is : d ≡ e = cc in rw (t, t) (ap (λ (x : K × V). Some (x.0, v)) is))
      (λ f. rw (f, f) (lookup_entry-set_value es e (rw f at h)))

  pub remove_entry-set_value : (es : List (K × V)) → remove_entry test (set_value test es v) ≡ remove_entry test es
  remove_entry-set_value [] = refl
  remove_entry-set_value (d ∷ es) = split (test d.0) (λ t. rw (t, t) refl) (λ f. rw (f, f) (ap (λ l. d ∷ l) (remove_entry-set_value es)))

module _ {K V : Type 0} (eq : K → K → Bool) (x : K) (es : List (K × V)) where
  -- a look-up that finds nothing moves nothing, and so nothing is written
  pub touched-absent : None ≡ lookup (eq x) es → (v : V) → set_value (eq x) (touch eq x es) v ≡ touch eq x es
  touched-absent none v =
      let same = touch-missed eq x (missed (eq x) (ap is_some none)) in
      rw same (set_value-absent (eq x) v es (sym none))
