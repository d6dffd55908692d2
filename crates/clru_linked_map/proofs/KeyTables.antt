-- What entries are found after a change of a table, and which changes leave its keys distinct.
use Rattle.std.proofs.Common.{◌≡◌, ◌+◌, ◌≤◌, Bool, false, cond, List, [], ◌∷◌, length, None, Some, refl, sym, ap, ◌∙◌, subst, arith}
use Rattle.std.specs.Cmp.{IsEquivalence}
use Rattle.std.specs.List.{AllByRecursion, IsDistinct}
use Rattle.std.specs.Map.{keys_of, lookup, set_value}
use Rattle.std.specs.Prelude.{is_some, if◌then◌else◌}
use Rattle.std.proofs.lemmas.Map.{length-set_value, lookup-set_value, NonePasses, none_passes_from_lookup, keys-set_value}
use Rattle.std.proofs.lemmas.Map.Keys.{IsDistinct-cons}
use Rattle.clru_model.proofs.Cases.{split}
use Rattle.clru_linked_map.specs.KeyTables.{IsKeyed, with_key}

module _ {K V : Type 0} (eq : K → K → Bool) where
  -- with no entry
  pub IsKeyed-none : IsKeyed {K = K} {V = V} eq []
  unfolding IsDistinct
  IsKeyed-none = record { distinct = tt }

  others_apart : (x : K) (es : List (K × V)) → NonePasses (eq x) es → AllByRecursion (λ y. eq x y ≡ false) (keys_of es)
  others_apart x [] none = tt
  others_apart x (e ∷ es) none = (none.0, others_apart x es none.1)

  -- with one more key, which is not held
  pub IsKeyed-insert : (x : K) (v : V) (es : List (K × V)) → lookup (eq x) es ≡ None → IsKeyed eq es → IsKeyed eq ((x, v) ∷ es)
  IsKeyed-insert x v es absent is = record {
    distinct = IsDistinct-cons eq x (keys_of es) (others_apart x es (none_passes_from_lookup (eq x) es absent)) is.distinct;
  }

  -- with another value of a key
  pub IsKeyed-replaced : (test : K → Bool) (es : List (K × V)) (v : V) → IsKeyed eq es → IsKeyed eq (set_value test es v)
  IsKeyed-replaced test es v is = record {
    distinct = subst (λ ks. IsDistinct eq ks) (sym (keys-set_value test es v)) is.distinct;
  }

module _ {K V : Type 0} (eq : K → K → Bool) (laws : IsEquivalence eq) (y x : K) (v : V) (es : List (K × V)) where
  -- the value that was put, at its key, and what was found before elsewhere
  pub lookup-with_key : lookup (eq y) (with_key eq x v es) ≡ (if eq y x then Some v else lookup (eq y) es)
  lookup-with_key = split (is_some (lookup (eq x) es))
      (λ held. rw held
      (lookup-set_value laws (eq x) (λ z w same. laws.congr x z w same) y v es held
      ∙ ap (λ (b : Bool). if b then Some v else lookup (eq y) es) (laws.symm x y)))
      (λ new. rw new refl)

-- there is one entry more at most
pub length-with_key : {K V : Type 0} (eq : K → K → Bool) (x : K) (v : V) (es : List (K × V)) → length (with_key eq x v es) ≤ length es + 1
length-with_key eq x v es =
    split (is_some (lookup (eq x) es)) (λ held. rw held (omega (arith, length-set_value (eq x) es v))) (λ new. rw new (omega arith))

module _ {K V : Type 0} (eq : K → K → Bool) (laws : IsEquivalence eq) (es : List (K × V)) (x : K) (v : V) where
  -- what is found once a key has another value
  pub moved_again : (old : V) → lookup (eq x) es ≡ Some old
      → (y : K) → lookup (eq y) (set_value (eq x) es v) ≡ cond (eq x y) (Some v) (lookup (eq y) es)
  moved_again old found y = lookup-set_value laws (eq x) (λ z w t. laws.congr x z w t) y v es (rw found refl)

  -- or once it came in front
  pub moved_new : (y : K) → lookup (eq y) ((x, v) ∷ es) ≡ cond (eq x y) (Some v) (lookup (eq y) es)
  moved_new y = ap (λ b. cond b (Some v) (lookup (eq y) es)) (laws.symm y x)
