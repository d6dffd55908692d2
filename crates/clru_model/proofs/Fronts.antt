-- Pairs that come first: by a look-up, and by a put before those behind it.
use Rattle.std.proofs.Common.{◌≡◌, suc, ◌-◌, ◌≤◌, ℕ, Bool, true, List, [], ◌∷◌, ◌++◌, length, Some, is_some, slice_get, sym, ap, ◌∙◌, arith, take_all}
use Rattle.std.proofs.lemmas.Map.{lookup-none}
use Rattle.std.proofs.lemmas.Map.Entries.{none_past_head}
use Rattle.std.proofs.lemmas.Map.Keys.{IsDistinct-tail}
use Rattle.std.specs.Cmp.{IsEquivalence}
use Rattle.std.specs.List.{IsDistinct}
use Rattle.std.specs.Map.{keys_of, lookup}
use Rattle.clru_model.specs.Entries.{plain_put, touch}
use Rattle.clru_model.proofs.Finding.{held, missed, plain_put-missed, touch-held}

-- the pair that a look-up of x brings to the front has the same key
pub first_key : {X K V : Type 0} (eq : X → K → Bool) (x : X) (es : List (K × V)) → is_some (lookup (eq x) es) ≡ true
    → {e : K × V} → slice_get (touch eq x es) 0 ≡ Some e → eq x e.0 ≡ true
first_key eq x es found {e} first =
    let h = held (eq x) (sym found) in
    let one : Some h.entry ≡ Some e = sym (ap (λ l. slice_get l 0) (touch-held eq x h)) ∙ first in
    let same : h.entry ≡ e = cc in
    sym (ap (λ d. eq x d.0) same) ∙ h.passes

module _ {K V : Type 0} {eq : K → K → Bool} (laws : IsEquivalence eq) where
  behind : (front es : List (K × V)) → IsDistinct eq (keys_of (front ++ es)) → IsDistinct eq (keys_of es)
  behind [] es h = h
  behind (e ∷ front) es h = behind front es (IsDistinct-tail eq e.0 (keys_of (front ++ es)) h)

  -- a put of a pair of a list without equal keys puts it before those behind it
  pub plain_put-before : (front back : List (K × V)) (e : K × V) (c : ℕ) → IsDistinct eq (keys_of (front ++ e ∷ back))
      → suc (length back) ≤ c → plain_put eq c e.0 e.1 back ≡ e ∷ back
  plain_put-before front back e c distinct fits =
      let none = lookup-none (eq e.0) back (none_past_head laws e.0 e back (behind front (e ∷ back) distinct) (laws.refl e.0)) in
      plain_put-missed eq e.0 (missed (eq e.0) (sym (ap is_some none))) c e.1 ∙ ap (λ l. e ∷ l) (take_all (c - 1) back (omega arith))
