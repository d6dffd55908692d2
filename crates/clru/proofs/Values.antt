-- At weight zero, other values keep what a cache's fields keep.
use Rattle.std.proofs.Common.{◌≡◌, ℕ, zero, suc, Bool, List, [], ◌∷◌, length, refl, sym, ap, arith, subst}
use Rattle.std.proofs.lemmas.Map.Entries.{length-keys_of}
use Rattle.std.specs.List.{IsDistinct}
use Rattle.std.specs.Map.{keys_of}
use Rattle.std.specs.Map.Calls.{RetainsPairs}
use Rattle.clru_model.proofs.Retaining.{keys_retained}
use Rattle.clru_model.proofs.Sublists.{length-sublist, IsDistinct-sublist}
use Rattle.clru_model.proofs.Weights.{weight_of-zero}
use Rattle.clru_model.specs.Entries.{with_value_at}
use Rattle.clru_linked_map.specs.LinkedMap.{LinkedMap, with_entries}
use Rattle.clru.specs.Fields.{IsKept, IsCache}
use Rattle.clru.proofs.Keeping.{IsCache-plain}

module _ {K V : Type 0} {eq : K → K → Bool} where
  -- at weight zero other values keep what a cache's fields keep
  IsKept-values : {es fs : List (K × V)} {c : ℕ} → IsKept eq (λ k v. 0) es c → keys_of fs ≡ keys_of es → IsKept eq (λ k v. 0) fs c
  IsKept-values {es} {fs} old same =
      let many : length fs ≡ length es = omega (arith, length-keys_of fs, length-keys_of es, ap length same) in
      record {
        distinct = subst (λ ks. IsDistinct eq ks) (sym same) old.distinct;
        fits = omega (arith, old.fits, weight_of-zero es, weight_of-zero fs, many);
      }

-- another value at an index leaves the keys
pub keys-with_value_at : {K V : Type 0} (i : ℕ) (v : V) (es : List (K × V)) → keys_of (with_value_at i v es) ≡ keys_of es
keys-with_value_at i v [] = refl
keys-with_value_at zero v (e ∷ es) = refl
keys-with_value_at (suc i) v (e ∷ es) = ap (λ l. e.0 ∷ l) (keys-with_value_at i v es)

module _ {K V S : Type 0} {eq : K → K → Bool} {m : LinkedMap K V S} {t : ℕ} where
  -- and the cache whole
  pub IsCache-values : {fs : List (K × V)} → IsCache eq (λ k v. 0) m t → keys_of fs ≡ keys_of m.entries → IsCache eq (λ k v. 0) (with_entries m fs) t
  IsCache-values old same = IsCache-plain old refl (IsKept-values old.kept same)

  -- with another value at an index
  pub IsCache-at : (i : ℕ) (v : V) → IsCache eq (λ k v. 0) m t → IsCache eq (λ k v. 0) (with_entries m (with_value_at i v m.entries)) t
  IsCache-at i v old = IsCache-values old (keys-with_value_at i v m.entries)

module _ {F K V : Type 0} (step : F → K → V → Bool → V → F → Type 0) where
  -- at weight zero the values may change
  pub IsKept-retained : {eq : K → K → Bool} {es : List (K × V)} {c : ℕ} (f : F) (left : List (K × V)) → IsKept eq (λ k v. 0) es c
      → RetainsPairs step f es left → IsKept eq (λ k v. 0) left c
  IsKept-retained {eq = eq} {es = es} f left old h =
      let s = keys_retained step f es left h in
      record {
        distinct = IsDistinct-sublist eq s old.distinct;
        fits = omega (arith, old.fits, length-sublist s, length-keys_of es, length-keys_of left, weight_of-zero left);
      }
