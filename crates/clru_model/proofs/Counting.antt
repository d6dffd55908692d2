-- How many positions have a property.
use Rattle.std.proofs.Common.{◌≡◌, ℕ, zero, suc, ◌<◌, ◌≤◌, true, false, ◌⊎◌, ◌↔◌, List, [], ◌∷◌, length, inl, inr}
use Rattle.std.proofs.Common.{refl, sym, ap, ◌∙◌, subst, arith, get_or}
use Rattle.std.proofs.lemmas.Bool.{eqb-true, eq-eqb}
use Rattle.std.proofs.lemmas.Bool.Decides.{nat_tests}
use Rattle.std.proofs.lemmas.Cmp.{nat_eq_equiv}
use Rattle.std.proofs.lemmas.List.Elements.{recursion_from_All, Contains-get_or, Contains-append_cases, Contains-append_right}
use Rattle.std.proofs.lemmas.Map.Keys.{IsDistinct-cons, any_passes_from_place}
use Rattle.std.proofs.lemmas.Option.{slice_get-get_or, get_or_from_slice_get, slice_get_within}
use Rattle.std.specs.Prelude.{nat_eq}
use Rattle.std.specs.List.{AllByRecursion, Contains, IsDistinct}
use Rattle.clru_model.specs.Requests.{holds, distinct}
use Rattle.clru_model.proofs.Distinct.{distinct-le-length}
use Rattle.clru_model.proofs.Distinct.{distinct_mono}
use Rattle.clru_model.specs.ByPosition.{IsCountOf}
use Rattle.clru_model.proofs.Positions.{HasKey_from_holds}

-- no position
pub count_none : (P : ℕ → Type 0) → ((p : ℕ) → P p → ⊥) → IsCountOf P 0
unfolding IsDistinct
count_none P none = record { positions = []; many = refl; different = tt; each = λ p. (λ c. absurd (omega (arith, c.1)), λ h. absurd (none p h)) }

-- the same positions
pub count_same : {P Q : ℕ → Type 0} {n : ℕ} → IsCountOf P n → ((p : ℕ) → P p → Q p) → ((p : ℕ) → Q p → P p) → IsCountOf Q n
count_same c there back = record {
  positions = c.positions;
  many = c.many;
  different = c.different;
  each = λ p. (λ h. there p ((c.each p).0 h), λ h. (c.each p).1 (back p h));
}

Contains-one : (n p : ℕ) → Contains (n ∷ []) p → n ≡ p
Contains-one n p (zero, within, same) = same
Contains-one n p (suc k, within, same) = absurd (omega arith)

-- positions that are pairwise different, those that have the property and no others
pub record AreAll (P : ℕ → Type 0) (positions : List ℕ) : Type 0 where
  pub different : IsDistinct nat_eq positions
  pub each : (p : ℕ) → Contains positions p ↔ P p

-- one more position, past the others
pub all_next : {P Q : ℕ → Type 0} {positions : List ℕ} (n : ℕ) → AreAll P positions → ((p : ℕ) → P p → p < n) → ((p : ℕ) → P p → Q p) → Q n
    → ((p : ℕ) → Q p → P p ⊎ (p ≡ n)) → AreAll Q (n ∷ positions)
all_next {P} {Q} {positions} n c below there last cases = record {
  different = IsDistinct-cons nat_eq n positions (recursion_from_All (λ y. nat_eq n y ≡ false) positions (λ k d within.
      let less : get_or positions k d < n = below (get_or positions k d) ((c.each (get_or positions k d)).0 (Contains-get_or positions k d within)) in
      grind (arith, nat_tests))) c.different;
  each = λ p. (
    λ h. elim (Contains-append_cases (n ∷ []) positions p h) [
      | inl first ↦ subst Q (Contains-one n p first) last
      | inr later ↦ there p ((c.each p).0 later)
    ],
    λ h. elim (cases p h) [
      | inl old ↦ Contains-append_right (n ∷ []) positions p ((c.each p).1 old)
      | inr new ↦ (0, omega arith, sym new)
    ],
  );
}

-- so one more of them
pub count_next : {P Q : ℕ → Type 0} {m : ℕ} (n : ℕ) → IsCountOf P m → ((p : ℕ) → P p → p < n) → ((p : ℕ) → P p → Q p) → Q n
    → ((p : ℕ) → Q p → P p ⊎ (p ≡ n)) → IsCountOf Q (suc m)
count_next {P} {Q} {m} n c below there last cases =
    let all : AreAll P c.positions = record { different = c.different; each = c.each } in
    let more = all_next n all below there last cases in
    record { positions = n ∷ c.positions; many = ap suc c.many; different = more.different; each = more.each }

-- numbers that are pairwise different count as many distinct ones
pub distinct_numbers : (xs : List ℕ) → IsDistinct nat_eq xs → distinct nat_eq xs ≡ length xs
unfolding IsDistinct
distinct_numbers [] d = refl
distinct_numbers (x ∷ xs) d =
    let new : holds nat_eq x xs ≡ false = apart x xs d.0 in
    let ih = distinct_numbers xs d.1 in rw new (omega (arith, ih))
  where
    apart : (x : ℕ) (xs : List ℕ) → AllByRecursion (λ y. nat_eq x y ≡ false) xs → holds nat_eq x xs ≡ false
    apart x [] all = refl
    apart x (y ∷ ys) all = rw all.0 (apart x ys all.1)

pub holds_from_Contains : (xs : List ℕ) (x : ℕ) → Contains xs x → holds nat_eq x xs ≡ true
holds_from_Contains xs x (k, within, same) =
    any_passes_from_place (nat_eq x) xs k (get_or xs k x) (slice_get-get_or xs k x within) (eq-eqb x (get_or xs k x) (sym same))

pub Contains_from_holds : (xs : List ℕ) (x : ℕ) → holds nat_eq x xs ≡ true → Contains xs x
Contains_from_holds xs x h =
    let (p, y, at, same) = HasKey_from_holds nat_eq xs x h in
    (p, slice_get_within xs p y at, get_or_from_slice_get xs p y x at ∙ sym (eqb-true x y same))

-- of two counts of one property neither is greater
count_le : {P : ℕ → Type 0} {m n : ℕ} → IsCountOf P m → IsCountOf P n → m ≤ n
count_le a b =
    let less = distinct_mono nat_eq nat_eq_equiv a.positions b.positions (λ z h.
    holds_from_Contains b.positions z ((b.each z).1 ((a.each z).0 (Contains_from_holds a.positions z h)))) in
    omega (arith, a.many, b.many, distinct_numbers a.positions a.different, distinct-le-length nat_eq b.positions)

-- a property has one count
pub count_unique : {P : ℕ → Type 0} {m n : ℕ} → IsCountOf P m → IsCountOf P n → m ≡ n
count_unique a b = omega (arith, count_le a b, count_le b a)
