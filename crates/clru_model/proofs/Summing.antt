-- Sums over the positions that have a property.
use Rattle.std.proofs.Common.{◌≡◌, ℕ, ◌+◌, ◌<◌, true, false, ◌⊎◌, List, [], ◌∷◌, length, refl, sym, ap, ◌∙◌, arith}
use Rattle.std.proofs.lemmas.Bool.{eqb-true}
use Rattle.std.proofs.lemmas.Cmp.{nat_eq_equiv}
use Rattle.std.proofs.lemmas.List.Elements.{Contains-append_right}
use Rattle.std.proofs.lemmas.List.Sums.{sum_by-cons}
use Rattle.std.specs.Prelude.{nat_eq}
use Rattle.std.specs.List.{Contains, IsDistinct, sum_by}
use Rattle.clru_model.specs.Requests.{holds}
use Rattle.clru_model.specs.Sizes.{total}
use Rattle.clru_model.specs.SpansByPosition.{IsSumOf}
use Rattle.clru_model.proofs.Distinct.{distinct-le-length}
use Rattle.clru_model.proofs.Cases.{split}
use Rattle.clru_model.proofs.Counting.{AreAll, all_next, distinct_numbers, holds_from_Contains, Contains_from_holds}
use Rattle.clru_model.proofs.Distinct.{distinct_mono}
use Rattle.clru_model.proofs.Distinct.{total_mono}

-- over no position
pub sum_none : (P : ℕ → Type 0) (f : ℕ → ℕ) → ((p : ℕ) → P p → ⊥) → IsSumOf P f 0
unfolding IsDistinct
sum_none P f none = record { positions = []; sum = refl; different = tt; each = λ p. (λ c. absurd (omega (arith, c.1)), λ h. absurd (none p h)) }

sum_by_agree : (f g : ℕ → ℕ) (ps : List ℕ) → ((p : ℕ) → Contains ps p → f p ≡ g p) → sum_by f ps ≡ sum_by g ps
sum_by_agree f g [] agree = refl
sum_by_agree f g (p ∷ ps) agree =
    let rest = sum_by_agree f g ps (λ q h. agree q (Contains-append_right (p ∷ []) ps q h)) in
    let here = agree p (0, omega arith, refl) in
    omega (arith, sum_by-cons f p ps, sum_by-cons g p ps, rest, here)

-- over the same positions
pub sum_same : {P Q : ℕ → Type 0} {f g : ℕ → ℕ} {n : ℕ} → IsSumOf P f n → ((p : ℕ) → P p → Q p) → ((p : ℕ) → Q p → P p)
    → ((p : ℕ) → P p → f p ≡ g p) → IsSumOf Q g n
sum_same {f = f} {g = g} c there back agree = record {
  positions = c.positions;
  sum = sym (sum_by_agree f g c.positions (λ p h. agree p ((c.each p).0 h))) ∙ c.sum;
  different = c.different;
  each = λ p. (λ h. there p ((c.each p).0 h), λ h. (c.each p).1 (back p h));
}

-- over one more position, past the others
pub sum_next : {P Q : ℕ → Type 0} {f g : ℕ → ℕ} {m : ℕ} (n : ℕ) → IsSumOf P f m → ((p : ℕ) → P p → p < n) → ((p : ℕ) → P p → Q p) → Q n
    → ((p : ℕ) → Q p → P p ⊎ (p ≡ n)) → ((p : ℕ) → P p → f p ≡ g p) → IsSumOf Q g (g n + m)
sum_next {P} {Q} {f} {g} {m} n c below there last cases agree =
    let all : AreAll P c.positions = record { different = c.different; each = c.each } in
    let more = all_next n all below there last cases in
    let sum = sum_by_agree f g c.positions (λ p h. agree p ((c.each p).0 h)) in
    record {
      positions = n ∷ c.positions;
      sum = omega (arith, sum_by-cons g n c.positions, sum, c.sum);
      different = more.different;
      each = more.each;
    }

-- the size of numbers that are pairwise different is that of each
total_numbers : (f : ℕ → ℕ) (xs : List ℕ) → IsDistinct nat_eq xs → total nat_eq f xs ≡ length xs + sum_by f xs
unfolding IsDistinct
total_numbers f [] d = refl
total_numbers f (x ∷ xs) d =
    let rest = total_numbers f xs d.1 in
    let all = distinct_numbers (x ∷ xs) d in
    let new : holds nat_eq x xs ≡ false = split (holds nat_eq x xs)
    (λ t. let few = rw t at all in absurd (omega (arith, few, distinct-le-length nat_eq xs)))
    (λ g. g) in
    rw new (omega (arith, sum_by-cons f x xs, rest))

-- of two sums over the same positions neither is greater
within : {P : ℕ → Type 0} {f : ℕ → ℕ} {m n : ℕ} (a : IsSumOf P f m) (b : IsSumOf P f n) (z : ℕ)
    → holds nat_eq z a.positions ≡ true → holds nat_eq z b.positions ≡ true
within a b z h = holds_from_Contains b.positions z ((b.each z).1 ((a.each z).0 (Contains_from_holds a.positions z h)))

-- there is one sum
pub sum_unique : {P : ℕ → Type 0} {f : ℕ → ℕ} {m n : ℕ} → IsSumOf P f m → IsSumOf P f n → m ≡ n
sum_unique {P} {f} {m} {n} a b =
    let same : (x y : ℕ) → nat_eq x y ≡ true → f x ≡ f y = λ x y e. ap f (eqb-true x y e) in
    let there = total_mono nat_eq nat_eq_equiv f same a.positions b.positions (within a b) in
    let back = total_mono nat_eq nat_eq_equiv f same b.positions a.positions (within b a) in
    let more = distinct_mono nat_eq nat_eq_equiv a.positions b.positions (within a b) in
    let fewer = distinct_mono nat_eq nat_eq_equiv b.positions a.positions (within b a) in
    omega (
      arith,
      there,
      back,
      more,
      fewer,
      a.sum,
      b.sum,
      total_numbers f a.positions a.different,
      total_numbers f b.positions b.different,
      distinct_numbers a.positions a.different,
      distinct_numbers b.positions b.different,
    )
