-- What a bit more or less does to the ones of a word, from each bit on.
use Rattle.std.proofs.Common.{◌≡◌, ℕ, suc, ◌+◌, ◌*◌, ◌-◌, ◌/◌, ◌%◌, ◌^◌, ◌<◌, ◌≤◌, inl, inr, sym, ap, ◌∙◌, subst, arith}
use Rattle.std.proofs.lemmas.Bool.{cases_lt}
use Rattle.std.proofs.lemmas.Nat.{pow-add, pow_pos, shr-shr, shr_split, shr_below, mod_below, div-mul-add, ones_cat, ones_le_self, zero_from_ones}
use Rattle.std.specs.Int.Count.{ones-ones}
use Rattle.std.specs.Prelude.{count_ones}
use Rattle.clru_curve.specs.Tree.{up_to}
use Rattle.clru_curve.proofs.UpTo.{up_to-le, up_to-gt}

pub ones-zero : count_ones 0 ≡ 0
ones-zero = omega (arith, ones_le_self 0)

ones-one : count_ones 1 ≡ 1
ones-one = ones-ones 1

-- from a bit of the lower part on, the ones of both parts count
ones_parts : (c b r j d : ℕ) → r < 2 ^ b → b ≡ d + j → count_ones ((c * 2 ^ b + r) / 2 ^ j) ≡ count_ones c + count_ones (r / 2 ^ j)
ones_parts c b r j d low e =
    let power : 2 ^ b ≡ 2 ^ d * 2 ^ j = ap (λ k. 2 ^ k) e ∙ pow-add 2 d j in
    let split = shr_split r j in
    let fits : r < 2 ^ (d + j) = subst (λ k. r < 2 ^ k) e low in
    let whole : c * 2 ^ b + r ≡ (c * 2 ^ d + r / 2 ^ j) * 2 ^ j + r % 2 ^ j = ap (λ p. c * p + r) power ∙ omega (arith, split) in
    ap (λ n. count_ones (n / 2 ^ j)) whole
    ∙ ap count_ones (div-mul-add (c * 2 ^ d + r / 2 ^ j) (2 ^ j) (r % 2 ^ j) (mod_below r (2 ^ j) (pow_pos j)))
    ∙ ones_cat d c (r / 2 ^ j) (shr_below r d j fits)

-- from a bit of the upper part on, the lower one does not count
shr_parts : (c b r d : ℕ) → r < 2 ^ b → (c * 2 ^ b + r) / 2 ^ (b + suc d) ≡ c / 2 / 2 ^ d
shr_parts c b r d low =
    sym (shr-shr (c * 2 ^ b + r) b (suc d)) ∙ ap (λ n. n / 2 ^ suc d) (div-mul-add c (2 ^ b) r low)
    ∙ ap (λ k. c / 2 ^ k) (omega arith) ∙ sym (shr-shr c 1 d)

-- with bit b set there is a one more from each bit up to b on
ones_more : (a b r j : ℕ) → r < 2 ^ b
    → count_ones (((2 * a + 1) * 2 ^ b + r) / 2 ^ j) ≡ count_ones ((2 * a * 2 ^ b + r) / 2 ^ j) + up_to j b
ones_more a b r j low = elim (cases_lt b j) [
  | inl above ↦
      let d = j - suc b in let e : b + suc d ≡ j = omega arith in
      let odd : (2 * a + 1) / 2 ≡ a = ap (λ n. n / 2) (omega arith) ∙ div-mul-add a 2 1 (omega arith) in
      let even : 2 * a / 2 ≡ a = ap (λ n. n / 2) (omega arith) ∙ div-mul-add a 2 0 (omega arith) in
      let upper : ((2 * a + 1) * 2 ^ b + r) / 2 ^ j ≡ a / 2 ^ d = ap (λ k. ((2 * a + 1) * 2 ^ b + r) / 2 ^ k) (sym e) ∙ shr_parts (2 * a + 1) b r d low ∙ ap (λ n. n / 2 ^ d) odd in
      let lower : (2 * a * 2 ^ b + r) / 2 ^ j ≡ a / 2 ^ d = ap (λ k. (2 * a * 2 ^ b + r) / 2 ^ k) (sym e) ∙ shr_parts (2 * a) b r d low ∙ ap (λ n. n / 2 ^ d) even in
      omega (arith, ap count_ones upper, ap count_ones lower, up_to-gt j b above)
  | inr within ↦
      let d = b - j in let e : b ≡ d + j = omega arith in
      let odd : count_ones (2 * a + 1) ≡ count_ones a + count_ones 1 = ap count_ones (omega arith) ∙ ones_cat 1 a 1 (omega arith) in
      let even : count_ones (2 * a) ≡ count_ones a + count_ones 0 = ap count_ones (omega arith) ∙ ones_cat 1 a 0 (omega arith) in
      omega (arith, ones_parts (2 * a + 1) b r j d low e, ones_parts (2 * a) b r j d low e, odd, even, ones-zero, ones-one, up_to-le j b within)
]

-- a word below 2 ^ b gets bit b
pub ones_set : (w b : ℕ) → w < 2 ^ b → (j : ℕ) → count_ones ((w + 2 ^ b) / 2 ^ j) ≡ count_ones (w / 2 ^ j) + up_to j b
ones_set w b low j =
    ap (λ n. count_ones (n / 2 ^ j)) (omega arith) ∙ ones_more 0 b w j low ∙ ap (λ n. count_ones (n / 2 ^ j) + up_to j b) (omega arith)

-- a word that has bit b loses it
pub record Loses (w b : ℕ) : Type 0 where
  pub fits : 2 ^ b ≤ w
  pub fewer : (j : ℕ) → count_ones (w / 2 ^ j) ≡ count_ones ((w - 2 ^ b) / 2 ^ j) + up_to j b

pub ones_loses : (w b : ℕ) → count_ones (w / 2 ^ b) ≡ suc (count_ones (w / 2 ^ b / 2)) → Loses w b
ones_loses w b set =
    let m = w / 2 ^ b in let a = m / 2 in let r = w % 2 ^ b in
    let low = mod_below w (2 ^ b) (pow_pos b) in
    let halves = shr_split m 1 in let rest = mod_below m 2 (omega arith) in
    let odd : m % 2 ≡ 1 = elim (cases_lt (m % 2) 1) [
      | inl l ↦
          let e : a * 2 ^ 1 + 0 ≡ m = omega (arith, halves) in
          let same : count_ones m ≡ count_ones a + count_ones 0 = ap count_ones (sym e) ∙ ones_cat 1 a 0 (omega arith) in
          omega (arith, same, set, ones-zero)
      | inr l ↦ omega arith
    ] in
    let whole : w ≡ (2 * a + 1) * 2 ^ b + r =
    sym (shr_split w b) ∙ ap (λ n. n * 2 ^ b + r) (omega (arith, halves, odd)) in
    let less : w - 2 ^ b ≡ 2 * a * 2 ^ b + r = omega (arith, whole) in
    record {
      fits = omega (arith, whole);
      fewer = λ j. ap (λ n. count_ones (n / 2 ^ j)) whole ∙ ones_more a b r j low ∙ ap (λ n. count_ones (n / 2 ^ j) + up_to j b) (sym less);
    }

-- a word with no one from bit b on is below 2 ^ b
pub no_ones_below : (w b : ℕ) → count_ones (w / 2 ^ b) ≡ 0 → w < 2 ^ b
no_ones_below w b none =
    let zero = zero_from_ones (w / 2 ^ b) none in
    let whole = ap (λ n. n * 2 ^ b + w % 2 ^ b) zero in
    omega (arith, shr_split w b, whole, mod_below w (2 ^ b) (pow_pos b))

-- no more ones from a bit on than in the whole word
pub ones_upper : (w b : ℕ) → count_ones (w / 2 ^ b) ≤ count_ones w
ones_upper w b =
    let whole : count_ones w ≡ count_ones (w / 2 ^ b) + count_ones (w % 2 ^ b) =
    ap count_ones (sym (shr_split w b)) ∙ ones_cat b (w / 2 ^ b) (w % 2 ^ b) (mod_below w (2 ^ b) (pow_pos b)) in
    omega (arith, whole)
