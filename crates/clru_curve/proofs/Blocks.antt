-- Blocks of bits: their ones from a block on and from a bit on, and their numbers.
use Rattle.std.proofs.Common.{◌≡◌, ℕ, zero, suc, ◌+◌, ◌*◌, ◌-◌, ◌/◌, ◌^◌, ◌<◌, ◌≤◌, false, List, [], ◌∷◌, ◌++◌, length, set, take, inl, inr, refl, sym, ap, ◌∙◌, arith, div-one}
use Rattle.std.proofs.lemmas.Bool.{cases_lt}
use Rattle.std.proofs.lemmas.Nat.{shr-shr, mod_below, div-add-mod', div-mul-add}
use Rattle.std.specs.List.{filter}
use Rattle.std.specs.Prelude.{count_ones}
use Rattle.clru_model.proofs.Cases.{split}
use Rattle.clru_curve.specs.declared.numbered.Numbered.{Numbered}
use Rattle.clru_curve.specs.Tree.{up_by, up_to, Falls}
use Rattle.clru_curve.proofs.Bits.{ones-zero, ones_upper}
use Rattle.clru_curve.proofs.Nodes.{falls_far}
use Rattle.clru_curve.proofs.UpTo.{up_by-le, up_to-le, up_to-gt}
use Rattle.clru_curve.specs.Latest.{blocks_from, ones_from}
use Rattle.clru_curve.specs.Rising.{numbered, has_value, number_at, value_at, HasNumber, IsRising}
use Rattle.clru_curve.proofs.Rising.{rising_at}

pub blocks_step : (bs : List Numbered) (j : ℕ) → blocks_from bs j ≡ count_ones (value_at bs j) + blocks_from bs (suc j)
blocks_step [] j = omega (arith, ones-zero)
blocks_step (b ∷ bs) zero = refl
blocks_step (b ∷ bs) (suc j) = blocks_step bs j

pub blocks_fall : (bs : List Numbered) → Falls (blocks_from bs)
blocks_fall bs j = omega (arith, blocks_step bs j)

-- the first blocks, with one more
pub blocks_from_take : (bs : List Numbered) (i : ℕ) → i < length bs → (j : ℕ)
    → blocks_from (take i bs) j + up_by (count_ones (value_at bs i)) j i ≡ blocks_from (take (suc i) bs) j
blocks_from_take [] i inside j = omega (arith, inside)
blocks_from_take (b ∷ bs) zero inside zero = omega arith
blocks_from_take (b ∷ bs) zero inside (suc j) = omega arith
blocks_from_take (b ∷ bs) (suc i) inside zero = let ih = blocks_from_take bs i (omega (arith, inside)) zero in omega (arith, ih)
blocks_from_take (b ∷ bs) (suc i) inside (suc j) = blocks_from_take bs i (omega (arith, inside)) j

-- the first blocks count no more than all
take_few : (bs : List Numbered) (i : ℕ) → blocks_from (take i bs) 0 ≤ blocks_from bs 0
take_few [] zero = omega arith
take_few [] (suc i) = omega arith
take_few (b ∷ bs) zero = omega arith
take_few (b ∷ bs) (suc i) = omega (arith, take_few bs i)

pub take_fits : (bs : List Numbered) (i : ℕ) → i < length bs → (j : ℕ) → blocks_from (take i bs) j + count_ones (value_at bs i) ≤ blocks_from bs 0
take_fits bs i inside j = omega (
  arith,
  falls_far (blocks_from (take i bs)) (blocks_fall (take i bs)) 0 j (omega arith),
  blocks_from_take bs i inside 0,
  up_by-le (count_ones (value_at bs i)) 0 i (omega arith),
  take_few bs (suc i),
)

-- a block without bits counts nothing
no_ones : (k : ℕ) → count_ones (0 / 2 ^ k) ≡ 0
no_ones k = omega (arith, ones_upper 0 k, ones-zero)

pub blocks_from_push : (bs : List Numbered) (m j : ℕ) → blocks_from (bs ++ numbered m 0 ∷ []) j ≡ blocks_from bs j
blocks_from_push [] m zero = omega (arith, ones-zero)
blocks_from_push [] m (suc j) = refl
blocks_from_push (b ∷ bs) m zero = ap (λ n. count_ones b.value + n) (blocks_from_push bs m zero)
blocks_from_push (b ∷ bs) m (suc j) = blocks_from_push bs m j

pub ones_from_push : (bs : List Numbered) (m p : ℕ) → ones_from (bs ++ numbered m 0 ∷ []) p ≡ ones_from bs p
ones_from_push [] m p = omega (arith, no_ones (p - 64 * m))
ones_from_push (b ∷ bs) m p = ap (λ n. count_ones (b.value / 2 ^ (p - 64 * b.number)) + n) (ones_from_push bs m p)

-- there are no more ones from a bit on than in all
pub ones_few : (bs : List Numbered) (p : ℕ) → ones_from bs p ≤ blocks_from bs 0
ones_few [] p = omega arith
ones_few (b ∷ bs) p = omega (arith, ones_upper b.value (p - 64 * b.number), ones_few bs p)

bare : (b : Numbered) → has_value b ≡ false → b.value ≡ 0
bare b none = grind arith

-- blocks without bits are dropped
pub ones_from_filter : (bs : List Numbered) (p : ℕ) → ones_from (filter has_value bs) p ≡ ones_from bs p
ones_from_filter [] p = refl
ones_from_filter (b ∷ bs) p = split (has_value b)
    (λ t. rw t (ap (λ n. count_ones (b.value / 2 ^ (p - 64 * b.number)) + n) (ones_from_filter bs p)))
    (λ f. let none = ap (λ w. count_ones (w / 2 ^ (p - 64 * b.number))) (bare b f) in
    rw f (omega (arith, ones_from_filter bs p, none, no_ones (p - 64 * b.number))))

pub blocks_from_filter : (bs : List Numbered) → blocks_from (filter has_value bs) 0 ≡ blocks_from bs 0
blocks_from_filter [] = refl
blocks_from_filter (b ∷ bs) = split (has_value b)
    (λ t. rw t (ap (λ n. count_ones b.value + n) (blocks_from_filter bs)))
    (λ f. let none = ap count_ones (bare b f) in rw f (omega (arith, blocks_from_filter bs, none, ones-zero)))

-- no bit of a word is so far up
none_above : (w e : ℕ) → w < 2 ^ 64 → 64 ≤ e → count_ones (w / 2 ^ e) ≡ 0
none_above w e fits far =
    let whole : 64 + (e - 64) ≡ e = omega (arith, far) in
    let gone : w / 2 ^ 64 ≡ 0 = ap (λ m. m / 2 ^ 64) (omega arith) ∙ div-mul-add 0 (2 ^ 64) w fits in
    let same : w / 2 ^ e ≡ 0 / 2 ^ (e - 64) =
    ap (λ k. w / 2 ^ k) (sym whole) ∙ sym (shr-shr w 64 (e - 64)) ∙ ap (λ n. n / 2 ^ (e - 64)) gone in
    ap count_ones same ∙ no_ones (e - 64)

-- blocks that begin at a bit or later count whole
ones_after : (low : ℕ) (bs : List Numbered) (high q : ℕ) → IsRising low bs high → q ≤ 64 * low → ones_from bs q ≡ blocks_from bs 0
ones_after low [] high q is le = refl
ones_after low (b ∷ bs) high q is le =
    let at : q - 64 * b.number ≡ 0 = omega (arith, le, is.0) in
    let one : count_ones (b.value / 2 ^ (q - 64 * b.number)) ≡ count_ones b.value = ap (λ k. count_ones (b.value / 2 ^ k)) at ∙ ap count_ones (div-one b.value) in
    omega (arith, one, ones_after (suc b.number) bs high q is.1 (omega (arith, le, is.0)))

-- the ones from a bit of the i-th block on
pub ones_in : (low : ℕ) (bs : List Numbered) (high i k : ℕ) → IsRising low bs high → ((j : ℕ) → value_at bs j < 2 ^ 64) → i < length bs → k ≤ 64
    → ones_from bs (64 * number_at bs i + k) ≡ count_ones (value_at bs i / 2 ^ k) + blocks_from bs (suc i)
ones_in low [] high i k is fits inside short = omega (arith, inside)
ones_in low (b ∷ bs) high zero k is fits inside short =
    let at : 64 * b.number + k - 64 * b.number ≡ k = omega arith in
    let one = ap (λ e. count_ones (b.value / 2 ^ e)) at in
    let rest = ones_after (suc b.number) bs high (64 * b.number + k) is.1 (omega (arith, short)) in
    omega (arith, one, rest)
ones_in low (b ∷ bs) high (suc i) k is fits inside short =
    let later = rising_at (suc b.number) bs high i is.1 (omega (arith, inside)) in
    let none = none_above b.value (64 * number_at bs i + k - 64 * b.number) (fits zero) (omega (arith, later)) in
    let rest = ones_in (suc b.number) bs high i k is.1 (λ j. fits (suc j)) (omega (arith, inside)) short in
    omega (arith, none, rest)

-- a bit that is set has a block
pub has_block : (bs : List Numbered) (p : ℕ) → ((j : ℕ) → value_at bs j < 2 ^ 64) → ones_from bs p ≡ suc (ones_from bs (suc p)) → HasNumber bs (p / 64)
has_block [] p fits is_set = absurd (omega (arith, is_set))
has_block (b ∷ bs) p fits is_set =
    let whole = div-add-mod' p 64 in let low = mod_below p 64 (omega arith) in
    let later : ones_from bs p ≡ suc (ones_from bs (suc p)) → HasNumber (b ∷ bs) (p / 64) =
    λ rest. let there = has_block bs p (λ j. fits (suc j)) rest in (suc there.0, omega (arith, there.1), there.2) in
    elim (cases_lt b.number (p / 64)) [
      | inl lt ↦
          later (omega (
            arith,
            is_set,
            none_above b.value (p - 64 * b.number) (fits zero) (omega (arith, whole, lt)),
            none_above b.value (suc p - 64 * b.number) (fits zero) (omega (arith, whole, lt)),
          ))
      | inr ge ↦ elim (cases_lt (p / 64) b.number) [
        | inl gt ↦
            let here : p - 64 * b.number ≡ suc p - 64 * b.number = omega (arith, whole, low, gt) in
            later (omega (arith, is_set, ap (λ e. count_ones (b.value / 2 ^ e)) here))
        | inr le ↦ (0, omega arith, omega (arith, ge, le))
      ]
    ]

-- a bit more in one block
pub record Sets (bs cs : List Numbered) (i p : ℕ) : Type 0 where
  pub blocks : (j : ℕ) → blocks_from cs j ≡ blocks_from bs j + up_to j i
  pub ones : (q : ℕ) → ones_from cs q ≡ ones_from bs q + up_to q p

up_to_shift : (q m b : ℕ) → up_to (q - 64 * m) b ≡ up_to q (64 * m + b)
up_to_shift q m b = elim (cases_lt b (q - 64 * m)) [
  | inl gt ↦ omega (arith, up_to-gt (q - 64 * m) b gt, up_to-gt q (64 * m + b) (omega (arith, gt)))
  | inr le ↦ omega (arith, up_to-le (q - 64 * m) b le, up_to-le q (64 * m + b) (omega (arith, le)))
]

module _ (m x y b : ℕ) (more : (j : ℕ) → count_ones (y / 2 ^ j) ≡ count_ones (x / 2 ^ j) + up_to j b) where
  one_more : count_ones y ≡ suc (count_ones x)
  one_more = let m = more 0 in omega (arith, m, ap count_ones (div-one y), ap count_ones (div-one x))

  sets_blocks : (bs : List Numbered) (i : ℕ) → i < length bs → (j : ℕ)
      → blocks_from (set bs i (numbered m y)) j ≡ blocks_from (set bs i (numbered m x)) j + up_to j i
  sets_blocks [] i inside j = omega (arith, inside)
  sets_blocks (b ∷ bs) zero inside zero = omega (arith, one_more)
  sets_blocks (b ∷ bs) zero inside (suc j) = omega arith
  sets_blocks (b ∷ bs) (suc i) inside zero = let ih = sets_blocks bs i (omega (arith, inside)) zero in omega (arith, ih)
  sets_blocks (b ∷ bs) (suc i) inside (suc j) = sets_blocks bs i (omega (arith, inside)) j

  sets_ones : (bs : List Numbered) (i : ℕ) → i < length bs → (q : ℕ)
      → ones_from (set bs i (numbered m y)) q ≡ ones_from (set bs i (numbered m x)) q + up_to q (64 * m + b)
  sets_ones [] i inside q = omega (arith, inside)
  sets_ones (c ∷ bs) zero inside q = let here = more (q - 64 * m) in omega (arith, here, up_to_shift q m b)
  sets_ones (c ∷ bs) (suc i) inside q = let ih = sets_ones bs i (omega (arith, inside)) q in omega (arith, ih)

  pub sets : (bs : List Numbered) (i : ℕ) → i < length bs → Sets (set bs i (numbered m x)) (set bs i (numbered m y)) i (64 * m + b)
  sets bs i inside = record { blocks = sets_blocks bs i inside; ones = sets_ones bs i inside }
