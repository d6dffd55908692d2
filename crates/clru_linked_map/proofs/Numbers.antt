-- The bits of the numbers of buckets and links: the place, the tag, and that the place is linked on.
use Rattle.std.proofs.Common.{◌≡◌, ℕ, suc, ◌+◌, ◌-◌, ◌*◌, ◌/◌, ◌%◌, ◌^◌, ◌<◌, ◌≤◌, bit_and, bit_or, sym, ap, ◌∙◌, arith, inl, inr}
use Rattle.std.proofs.lemmas.Bool.{cases_lt, ne_eqb}
use Rattle.std.proofs.lemmas.Nat.{and_le_r, and_comm, and_assoc, and_mask, and_or_apart, or_comm, or_lt, le_or_r, pow_below, pow_pos}
use Rattle.std.proofs.lemmas.Nat.Bits.{and_pow, bit_at_and, bit_at_ones_above, bit_at_mask_below, bit_at_above, bit_at-zero, same_from_bits}
use native.Mathlib.Nat.{mod-eq_of_lt}
use Rattle.std.specs.Int.{IsPowerOfTwo}
use Rattle.clru_linked_map.specs.BucketList.{place_numbered, IsShaped}

-- the number of a place is one more
pub numbered : (p : ℕ) → place_numbered (p + 1) ≡ p
numbered p = rw (ne_eqb (p + 1) 0 (λ e. omega (arith, e))) (omega arith)

-- a power of two of 64 bits has one bit at most
pub power_within : (n : ℕ) → IsPowerOfTwo n → n < 2 ^ 64 → n ≤ 2 ^ 63
power_within n (k, is) below = elim (cases_lt 63 k) [
  | inl more ↦ elim (cases_lt 64 k) [
    | inl past ↦ absurd (omega (arith, pow_below 64 k past, is))
    | inr within ↦ let at : k ≡ 64 = omega (arith, more, within) in absurd (omega (arith, is, ap (λ j. 2 ^ j) at))
  ]
  | inr within ↦ elim (cases_lt k 63) [
    | inl less ↦ omega (arith, pow_below k 63 less, is)
    | inr least ↦ let at : k ≡ 63 = omega (arith, within, least) in omega (arith, is, ap (λ j. 2 ^ j) at)
  ]
]

-- the bits between a power of two and another
pub shaped_from : (size tags j : ℕ) → IsPowerOfTwo size → tags + size ≡ 2 ^ j → IsShaped (size - 1) tags
shaped_from size tags j (k, is) sum = elim (cases_lt j k) [
  | inl more ↦ absurd (omega (arith, pow_below j k more, is, sum))
  | inr within ↦
      let same : j - k + k ≡ j = omega (arith, within) in
      record {
        low = k;
        high = j - k;
        masked = omega (arith, pow_pos k, is);
        tagged = let all : size - 1 + tags + 1 ≡ 2 ^ j = omega (arith, pow_pos k, is, sum) in all ∙ ap (λ i. 2 ^ i) (sym same);
      }
]

and_zero : (n : ℕ) → bit_and n 0 ≡ 0
and_zero n = omega (arith, and_le_r n 0)

and_itself : (n : ℕ) → bit_and n n ≡ n
and_itself n = same_from_bits (bit_and n n) n (λ i. omega (arith, bit_at_and n n i))

-- a number below a power of two shares no bit with it
power_apart : (n j : ℕ) → n < 2 ^ j → bit_and (2 ^ j) n ≡ 0
power_apart n j below =
    and_comm (2 ^ j) n ∙ and_pow n j ∙ ap (λ b. b * 2 ^ j) (bit_at_above n j j below (omega arith)) ∙ omega arith

-- and a mask leaves it
mask_leaves : (n j : ℕ) → n < 2 ^ j → bit_and (2 ^ j - 1) n ≡ n
mask_leaves n j below = and_comm (2 ^ j - 1) n ∙ and_mask n j ∙ mod-eq_of_lt below

module _ (mask tags : ℕ) (s : IsShaped mask tags) where
  tags_are : tags ≡ 2 ^ (s.high + s.low) - 2 ^ s.low
  tags_are = omega (arith, s.masked, s.tagged)

  mask_is : mask ≡ 2 ^ s.low - 1
  mask_is = omega (arith, s.masked)

  more_is : mask + tags + 1 ≡ 2 ^ (s.high + s.low)
  more_is = s.tagged

  low_is : mask + tags ≡ 2 ^ (s.high + s.low) - 1
  low_is = omega (arith, s.tagged)

  apart : bit_and tags mask ≡ 0
  apart = same_from_bits (bit_and tags mask) 0 (λ i. elim (cases_lt i s.low) [
    | inl below ↦
        let e = ap (λ n. n / 2 ^ i % 2) tags_are ∙ bit_at_mask_below s.low (s.high + s.low) i below in
        omega (arith, bit_at_and tags mask i, e, bit_at-zero i)
    | inr above ↦
        let e = ap (λ n. n / 2 ^ i % 2) mask_is ∙ bit_at_ones_above s.low i above in
        omega (arith, bit_at_and tags mask i, e, bit_at-zero i)
  ])

  more_apart : (n : ℕ) → n ≤ mask + tags → bit_and (mask + tags + 1) n ≡ 0
  more_apart n low = ap (λ m. bit_and m n) more_is ∙ power_apart n (s.high + s.low) (omega (arith, low, more_is))

  low_leaves : (n : ℕ) → n ≤ mask + tags → bit_and (mask + tags) n ≡ n
  low_leaves n low = ap (λ m. bit_and m n) low_is ∙ mask_leaves n (s.high + s.low) (omega (arith, low, more_is))

  place_leaves : (n : ℕ) → n ≤ mask → bit_and n mask ≡ n
  place_leaves n within = ap (λ m. bit_and n m) mask_is ∙ and_comm n (2 ^ s.low - 1) ∙ mask_leaves n s.low (omega (arith, within, s.masked))

  -- a place and one, and the tag of a hash
  module _ (n hash : ℕ) (within : n ≤ mask) where
    pub made_place : bit_and (bit_or n (bit_and hash tags)) mask ≡ n
    made_place =
        and_or_apart mask n (bit_and hash tags) (and_assoc mask hash tags ∙ ap (λ x. bit_and hash x) apart ∙ and_zero hash) ∙ place_leaves n within

    pub made_tag : bit_and (bit_or n (bit_and hash tags)) tags ≡ bit_and hash tags
    made_tag =
        let small : bit_and n tags ≡ 0 =
        ap (λ x. bit_and x tags) (sym (place_leaves n within)) ∙ and_assoc tags n mask ∙ ap (λ x. bit_and n x) (and_comm mask tags ∙ apart) ∙ and_zero n in
        ap (λ x. bit_and x tags) (or_comm n (bit_and hash tags)) ∙ and_or_apart tags (bit_and hash tags) n small
        ∙ and_assoc tags hash tags ∙ ap (λ x. bit_and hash x) (and_itself tags)

    pub made_low : bit_or n (bit_and hash tags) ≤ mask + tags
    made_low =
        let below = or_lt (s.high + s.low) n (bit_and hash tags) (omega (arith, within, more_is)) (omega (arith, and_le_r hash tags, more_is)) in
        omega (arith, below, more_is)

  -- a number that is said to lead on
  module _ (n : ℕ) where
    pub led_place : bit_and (bit_or n (mask + tags + 1)) mask ≡ bit_and n mask
    led_place = and_or_apart mask n (mask + tags + 1) (more_apart mask (omega arith))

    pub led_tag : bit_and (bit_or n (mask + tags + 1)) tags ≡ bit_and n tags
    led_tag = and_or_apart tags n (mask + tags + 1) (more_apart tags (omega arith))

    pub led_more : mask + tags < bit_or n (mask + tags + 1)
    led_more = omega (arith, le_or_r n (mask + tags + 1))

    pub led_fits : n < (mask + tags + 1) * 2 → bit_or n (mask + tags + 1) < (mask + tags + 1) * 2
    led_fits fits =
        let j = suc (s.high + s.low) in
        let twice : 2 ^ j ≡ 2 ^ (s.high + s.low) * 2 = omega arith in
        let below = or_lt j n (mask + tags + 1) (omega (arith, fits, more_is, twice)) (omega (arith, more_is, twice, pow_pos (s.high + s.low))) in
        omega (arith, below, more_is, twice)

    -- and one that is said not to
    pub ended_place : bit_and (bit_and n (mask + tags)) mask ≡ bit_and n mask
    ended_place = and_assoc mask n (mask + tags) ∙ ap (λ x. bit_and n x) (low_leaves mask (omega arith))

    pub ended_tag : bit_and (bit_and n (mask + tags)) tags ≡ bit_and n tags
    ended_tag = and_assoc tags n (mask + tags) ∙ ap (λ x. bit_and n x) (low_leaves tags (omega arith))
