-- What a request more and a bit less keep of the blocks and the nodes.
use Rattle.std.proofs.Common.{◌≡◌, ℕ, zero, suc, ◌+◌, ◌*◌, ◌-◌, ◌/◌, ◌%◌, ◌^◌, ◌<◌, ◌≤◌, List, [], ◌∷◌, ◌++◌, length, get_or, set, take, drop, inl, inr, refl, sym, ap, ◌∙◌, subst, arith, length-set}
use Rattle.std.proofs.lemmas.Bool.{cases_lt}
use Rattle.std.proofs.lemmas.Nat.{zero_from_ones, one_shl, pow_below, mod_below, div-add-mod', shr-shr}
use Rattle.std.proofs.lemmas.List.{get_or_read, length_push, take-append-le, take_all}
use Rattle.std.specs.List.{filter}
use Rattle.std.specs.Prelude.{count_ones}
use Rattle.clru_curve.specs.declared.numbered.Numbered.{Numbered}
use Rattle.clru_curve.specs.Latest.{blocks_from, ones_from, IsLatest}
use Rattle.clru_curve.specs.Rising.{numbered, has_value, number_at, value_at, EndsAt, IsRising}
use Rattle.clru_curve.specs.Tree.{up_to, IsCounted}
use Rattle.clru_curve.proofs.Bits.{ones-zero, ones_set, Loses, ones_loses, no_ones_below}
use Rattle.clru_curve.proofs.Blocks.{Sets, sets, blocks_fall, blocks_from_push, ones_from_push, ones_few, ones_in, ones_from_filter, blocks_from_filter}
use Rattle.clru_curve.proofs.Rising.{fits_filter, rising_filter, rising_push, rising_below, rising_set, rising_to, rising_length, set_fits, set_same, number_set}
use Rattle.clru_curve.proofs.Counted.{IsCounted-same, IsCounted-push}
use Rattle.clru_curve.proofs.Nodes.{falls_far}
use Rattle.clru_curve.proofs.UpTo.{up_to-le, up_to-gt}

-- a slice written back
pub written_back : {X : Type 0} (xs ys : List X) (n : ℕ) → length xs ≡ n → take n (xs ++ drop (length xs) ys) ≡ xs
written_back xs ys n e = take-append-le n xs (drop (length xs) ys) (omega (arith, e)) ∙ take_all n xs (omega (arith, e))

-- a block that is read
pub block_read : (bs : List Numbered) (i j : ℕ) (b : Numbered) → j ≡ i → i < length bs → b ≡ get_or bs j b → b ≡ numbered (number_at bs i) (value_at bs i)
block_read bs i j b same inside is = get_or_read bs i b inside (is ∙ ap (λ k. get_or bs k b) same) (numbered 0 0)

-- without requests
pub IsLatest-none : IsLatest [] [] 0
IsLatest-none = record {
  counted = record { node = λ j some within. omega (arith, within); none = λ j far. refl };
  same_length = refl;
  rising = omega arith;
  current = λ some. absurd (omega (arith, some));
  none = refl;
  few = omega arith;
  fits = λ i. omega arith;
}

power_low : (b : ℕ) → b < 64 → 2 ^ b ≤ 2 ^ 63
power_low b low = elim (cases_lt b 63) [
  | inl lt ↦ omega (arith, pow_below b 63 lt)
  | inr ge ↦ let e : b ≡ 63 = omega arith in omega (arith, ap (λ k. 2 ^ k) e)
]

module _ (bs : List Numbered) (nodes : List ℕ) (n : ℕ) (kept : IsLatest bs nodes n) where
  -- there are few nodes
  pub short : n < 2 ^ 64 → length nodes < 2 ^ 63
  short low = omega (arith, kept.same_length, rising_length 0 bs (suc (n / 64)) kept.rising, div-add-mod' n 64)

  -- a count of blocks does not pass the number of requests
  pub few_from : (j : ℕ) → blocks_from bs j ≤ n
  few_from j = omega (arith, falls_far (blocks_from bs) (blocks_fall bs) 0 j (omega arith), kept.few)

  -- nor does a count of bits
  pub latest_few : (p : ℕ) → ones_from bs p ≤ n
  latest_few p = omega (arith, ones_few bs p, kept.few)

  -- no block is begun
  pub is_whole : (EndsAt bs (n / 64) → ⊥) → n % 64 ≡ 0
  is_whole not_last = elim (cases_lt 0 (n % 64)) [
    | inl some ↦ absurd (not_last (kept.current some))
    | inr none ↦ omega arith
  ]

  -- one more block, without bits
  pub IsLatest-block : (m : ℕ) → m ≡ n / 64 → n % 64 ≡ 0 → IsRising 0 bs (n / 64) → IsLatest (bs ++ numbered m 0 ∷ []) (nodes ++ 0 ∷ []) n
  IsLatest-block m at whole below = record {
    counted = IsCounted-same _ _ (nodes ++ 0 ∷ []) (λ j. sym (blocks_from_push bs m j)) (IsCounted-push (blocks_from bs) nodes kept.counted);
    same_length = omega (arith, length_push bs (numbered m 0), length_push nodes 0, kept.same_length);
    rising = subst (λ k. IsRising 0 (bs ++ numbered k 0 ∷ []) (suc (n / 64))) (sym at) (rising_push 0 bs (n / 64) 0 below);
    current = λ some. absurd (omega (arith, some, whole));
    none = ones_from_push bs m n ∙ kept.none;
    few = omega (arith, blocks_from_push bs m 0, kept.few);
    fits = λ i. fits_push bs i kept.fits;
  }
    where
      fits_push : (bs : List Numbered) (i : ℕ) → ((j : ℕ) → value_at bs j < 2 ^ 64) → value_at (bs ++ numbered m 0 ∷ []) i < 2 ^ 64
      fits_push [] zero fits = omega arith
      fits_push [] (suc i) fits = omega arith
      fits_push (b ∷ bs) zero fits = fits zero
      fits_push (b ∷ bs) (suc i) fits = fits_push bs i (λ j. fits (suc j))

  -- and it is greater than the others
  pub all_below : (EndsAt bs (n / 64) → ⊥) → IsRising 0 bs (n / 64)
  all_below not_last = rising_below 0 bs (n / 64) (omega arith) kept.rising not_last

  -- without the blocks that have no bits
  pub IsLatest-filter : n % 64 ≡ 0 → (nodes' : List ℕ) → length nodes' ≡ length (filter has_value bs)
      → IsCounted (blocks_from (filter has_value bs)) nodes' → IsLatest (filter has_value bs) nodes' n
  IsLatest-filter whole nodes' same counted = record {
    counted = counted;
    same_length = same;
    rising = rising_filter 0 bs (suc (n / 64)) kept.rising;
    current = λ some. absurd (omega (arith, some, whole));
    none = ones_from_filter bs n ∙ kept.none;
    few = omega (arith, blocks_from_filter bs, kept.few);
    fits = fits_filter bs kept.fits;
  }

  ends_set : (i w m : ℕ) → EndsAt bs m → EndsAt (set bs i (numbered (number_at bs i) w)) m
  ends_set i w m ends =
      let long = length-set bs i (numbered (number_at bs i) w) in
      (omega (arith, long, ends.0), ap (λ k. number_at (set bs i (numbered (number_at bs i) w)) (k - 1)) long ∙ number_set bs i w (length bs - 1) ∙ ends.1)

  module _ (i p : ℕ) (inside : i < length bs) (number : number_at bs i ≡ p / 64) where
    position : 64 * number_at bs i + p % 64 ≡ p
    position = omega (arith, number, div-add-mod' p 64)

    -- the ones from a bit of the block on, and after it
    ones_here : ones_from bs p ≡ count_ones (value_at bs i / 2 ^ (p % 64)) + blocks_from bs (suc i)
    ones_here =
        ap (ones_from bs) (sym position)
        ∙ ones_in 0 bs (suc (n / 64)) i (p % 64) kept.rising kept.fits inside (omega (arith, mod_below p 64 (omega arith)))

    pub ones_next : ones_from bs (suc p) ≡ count_ones (value_at bs i / 2 ^ (p % 64) / 2) + blocks_from bs (suc i)
    ones_next =
        let next : 64 * number_at bs i + suc (p % 64) ≡ suc p = omega (arith, position) in
        let half : value_at bs i / 2 ^ suc (p % 64) ≡ value_at bs i / 2 ^ (p % 64) / 2 =
        ap (λ k. value_at bs i / 2 ^ k) (omega arith) ∙ sym (shr-shr (value_at bs i) (p % 64) 1) in
        ap (ones_from bs) (sym next)
        ∙ ones_in 0 bs (suc (n / 64)) i (suc (p % 64)) kept.rising kept.fits inside (omega (arith, mod_below p 64 (omega arith)))
        ∙ ap (λ w. count_ones w + blocks_from bs (suc i)) half

    module _ (latest : ones_from bs p ≡ suc (ones_from bs (suc p))) where
      pub clear_loses : Loses (value_at bs i) (p % 64)
      clear_loses = ones_loses (value_at bs i) (p % 64) (omega (arith, latest, ones_here, ones_next))

      pub clear_sets : Sets (set bs i (numbered (number_at bs i) (value_at bs i - 2 ^ (p % 64)))) bs i p
      clear_sets =
          let w = value_at bs i in let m = number_at bs i in let loses = clear_loses in
          let s = sets m (w - 2 ^ (p % 64)) w (p % 64) loses.fewer bs i inside in
          subst (λ q. Sets (set bs i (numbered m (w - 2 ^ (p % 64)))) bs i q) position
          (subst (λ l. Sets (set bs i (numbered m (w - 2 ^ (p % 64)))) l i (64 * m + p % 64)) (set_same bs i) s)

      -- the nodes as they were count one more
      pub clear_counted : IsCounted (λ j. blocks_from (set bs i (numbered (number_at bs i) (value_at bs i - 2 ^ (p % 64)))) j + up_to j i) nodes
      clear_counted = let s = clear_sets in IsCounted-same _ _ nodes s.blocks kept.counted

      pub EndsAt-clear : EndsAt bs (n / 64) → EndsAt (set bs i (numbered (number_at bs i) (value_at bs i - 2 ^ (p % 64)))) (n / 64)
      EndsAt-clear = ends_set i (value_at bs i - 2 ^ (p % 64)) (n / 64)

      pub IsLatest-clear : (nodes' : List ℕ) → length nodes' ≡ length nodes
          → IsCounted (blocks_from (set bs i (numbered (number_at bs i) (value_at bs i - 2 ^ (p % 64))))) nodes'
          → IsLatest (set bs i (numbered (number_at bs i) (value_at bs i - 2 ^ (p % 64)))) nodes' n
      IsLatest-clear nodes' same counted =
          let s = clear_sets in let w = value_at bs i - 2 ^ (p % 64) in
          record {
            counted = counted;
            same_length = omega (arith, same, kept.same_length, length-set bs i (numbered (number_at bs i) w));
            rising = rising_set 0 bs (suc (n / 64)) i w kept.rising;
            current = λ some. EndsAt-clear (kept.current some);
            none = omega (arith, s.ones n, kept.none);
            few = omega (arith, s.blocks 0, kept.few);
            fits = set_fits bs i (number_at bs i) w (omega (arith, kept.fits i)) kept.fits;
          }

  module _ (room : EndsAt bs (n / 64)) where
    last_inside : length bs - 1 < length bs
    last_inside = omega (arith, room.0)

    low_bits : value_at bs (length bs - 1) < 2 ^ (n % 64)
    low_bits = no_ones_below (value_at bs (length bs - 1)) (n % 64) (omega (arith, kept.none, ones_here (length bs - 1) n last_inside room.1))

    pub push_fits : value_at bs (length bs - 1) + 2 ^ (n % 64) < 2 ^ 64
    push_fits = omega (arith, low_bits, power_low (n % 64) (mod_below n 64 (omega arith)))

    pub push_sets : Sets bs (set bs (length bs - 1) (numbered (number_at bs (length bs - 1)) (value_at bs (length bs - 1) + 2 ^ (n % 64)))) (length bs - 1) n
    push_sets =
        let i = length bs - 1 in let w = value_at bs i in let m = number_at bs i in
        let s = sets m w (w + 2 ^ (n % 64)) (n % 64) (ones_set w (n % 64) low_bits) bs i last_inside in
        subst (λ p. Sets bs (set bs i (numbered m (w + 2 ^ (n % 64)))) i p) (position i n last_inside room.1)
        (subst (λ l. Sets l (set bs i (numbered m (w + 2 ^ (n % 64)))) i (64 * m + n % 64)) (set_same bs i) s)

    pub IsLatest-push : (nodes' : List ℕ) → length nodes' ≡ length nodes → IsCounted (λ j. blocks_from bs j + up_to j (length bs - 1)) nodes'
        → IsLatest (set bs (length bs - 1) (numbered (number_at bs (length bs - 1)) (value_at bs (length bs - 1) + 2 ^ (n % 64)))) nodes' (n + 1)
    IsLatest-push nodes' same counted =
        let s = push_sets in let i = length bs - 1 in let w = value_at bs i in
        let len = length-set bs i (numbered (number_at bs i) (w + 2 ^ (n % 64))) in
        let here = ones_here i n last_inside room.1 in let after = ones_next i n last_inside room.1 in
        let empty = zero_from_ones (w / 2 ^ (n % 64)) (omega (arith, kept.none, here)) in
        let half = ap (λ m. count_ones (m / 2)) empty in
        let next : n + 1 ≡ suc n = omega arith in
        let whole = div-add-mod' n 64 in let more = div-add-mod' (n + 1) 64 in
        let low = mod_below n 64 (omega arith) in let high = mod_below (n + 1) 64 (omega arith) in
        record {
          counted = IsCounted-same _ _ nodes' (λ j. sym (s.blocks j)) counted;
          same_length = omega (arith, same, kept.same_length, len);
          rising = rising_to 0 _ (suc (n / 64)) (suc ((n + 1) / 64)) (omega (arith, whole, more, high)) (rising_set 0 bs (suc (n / 64)) i (w + 2 ^ (n % 64)) kept.rising);
          current = λ some.
              let same_block : n / 64 ≡ (n + 1) / 64 = omega (arith, whole, more, low, high, some) in
              subst (EndsAt _) same_block (ends_set i (w + 2 ^ (n % 64)) (n / 64) room);
          none = ap (ones_from (set bs i (numbered (number_at bs i) (w + 2 ^ (n % 64))))) next
              ∙ omega (arith, s.ones (suc n), after, half, ones-zero, kept.none, here, up_to-gt (suc n) n (omega arith));
          few = omega (arith, s.blocks 0, kept.few, up_to-le 0 i (omega arith));
          fits = set_fits bs i (number_at bs i) (w + 2 ^ (n % 64)) (omega (arith, push_fits)) kept.fits;
        }

-- the bit of a number in its block
pub bit_of : (p : ℕ) → 1 * 2 ^ (p % 64) % 2 ^ 64 ≡ 2 ^ (p % 64)
bit_of p = one_shl (p % 64) 64 (mod_below p 64 (omega arith))
