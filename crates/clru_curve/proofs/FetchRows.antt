-- The times of keys at capacities as one list, a key after another, and what one request changes of them.
use Rattle.std.proofs.Common.{◌≡◌, ◌≢◌, ℕ, zero, suc, ◌+◌, ◌-◌, ◌*◌, ◌/◌, ◌%◌, ◌<◌, ◌≤◌, Bool, cond, length, map, replicate, get_or, inl, inr, zero-add, refl, sym, ap, ◌∙◌, subst, arith}
use Rattle.std.proofs.Math.Nat.{mul-zero, suc-mul}
use Rattle.std.proofs.lemmas.Bool.{cases_lt}
use Rattle.std.proofs.lemmas.List.{get_or-append_right, get_or-map, get_or_append_left, get_or_past, length-append, length-map}
use Rattle.std.proofs.lemmas.List.FromFn.{get_or-range_with_len, length-range_with_len}
use Rattle.std.proofs.lemmas.Nat.{div-add-mod', div-mul-add, div_below, le-div, mod_below, mul-le}
use Rattle.std.specs.List.{range_with_len}
use Rattle.clru_curve.specs.Fetches.{rows_by, AreFetched}

-- functions that are the same from one number on so far make the same list
pub row_same : (f g : ℕ → ℕ) (a m : ℕ) → ((i : ℕ) → a ≤ i → i < a + m → g i ≡ f i) → map g (range_with_len a m) ≡ map f (range_with_len a m)
row_same f g a zero same = refl
row_same f g a (suc m) same =
    cc (same a (omega arith) (omega arith), row_same f g (a + 1) m (λ i low high. same i (omega (arith, low)) (omega (arith, high))))

-- one that is the same everywhere repeats it
pub row_constant : (f : ℕ → ℕ) (t a m : ℕ) → ((i : ℕ) → i < a + m → f i ≡ t) → map f (range_with_len a m) ≡ replicate m t
row_constant f t a zero same = refl
row_constant f t a (suc m) same =
    cc (same a (omega arith), row_constant f t (a + 1) m (λ i high. same i (omega (arith, high))))

module _ (n : ℕ) where
  pub rows_length : (f : ℕ → ℕ → ℕ) (keys : ℕ) → length (rows_by f n keys) ≡ keys * n
  rows_length f zero = omega arith
  rows_length f (suc k) = omega (
    arith,
    length-append (rows_by f n k) (map (f k) (range_with_len 0 n)),
    rows_length f k,
    length-map (range_with_len 0 n) (f k),
    length-range_with_len 0 n,
    suc-mul k n,
  )

  pub rows_aligned : (f : ℕ → ℕ → ℕ) (keys : ℕ) → length (rows_by f n keys) / n * n ≡ length (rows_by f n keys)
  rows_aligned f keys = subst (λ k. k / n * n ≡ k) (sym (rows_length f keys)) (elim (cases_lt 0 n) [
    | inl some ↦ let same : keys * n + 0 ≡ keys * n = omega arith in
        ap (λ k. k * n) (ap (λ k. k / n) (sym same) ∙ div-mul-add keys n 0 some)
    | inr none ↦ let zero_rows : 0 ≡ n = omega (arith, none) in
        subst (λ m. keys * m / m * m ≡ keys * m) zero_rows (mul-zero (keys * 0 / 0) ∙ sym (mul-zero keys))
  ])

  pub row_at : (h : ℕ → ℕ) (i : ℕ) → i < n → get_or (map h (range_with_len 0 n)) i 0 ≡ h i
  row_at h i inside =
      get_or-map h (range_with_len 0 n) i 0 0 (omega (arith, inside, length-range_with_len 0 n))
      ∙ ap h (get_or-range_with_len 0 n i 0 inside ∙ zero-add i)

  pub rows_at : (f : ℕ → ℕ → ℕ) (keys k i : ℕ) → k < keys → i < n → get_or (rows_by f n keys) (k * n + i) 0 ≡ f k i
  rows_at f zero k i below inside = absurd (omega (arith, below))
  rows_at f (suc j) k i below inside = elim (cases_lt k j) [
    | inl lt ↦ let fits : k * n + i < j * n = omega (arith, inside, suc-mul k n, mul-le (suc k) n j n lt (omega arith)) in
        get_or_append_left (rows_by f n j) (map (f j) (range_with_len 0 n)) 0 (k * n + i) (omega (arith, fits, rows_length f j))
        ∙ rows_at f j k i lt inside
    | inr ge ↦ let same : k ≡ j = omega (arith, ge, below) in
        let place : k * n + i - j * n ≡ i = omega (arith, ap (λ m. m * n) same) in
        get_or-append_right (rows_by f n j) (map (f j) (range_with_len 0 n)) (j * n) (k * n + i) 0 (rows_length f j)
        (omega (arith, ap (λ m. m * n) same))
        ∙ ap (λ q. get_or (map (f j) (range_with_len 0 n)) q 0) place ∙ row_at (f j) i inside ∙ ap (λ m. f m i) (sym same)
  ]

  module _ (f g : ℕ → ℕ → ℕ) where
    pub rows_same : (keys : ℕ) → ((j : ℕ) → j < keys → (i : ℕ) → i < n → g j i ≡ f j i) → rows_by g n keys ≡ rows_by f n keys
    rows_same zero same = refl
    rows_same (suc k) same = cc (
      rows_same k (λ j below i inside. same j (omega (arith, below)) i inside),
      row_same (f k) (g k) 0 n (λ i low high. same k (omega arith) i (omega (arith, high))),
    )

    module _ (keys k : ℕ) (others : (j : ℕ) → j < keys → j ≢ k → (i : ℕ) → i < n → g j i ≡ f j i) where
      -- the times of other keys stay
      apart_at : 0 < n → (q : ℕ) → q / n ≢ k → get_or (rows_by g n keys) q 0 ≡ get_or (rows_by f n keys) q 0
      apart_at some q other = elim (cases_lt q (keys * n)) [
        | inl lt ↦ let at : q / n * n + q % n ≡ q = div-add-mod' q n in
            let below = div_below q n keys some lt in let inside : q % n < n = mod_below q n some in
            ap (λ p. get_or (rows_by g n keys) p 0) (sym at) ∙ rows_at g keys (q / n) (q % n) below inside
            ∙ others (q / n) below other (q % n) inside
            ∙ sym (rows_at f keys (q / n) (q % n) below inside) ∙ ap (λ p. get_or (rows_by f n keys) p 0) at
        | inr ge ↦ get_or_past (rows_by g n keys) q 0 (omega (arith, ge, rows_length g keys))
            ∙ sym (get_or_past (rows_by f n keys) q 0 (omega (arith, ge, rows_length f keys)))
      ]

      -- a request of the k-th key
      pub rows_fetched : (hits : ℕ → Bool) (time : ℕ) → 0 < n → k < keys → ((i : ℕ) → i < n → g k i ≡ cond (hits i) (f k i) time)
          → AreFetched hits n (k * n) time (rows_by f n keys) (rows_by g n keys)
      rows_fetched hits time some here own = record {
        same_length = rows_length g keys ∙ sym (rows_length f keys);
        fetched = λ i inside. rows_at g keys k i here inside ∙ own i inside
            ∙ ap (λ t. cond (hits i) t time) (sym (rows_at f keys k i here inside));
        below = λ q low. apart_at some q (λ is. let less = div_below q n k some low in absurd (omega (arith, less, is)));
        above = λ q far. apart_at some q (λ is. let more = le-div (suc k) q n some (omega (arith, far, suc-mul k n)) in
            absurd (omega (arith, more, is)));
      }
