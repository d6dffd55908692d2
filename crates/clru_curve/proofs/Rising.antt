-- Values with rising numbers: another value, one more, and only those that are not 0.
use Rattle.std.proofs.Common.{◌≡◌, ℕ, zero, suc, ◌+◌, ◌-◌, ◌^◌, ◌<◌, ◌≤◌, List, [], ◌∷◌, ◌++◌, length, set, inl, inr, refl, ap, ◌∙◌, arith}
use Rattle.std.proofs.lemmas.Bool.{cases_lt}
use Rattle.std.proofs.lemmas.List.{length_push}
use Rattle.std.specs.List.{filter}
use Rattle.clru_model.proofs.Cases.{split}
use Rattle.clru_curve.specs.declared.numbered.Numbered.{Numbered}
use Rattle.clru_curve.specs.Rising.{numbered, has_value, number_at, value_at, EndsAt, IsRising}

pub length_filter : (bs : List Numbered) → length (filter has_value bs) ≤ length bs
length_filter [] = omega arith
length_filter (b ∷ bs) = split (has_value b)
    (λ t. rw t (omega (arith, length_filter bs)))
    (λ f. rw f (omega (arith, length_filter bs)))

pub fits_filter : (bs : List Numbered) → ((i : ℕ) → value_at bs i < 2 ^ 64) → (i : ℕ) → value_at (filter has_value bs) i < 2 ^ 64
fits_filter [] fits i = fits i
fits_filter (b ∷ bs) fits i = split (has_value b)
    (λ t. rw t (kept (fits_filter bs (λ j. fits (suc j))) i))
    (λ f. rw f (fits_filter bs (λ j. fits (suc j)) i))
  where
    kept : ((j : ℕ) → value_at (filter has_value bs) j < 2 ^ 64) → (i : ℕ) → value_at (b ∷ filter has_value bs) i < 2 ^ 64
    kept rest zero = fits zero
    kept rest (suc i) = rest i

-- rising numbers
pub rising_from : (low less : ℕ) (bs : List Numbered) (high : ℕ) → less ≤ low → IsRising low bs high → IsRising less bs high
rising_from low less [] high le is = omega (arith, le, is)
rising_from low less (b ∷ bs) high le is = (omega (arith, le, is.0), is.1)

pub rising_to : (low : ℕ) (bs : List Numbered) (high more : ℕ) → high ≤ more → IsRising low bs high → IsRising low bs more
rising_to low [] high more le is = omega (arith, le, is)
rising_to low (b ∷ bs) high more le is = (is.0, rising_to (suc b.number) bs high more le is.1)

pub rising_filter : (low : ℕ) (bs : List Numbered) (high : ℕ) → IsRising low bs high → IsRising low (filter has_value bs) high
rising_filter low [] high is = is
rising_filter low (b ∷ bs) high is = split (has_value b)
    (λ t. rw t (is.0, rising_filter (suc b.number) bs high is.1))
    (λ f. rw f (rising_from (suc b.number) low (filter has_value bs) high (omega (arith, is.0)) (rising_filter (suc b.number) bs high is.1)))

pub rising_push : (low : ℕ) (bs : List Numbered) (high w : ℕ) → IsRising low bs high → IsRising low (bs ++ numbered high w ∷ []) (suc high)
rising_push low [] high w is = (is, omega arith)
rising_push low (b ∷ bs) high w is = (is.0, rising_push (suc b.number) bs high w is.1)

pub rising_length : (low : ℕ) (bs : List Numbered) (high : ℕ) → IsRising low bs high → low + length bs ≤ high
rising_length low [] high is = omega (arith, is)
rising_length low (b ∷ bs) high is = omega (arith, is.0, rising_length (suc b.number) bs high is.1)

pub rising_at : (low : ℕ) (bs : List Numbered) (high i : ℕ) → IsRising low bs high → i < length bs → low ≤ number_at bs i
rising_at low [] high i is inside = omega (arith, inside)
rising_at low (b ∷ bs) high zero is inside = is.0
rising_at low (b ∷ bs) high (suc i) is inside = omega (arith, is.0, rising_at (suc b.number) bs high i is.1 (omega (arith, inside)))

pub rising_order : (low : ℕ) (bs : List Numbered) (high i j : ℕ) → IsRising low bs high → i < j → j < length bs → number_at bs i < number_at bs j
rising_order low [] high i j is less inside = omega (arith, inside)
rising_order low (b ∷ bs) high i zero is less inside = omega (arith, less)
rising_order low (b ∷ bs) high zero (suc j) is less inside = rising_at (suc b.number) bs high j is.1 (omega (arith, inside))
rising_order low (b ∷ bs) high (suc i) (suc j) is less inside = rising_order (suc b.number) bs high i j is.1 (omega (arith, less)) (omega (arith, inside))

pub rising_set : (low : ℕ) (bs : List Numbered) (high i w : ℕ) → IsRising low bs high → IsRising low (set bs i (numbered (number_at bs i) w)) high
rising_set low [] high i w is = is
rising_set low (b ∷ bs) high zero w is = is
rising_set low (b ∷ bs) high (suc i) w is = (is.0, rising_set (suc b.number) bs high i w is.1)

-- numbers of which the last is not the greatest possible
pub rising_below : (low : ℕ) (bs : List Numbered) (high : ℕ) → low ≤ high → IsRising low bs (suc high) → (EndsAt bs high → ⊥) → IsRising low bs high
rising_below low [] high le is not_last = le
rising_below low (b ∷ []) high le is not_last = elim (cases_lt b.number high) [
  | inl lt ↦ (is.0, omega (arith, lt))
  | inr ge ↦ absurd (not_last (omega arith, omega (arith, ge, is.1)))
]
rising_below low (b ∷ c ∷ bs) high le is not_last = (
  is.0,
  rising_below (suc b.number) (c ∷ bs) high (omega (arith, rising_length (suc b.number) (c ∷ bs) (suc high) is.1)) is.1
      (λ e. let same : length (b ∷ c ∷ bs) - 1 ≡ suc (length (c ∷ bs) - 1) = omega arith in
      not_last (omega arith, ap (number_at (b ∷ c ∷ bs)) same ∙ e.1)),
)

pub set_fits : (bs : List Numbered) (i m w : ℕ) → w < 2 ^ 64 → ((j : ℕ) → value_at bs j < 2 ^ 64) → (j : ℕ) → value_at (set bs i (numbered m w)) j < 2 ^ 64
set_fits [] i m w low fits j = fits j
set_fits (b ∷ bs) zero m w low fits zero = low
set_fits (b ∷ bs) zero m w low fits (suc j) = fits (suc j)
set_fits (b ∷ bs) (suc i) m w low fits zero = fits zero
set_fits (b ∷ bs) (suc i) m w low fits (suc j) = set_fits bs i m w low (λ k. fits (suc k)) j

-- the same block, written anew
pub set_same : (bs : List Numbered) (i : ℕ) → set bs i (numbered (number_at bs i) (value_at bs i)) ≡ bs
set_same [] i = refl
set_same (b ∷ bs) zero = refl
set_same (b ∷ bs) (suc i) = ap (λ l. b ∷ l) (set_same bs i)

pub number_set : (bs : List Numbered) (i w j : ℕ) → number_at (set bs i (numbered (number_at bs i) w)) j ≡ number_at bs j
number_set [] i w j = refl
number_set (b ∷ bs) zero w zero = refl
number_set (b ∷ bs) zero w (suc j) = refl
number_set (b ∷ bs) (suc i) w zero = refl
number_set (b ∷ bs) (suc i) w (suc j) = number_set bs i w j

pub ends_push : (bs : List Numbered) (m w : ℕ) → EndsAt (bs ++ numbered m w ∷ []) m
ends_push bs m w =
    let long = length_push bs (numbered m w) in
    let last : length (bs ++ numbered m w ∷ []) - 1 ≡ length bs = omega (arith, long) in
    (omega (arith, long), ap (number_at (bs ++ numbered m w ∷ [])) last ∙ at bs)
  where
    at : (bs : List Numbered) → number_at (bs ++ numbered m w ∷ []) (length bs) ≡ m
    at [] = refl
    at (b ∷ bs) = at bs
