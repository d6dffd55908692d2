-- Bytes that are written one by one from the start of a word are the tail, and eight of them go in as that word.
use Rattle.std.proofs.Common.{◌≡◌, ℕ, zero, suc, ◌+◌, ◌*◌, ◌%◌, ◌^◌, ◌<◌, ◌≤◌, List, [], ◌∷◌, length, get_or, take, drop, fold, bit_or, refl, ap, ap₂, ◌∙◌, arith, eq-eqb, ne_eqb, pow-add, w64}
use Rattle.std.proofs.lemmas.Nat.{mul-add-lt, or_comm, or_shifted, shl_whole}
use Rattle.std.specs.Hash.DefaultHasher.{round, with_byte, wrapping_add, write_byte, write_word}
use Rattle.std.specs.Int.{from_le_bytes}
use Rattle.std.specs.declared.hash.DefaultHasher.{DefaultHasher}
use Rattle.clru_text.specs.SipHasher.{number_of}

abbrev pub AreBytes : List ℕ → Type 0
AreBytes bs = (i : ℕ) → get_or bs i 0 < 256

pub AreBytes-take : (n : ℕ) (bs : List ℕ) → AreBytes bs → AreBytes (take n bs)
AreBytes-take zero bs bytes i = omega arith
AreBytes-take (suc n) [] bytes i = omega arith
AreBytes-take (suc n) (b ∷ bs) bytes zero = bytes 0
AreBytes-take (suc n) (b ∷ bs) bytes (suc i) = AreBytes-take n bs (λ j. bytes (suc j)) i

pub AreBytes-drop : (n : ℕ) (bs : List ℕ) → AreBytes bs → AreBytes (drop n bs)
AreBytes-drop zero bs bytes i = bytes i
AreBytes-drop (suc n) [] bytes i = omega arith
AreBytes-drop (suc n) (b ∷ bs) bytes i = AreBytes-drop n bs (λ j. bytes (suc j)) i

-- s, with another tail and length
abbrev pub with_tail : DefaultHasher → ℕ → ℕ → DefaultHasher
with_tail s t n = record { v0 = s.v0; v1 = s.v1; v2 = s.v2; v3 = s.v3; tail = t; length = n }

-- s, after n bytes and k more, which are the tail t
abbrev partly : DefaultHasher → ℕ → ℕ → ℕ → DefaultHasher
partly s n t k = with_tail s t (wrapping_add n k)

byte_more : (k : ℕ) → 2 ^ (8 * suc k) ≡ 2 ^ (8 * k) * 256
byte_more k = let more : 8 * suc k ≡ 8 * k + 8 = omega arith in ap (λ e. 2 ^ e) more ∙ pow-add 2 (8 * k) 8

number_more : (t k b n : ℕ) → t + b * 2 ^ (8 * k) + n * 2 ^ (8 * suc k) ≡ t + (b + 256 * n) * 2 ^ (8 * k)
number_more t k b n = rw (byte_more k) (omega arith)

module _ (t k b : ℕ) (room : t < 2 ^ (8 * k)) (byte : b < 256) where
  joined : k < 8 → with_byte t k b ≡ t + b * 2 ^ (8 * k)
  joined within =
      let place : 8 + 8 * k ≤ 64 = omega arith in let turned : b * 2 ^ (8 * k) + t ≡ t + b * 2 ^ (8 * k) = omega arith in
      ap (bit_or t) (shl_whole b 8 (8 * k) 64 byte place) ∙ or_comm t (b * 2 ^ (8 * k)) ∙ or_shifted b (8 * k) t room ∙ turned

  room_left : t + b * 2 ^ (8 * k) < 2 ^ (8 * suc k)
  room_left = rw (byte_more k) (omega (arith, mul-add-lt b (2 ^ (8 * k)) t 256 byte room))

module _ (s : DefaultHasher) (n : ℕ) (fits : n < 2 ^ 64) (aligned : n % 8 ≡ 0) where
  byte_inside : (t k b : ℕ) → k < 7 → write_byte (partly s n t k) b ≡ partly s n (with_byte t k b) (suc k)
  unfolding write_byte
  byte_inside t k b inside =
      let place : wrapping_add n k % 8 ≡ k = omega arith in let next : wrapping_add (wrapping_add n k) 1 ≡ wrapping_add n (suc k) = omega arith in
      let more : wrapping_add n (suc k) % 8 ≡ 0 → ⊥ = omega arith in rw (place, next, ne_eqb (wrapping_add n (suc k) % 8) 0 more)

  byte_last : (t k b : ℕ) → k ≡ 7 → write_byte (partly s n t k) b ≡ with_tail (write_word s (with_byte t k b)) 0 (wrapping_add n 8)
  unfolding write_byte write_word round
  byte_last t k b last =
      let place : wrapping_add n k % 8 ≡ k = omega arith in let next : wrapping_add (wrapping_add n k) 1 ≡ wrapping_add n 8 = omega arith in
      let whole : wrapping_add n 8 % 8 ≡ 0 = omega arith in rw (place, next, eq-eqb (wrapping_add n 8 % 8) 0 whole)

  next : (t k b : ℕ) (bs : List ℕ) → t < 2 ^ (8 * k) → b < 256 → k < 7
      → fold write_byte (partly s n t k) (b ∷ bs) ≡ fold write_byte (partly s n (t + b * 2 ^ (8 * k)) (suc k)) bs
  next t k b bs room byte inside =
      let within : k < 8 = omega arith in
      ap (λ x. fold write_byte x bs) (byte_inside t k b inside ∙ ap (λ u. partly s n u (suc k)) (joined t k b room byte within))

  some : (t k : ℕ) (bs : List ℕ) → AreBytes bs → t < 2 ^ (8 * k) → k + length bs < 8
      → fold write_byte (partly s n t k) bs ≡ partly s n (t + number_of bs * 2 ^ (8 * k)) (k + length bs)
  some t k [] bytes room short =
      let none : t ≡ t + 0 * 2 ^ (8 * k) = omega arith in let here : k ≡ k + 0 = omega arith in ap₂ (partly s n) none here
  some t k (b ∷ bs) bytes room short =
      let here : suc k + length bs ≡ k + suc (length bs) = omega arith in
      next t k b bs room (bytes 0) (omega arith)
      ∙ some (t + b * 2 ^ (8 * k)) (suc k) bs (λ i. bytes (suc i)) (room_left t k b room (bytes 0)) (omega arith)
      ∙ ap₂ (partly s n) (number_more t k b (number_of bs)) here

  eight : (t k b : ℕ) (bs : List ℕ) → AreBytes (b ∷ bs) → t < 2 ^ (8 * k) → k + length bs ≡ 7
      → fold write_byte (partly s n t k) (b ∷ bs) ≡ with_tail (write_word s (t + number_of (b ∷ bs) * 2 ^ (8 * k))) 0 (wrapping_add n 8)
  eight t k b [] bytes room whole =
      let only : t + b * 2 ^ (8 * k) ≡ t + (b + 256 * 0) * 2 ^ (8 * k) = omega arith in
      byte_last t k b (omega arith) ∙ ap (λ m. with_tail (write_word s m) 0 (wrapping_add n 8)) (joined t k b room (bytes 0) (omega arith) ∙ only)
  eight t k b (d ∷ ds) bytes room whole =
      next t k b (d ∷ ds) room (bytes 0) (omega arith)
      ∙ eight (t + b * 2 ^ (8 * k)) (suc k) d ds (λ i. bytes (suc i)) (room_left t k b room (bytes 0)) (omega arith)
      ∙ ap (λ m. with_tail (write_word s m) 0 (wrapping_add n 8)) (number_more t k b (number_of (d ∷ ds)))

module _ (s : DefaultHasher) (fits : s.length < 2 ^ 64) (aligned : s.length % 8 ≡ 0) (empty : s.tail ≡ 0) where
  start : s ≡ partly s s.length 0 0
  start = let none : s.length ≡ wrapping_add s.length 0 = omega arith in λ i. with_tail s (empty i) (none i)

  pub rest_written : (bs : List ℕ) → AreBytes bs → length bs < 8 → fold write_byte s bs ≡ with_tail s (number_of bs) (wrapping_add s.length (length bs))
  rest_written bs bytes short =
      let number : 0 + number_of bs * 1 ≡ number_of bs = omega arith in let count : 0 + length bs ≡ length bs = omega arith in
      ap (λ x. fold write_byte x bs) start ∙ some s s.length fits aligned 0 0 bs bytes (omega arith) (omega arith) ∙ ap₂ (partly s s.length) number count

  pub word_written : (bs : List ℕ) → AreBytes bs → length bs ≡ 8 → fold write_byte s bs ≡ with_tail (write_word s (number_of bs)) 0 (wrapping_add s.length 8)
  word_written [] bytes whole = absurd (omega arith)
  word_written (b ∷ bs) bytes whole =
      let number : 0 + number_of (b ∷ bs) * 1 ≡ number_of (b ∷ bs) = omega arith in
      ap (λ x. fold write_byte x (b ∷ bs)) start ∙ eight s s.length fits aligned 0 0 b bs bytes (omega arith) (omega arith)
      ∙ ap (λ m. with_tail (write_word s m) 0 (wrapping_add s.length 8)) number

pub write_word_keeps : (s : DefaultHasher) (m : ℕ) → ((write_word s m).tail ≡ s.tail) × ((write_word s m).length ≡ s.length)
unfolding write_word round
write_word_keeps s m = (refl, refl)

-- the number of eight bytes is what std reads of them
pub number_of_8 : (bs : List ℕ) → length bs ≡ 8 → from_le_bytes w64 bs ≡ number_of bs
number_of_8 (a ∷ b ∷ c ∷ d ∷ e ∷ f ∷ g ∷ h ∷ []) whole = omega arith
number_of_8 bs whole = absurd (omega arith)
