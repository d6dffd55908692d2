-- What a shape says of a text, and numbers of two and four digits.
use Rattle.std.proofs.Common.{◌≡◌, ℕ, zero, suc, ◌+◌, ◌*◌, ◌≤◌, ◌<◌, ◌&&◌, Bool, true, false, List, [], ◌∷◌, length, take, drop, get_or, replicate, refl, ◌∙◌, arith}
use Rattle.std.proofs.lemmas.List.{drop_all, drop_more}
use Rattle.std.proofs.lemmas.Bool.{and_parts}
use Rattle.std.specs.Char.{is_ascii_digit}
use Rattle.std.specs.List.{list_all}
use Rattle.std.specs.Str.Parse.{digits_value}
use Rattle.clru_log.specs.Shapes.{fits, has_shape}

and_false : (a b : Bool) → b ≡ false → (a && b) ≡ false
and_false true b none = none
and_false false b none = refl

-- a text that is too short
pub too_short : (shape text : List ℕ) → length text < length shape → has_shape shape text ≡ false
too_short [] text less = absurd (omega arith)
too_short (mark ∷ shape) [] less = refl
too_short (mark ∷ shape) (byte ∷ text) less = and_false (fits mark byte) (has_shape shape text) (too_short shape text (omega arith))

-- a text of a shape is as long
pub long : (shape text : List ℕ) → has_shape shape text ≡ true → length shape ≤ length text
long [] text has = omega arith
long (mark ∷ shape) [] has = absurd (cc)
long (mark ∷ shape) (byte ∷ text) has = let rest = long shape text (and_parts (fits mark byte) (has_shape shape text) has).1 in omega arith

-- one byte further
step : (shape text : List ℕ) (at : ℕ) → at < length shape → at < length text
    → has_shape (drop at shape) (drop at text) ≡ (fits (get_or shape at 0) (get_or text at 0) && has_shape (drop (at + 1) shape) (drop (at + 1) text))
step shape text at inside within = rw (drop_more shape at 0 inside, drop_more text at 0 within) refl

pub unfit : (shape text : List ℕ) (at : ℕ) → at < length shape → at < length text → fits (get_or shape at 0) (get_or text at 0) ≡ false
    → has_shape (drop at shape) (drop at text) ≡ false
unfit shape text at inside within other = step shape text at inside within ∙ rw other refl

pub fit : (shape text : List ℕ) (at : ℕ) → at < length shape → at < length text → fits (get_or shape at 0) (get_or text at 0) ≡ true
    → has_shape (drop at shape) (drop at text) ≡ has_shape (drop (at + 1) shape) (drop (at + 1) text)
fit shape text at inside within same = step shape text at inside within ∙ rw same refl

pub ended : (shape text : List ℕ) (at : ℕ) → length shape ≤ at → has_shape (drop at shape) (drop at text) ≡ true
ended shape text at all = rw (drop_all at shape all) refl

-- digits where the shape has them at its front
front : (count : ℕ) (shape text : List ℕ) → has_shape shape text ≡ true → take count shape ≡ replicate count 48 → list_all is_ascii_digit (take count text) ≡ true
front zero shape text has marks = refl
front (suc n) [] text has marks = absurd (cc)
front (suc n) (mark ∷ shape) [] has marks = absurd (cc)
front (suc n) (mark ∷ shape) (byte ∷ text) has marks =
    let parts = and_parts (fits mark byte) (has_shape shape text) has in
    let first : mark ≡ 48 = cc in let more : take n shape ≡ replicate n 48 = cc in
    rw (rw first at parts.0, front n shape text parts.1 more) refl

-- and behind it
pub digits : (from count : ℕ) (shape text : List ℕ) → has_shape shape text ≡ true → take count (drop from shape) ≡ replicate count 48
    → list_all is_ascii_digit (take count (drop from text)) ≡ true
digits zero count shape text has marks = front count shape text has marks
digits (suc from) zero shape text has marks = refl
digits (suc from) (suc n) [] text has marks = absurd (cc)
digits (suc from) (suc n) (mark ∷ shape) [] has marks = absurd (cc)
digits (suc from) (suc n) (mark ∷ shape) (byte ∷ text) has marks = digits from (suc n) shape text (and_parts (fits mark byte) (has_shape shape text) has).1 marks

-- the last two of four digits
pub later_digits : (xs : List ℕ) → list_all is_ascii_digit (take 4 xs) ≡ true → list_all is_ascii_digit (take 2 (drop 2 xs)) ≡ true
later_digits [] all = refl
later_digits (a ∷ []) all = refl
later_digits (a ∷ b ∷ xs) all = (and_parts (is_ascii_digit b) _ (and_parts (is_ascii_digit a) _ all).1).1

pub first_digits : (xs : List ℕ) → list_all is_ascii_digit (take 4 xs) ≡ true → list_all is_ascii_digit (take 2 xs) ≡ true
first_digits [] all = refl
first_digits (a ∷ []) all = all
first_digits (a ∷ b ∷ xs) all =
    let one = and_parts (is_ascii_digit a) _ all in let two = and_parts (is_ascii_digit b) _ one.1 in rw (one.0, two.0) refl

-- the number of four digits by its halves
pub halves : (xs : List ℕ) → 4 ≤ length xs → digits_value 10 (take 4 xs) ≡ digits_value 10 (take 2 xs) * 100 + digits_value 10 (take 2 (drop 2 xs))
halves [] few = absurd (omega arith)
halves (a ∷ []) few = absurd (omega arith)
halves (a ∷ b ∷ []) few = absurd (omega arith)
halves (a ∷ b ∷ c ∷ []) few = absurd (omega arith)
halves (a ∷ b ∷ c ∷ d ∷ xs) few = omega arith
