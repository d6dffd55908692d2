-- A line that begins with a time: where its parts stand.
use Rattle.std.proofs.Common.{◌≡◌, ℕ, ◌+◌, ◌*◌, ◌^◌, ◌<◌, Bool, true, false, ◌==◌, List, [], ◌∷◌, ◌++◌, None, Some, length, length-append, take, drop, append_assoc, get_or, add-one, drop-cons, refl, sym, ap, ◌∙◌, subst, arith}
use Rattle.std.specs.Char.{is_ascii_digit}
use Rattle.std.specs.List.{list_all, list_any, position, position_or_len}
use Rattle.std.proofs.lemmas.Bool.{and_parts, eqb-true, le-ltb, lt-ltb}
use Rattle.std.specs.Prelude.{unwrap_or}
use Rattle.std.specs.Option.{option_and_then}
use Rattle.std.proofs.lemmas.List.{take-append-drop}
use Rattle.std.proofs.lemmas.List.Folds.{list_any-append}
use Rattle.std.proofs.Math.Seq.{drop-append-add, take-append_seam}
use Rattle.clru_model.proofs.Cases.{split}
use Rattle.clru_text.specs.Lines.{digits_named}
use Rattle.clru_text.specs.Times.{decimal_time, in_time, millionths_of, rest_behind, rest_of_line, time_at, time_before, time_in, time_of_line}

-- what stands before the first that passes
module _ (p : ℕ → Bool) (c : ℕ) (here : p c ≡ true) (tail : List ℕ) where
  prefix : (ws : List ℕ) → list_any p ws ≡ false → position_or_len p (ws ++ c ∷ tail) ≡ length ws
  prefix [] none = rw here refl
  prefix (w ∷ ws) none = split (p w)
      (λ t. absurd (cc (rw t at none)))
      (λ f. rw f (omega (arith, prefix ws (rw f at none))))

  pub first : (ws : List ℕ) → list_any p ws ≡ false → position p (ws ++ c ∷ tail) ≡ Some (length ws)
  first ws none = rw (prefix ws none, lt-ltb (length ws) (length (ws ++ c ∷ tail)) (omega (arith, length-append ws (c ∷ tail)))) refl

-- where none passes
none_passes : (p : ℕ → Bool) (ws : List ℕ) → list_any p ws ≡ false → position_or_len p ws ≡ length ws
none_passes p [] none = refl
none_passes p (w ∷ ws) none = split (p w)
    (λ t. absurd (cc (rw t at none)))
    (λ f. rw f (omega (arith, none_passes p ws (rw f at none))))

-- no digit is another byte
no_digit : (c : ℕ) → is_ascii_digit c ≡ false → (ws : List ℕ) → list_all is_ascii_digit ws ≡ true → list_any (λ b. b == c) ws ≡ false
no_digit c other [] all = refl
no_digit c other (w ∷ ws) all =
    let parts = and_parts (is_ascii_digit w) (list_all is_ascii_digit ws) all in
    split (w == c)
    (λ t. absurd (cc (ap is_ascii_digit (eqb-true w c t), parts.0, other)))
    (λ f. rw f (no_digit c other ws parts.1))

module _ (whole decimals tail : List ℕ) (whole_all : list_all is_ascii_digit whole ≡ true) (decimals_all : list_all is_ascii_digit decimals ≡ true) where
  no_blank : list_any (λ b. b == 32) (whole ++ 46 ∷ decimals) ≡ false
  no_blank = list_any-append (λ b. b == 32) whole (46 ∷ decimals) ∙ rw (no_digit 32 refl whole whole_all) (no_digit 32 refl decimals decimals_all)

  blank : position (λ b. b == 32) ((whole ++ 46 ∷ decimals) ++ 32 ∷ tail) ≡ Some (length (whole ++ 46 ∷ decimals))
  blank = first (λ b. b == 32) 32 refl tail (whole ++ 46 ∷ decimals) no_blank

  time_dotted : time_of_line ((whole ++ 46 ∷ decimals) ++ 32 ∷ tail) ≡ decimal_time whole decimals
  time_dotted = ap (time_before ((whole ++ 46 ∷ decimals) ++ 32 ∷ tail)) blank
      ∙ ap time_in (take-append_seam (whole ++ 46 ∷ decimals) (32 ∷ tail))
      ∙ ap (time_at (whole ++ 46 ∷ decimals)) (first (λ b. b == 46) 46 refl decimals whole (no_digit 46 refl whole whole_all))
      ∙ ap (λ ws. decimal_time ws (drop (length whole + 1) (whole ++ 46 ∷ decimals))) (take-append_seam whole (46 ∷ decimals))
      ∙ ap (decimal_time whole) (drop-append-add whole (46 ∷ decimals) 1)

  rest_dotted : (t : ℕ) → time_of_line ((whole ++ 46 ∷ decimals) ++ 32 ∷ tail) ≡ Some t → rest_of_line ((whole ++ 46 ∷ decimals) ++ 32 ∷ tail) ≡ tail
  rest_dotted t timed = ap (rest_behind ((whole ++ 46 ∷ decimals) ++ 32 ∷ tail)) timed
      ∙ ap (λ o. drop (unwrap_or o 0 + 1) ((whole ++ 46 ∷ decimals) ++ 32 ∷ tail)) blank
      ∙ drop-append-add (whole ++ 46 ∷ decimals) (32 ∷ tail) 1

-- digits and a blank
module _ (whole tail : List ℕ) (all : list_all is_ascii_digit whole ≡ true) where
  pub whole_blank : position (λ b. b == 32) (whole ++ 32 ∷ tail) ≡ Some (length whole)
  whole_blank = first (λ b. b == 32) 32 refl tail whole (no_digit 32 refl whole all)

  no_point : position (λ b. b == 46) whole ≡ None
  no_point = rw (none_passes (λ b. b == 46) whole (no_digit 46 refl whole all), le-ltb (length whole) (length whole) (omega arith)) refl

  time_undotted : time_of_line (whole ++ 32 ∷ tail) ≡ time_at whole None
  time_undotted = ap (time_before (whole ++ 32 ∷ tail)) whole_blank
      ∙ ap time_in (take-append_seam whole (32 ∷ tail)) ∙ ap (time_at whole) no_point

  rest_undotted : (t : ℕ) → time_of_line (whole ++ 32 ∷ tail) ≡ Some t → rest_of_line (whole ++ 32 ∷ tail) ≡ tail
  rest_undotted t timed = ap (rest_behind (whole ++ 32 ∷ tail)) timed
      ∙ ap (λ o. drop (unwrap_or o 0 + 1) (whole ++ 32 ∷ tail)) whole_blank ∙ drop-append-add whole (32 ∷ tail) 1

-- a list about one of its bytes
pub cut : (k c : ℕ) (xs : List ℕ) → k < length xs → get_or xs k 0 ≡ c → xs ≡ take k xs ++ c ∷ drop (k + 1) xs
cut k c xs inside is =
    let piece : drop k xs ≡ get_or xs k 0 ∷ drop (k + 1) xs = rw (add-one, drop-cons xs k 0) refl in
    sym (take-append-drop k xs) ∙ ap (λ l. take k xs ++ l) (subst (λ d. drop k xs ≡ d ∷ drop (k + 1) xs) is piece)

-- digits, a point, and behind it digits and a blank
module _ (line behind : List ℕ) (at places : ℕ) (is : behind ≡ drop (at + 1) line) (whole_all : list_all is_ascii_digit (take at line) ≡ true)
    (decimals_all : list_all is_ascii_digit (take places behind) ≡ true) (at_inside : at < length line) (at_point : get_or line at 0 ≡ 46)
    (places_inside : places < length behind) (at_blank : get_or behind places 0 ≡ 32) where
  parts : line ≡ (take at line ++ 46 ∷ take places behind) ++ 32 ∷ drop (places + 1) behind
  parts = cut at 46 line at_inside at_point
      ∙ ap (λ l. take at line ++ 46 ∷ l) (sym is ∙ cut places 32 behind places_inside at_blank)
      ∙ sym (append_assoc (take at line) (46 ∷ take places behind) (32 ∷ drop (places + 1) behind))

  pub time_split : time_of_line line ≡ decimal_time (take at line) (take places behind)
  time_split = ap time_of_line parts
      ∙ time_dotted (take at line) (take places behind) (drop (places + 1) behind) whole_all decimals_all

  pub rest_split : (t : ℕ) → time_of_line line ≡ Some t → rest_of_line line ≡ drop (places + 1) behind
  rest_split t timed = ap rest_of_line parts
      ∙ rest_dotted (take at line) (take places behind) (drop (places + 1) behind) whole_all decimals_all t
      (ap time_of_line (sym parts) ∙ timed)

-- the same of digits and a blank
module _ (line : List ℕ) (at n : ℕ) (named : digits_named (take at line) ≡ Some n) (all : list_all is_ascii_digit (take at line) ≡ true)
    (inside : at < length line) (blank_at : get_or line at 0 ≡ 32) where
  pub whole_split : time_of_line line ≡ in_time (n * 10 ^ 6)
  whole_split = ap time_of_line (cut at 32 line inside blank_at) ∙ time_undotted (take at line) (drop (at + 1) line) all
      ∙ ap (option_and_then (λ m. in_time (m * 10 ^ 6))) named

  pub behind_split : (t : ℕ) → time_of_line line ≡ Some t → rest_of_line line ≡ drop (at + 1) line
  behind_split t timed = ap rest_of_line (cut at 32 line inside blank_at) ∙ rest_undotted (take at line) (drop (at + 1) line) all t
      (ap time_of_line (sym (cut at 32 line inside blank_at)) ∙ timed)

-- what digits with decimals name
pub decimal_named : (ds ps : List ℕ) (whole part places : ℕ) → digits_named ds ≡ Some whole → digits_named ps ≡ Some part → length ps ≡ places
    → decimal_time ds ps ≡ in_time (whole * 10 ^ 6 + millionths_of part places)
decimal_named ds ps whole part places is_whole is_part long =
    ap (option_and_then (λ n. option_and_then (λ m. in_time (n * 10 ^ 6 + millionths_of m (length ps))) (digits_named ps))) is_whole
    ∙ ap (option_and_then (λ m. in_time (whole * 10 ^ 6 + millionths_of m (length ps)))) is_part
    ∙ ap (λ k. in_time (whole * 10 ^ 6 + millionths_of part k)) long
