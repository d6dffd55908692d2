-- A line with the greatest size of its key has that size and that key.
use Rattle.std.proofs.Common.{◌≡◌, ℕ, zero, suc, drop-cons, reverse, ltb-true, ltb-false, ◌-◌, ◌+◌, ◌<◌, ◌≤◌, ◌^◌, ◌%◌, Bool, true, false, cond, ◌&&◌, List, [], ◌∷◌, ◌++◌, length, length-append, take, drop, get_or, max, Option, None, Some, IsSome, refl, sym, ap, ◌∙◌, subst, arith}
use Rattle.std.specs.Prelude.{bytes_eq, decimal, nat_lt, position, ◌==◌}
use Rattle.std.specs.Option.{option_map_or}
use Rattle.std.specs.Char.{is_ascii_digit}
use Rattle.std.specs.List.{list_all, filter, Contains, position_or_len}
use Rattle.std.specs.Str.Parse.{digits_value}
use Rattle.std.proofs.Math.ListN.{get_or-append}
use Rattle.std.proofs.Math.Seq.{drop-append_seam, get_or-append_seam, take-append_seam}
use Rattle.std.proofs.lemmas.Bool.{and_parts, eqb-true, le-leb, lt-ltb}
use Rattle.std.proofs.lemmas.List.Sums.{AllPass-from_list_all, position_or_len_is}
use Rattle.clru_model.proofs.Cases.{split}
use Rattle.std.proofs.lemmas.List.{reverse-append}
use Rattle.std.proofs.lemmas.Slice.Eq.{bytes_eq-Decides}
use Rattle.std.proofs.lemmas.List.Quantifiers.{position-Some}
use Rattle.std.proofs.lemmas.Fmt.{decimal_by_steps, decimal_is_IsNumeral, length-decimal-le}
use Rattle.std.proofs.lemmas.List.Folds.{list_all-append}
use Rattle.clru_curve.specs.SizedCurves.{greatest_of}
use Rattle.clru_text.specs.Lines.{are_digits, is_capacity}
use Rattle.clru_text.specs.Sizes.{HaveSizes, is_zero, size_before, size_in, size_of_line, tail_from, tail_of_line, weight_of_line}
use Rattle.clru_report.specs.OneSize.{greatest_of_key, with_greatest}
use Rattle.clru_report.specs.OneSizeLaws.{IsSizeOfOne}

-- each digit that is written is one
one_digit : (n : ℕ) → n < 10 → is_ascii_digit (48 + n) ≡ true
one_digit n low = search (arith, le-leb)

digits_all : (n : ℕ) → n < 2 ^ 64 → list_all is_ascii_digit (decimal n) ≡ true
digits_all n fits =
    decimal_by_steps (λ m ds. list_all is_ascii_digit ds ≡ true)
    (λ m low. rw (one_digit m low) refl)
    (λ m ds big all. list_all-append is_ascii_digit ds ((48 + m % 10) ∷ []) ∙ rw (all, one_digit (m % 10) (omega arith)) refl)
    n fits

-- so the number is read again
capacity : (n : ℕ) → 0 < n → n < 2 ^ 64 → is_capacity (decimal n) ≡ true
capacity n some fits =
    let numeral = decimal_is_IsNumeral n fits in
    let few = length-decimal-le 20 n (omega arith) (omega (arith, fits)) fits in
    rw (lt-ltb 0 (length (decimal n)) numeral.0.0, le-leb (length (decimal n)) 20 few, digits_all n fits, numeral.1, lt-ltb 0 n some, lt-ltb n (2 ^ 64) fits) refl

read_again : (n : ℕ) → 0 < n → n < 2 ^ 64 → size_in (decimal n) ≡ Some n
read_again n some fits =
    ap (λ b. cond b (Some (digits_value 10 (decimal n))) (cond (is_zero (decimal n)) (Some 1) None)) (capacity n some fits)
    ∙ ap Some (decimal_is_IsNumeral n fits).1

-- digits are no blanks
no_blank : (b : ℕ) → is_ascii_digit b ≡ true → (b == 32) ≡ false
no_blank b digit = split (b == 32) (λ t. absurd (cc (digit, ap is_ascii_digit (eqb-true b 32 t)))) (λ f. f)

-- the first blank behind digits
blank_behind : (ds rest : List ℕ) → list_all is_ascii_digit ds ≡ true → position (λ b. b == 32) (ds ++ 32 ∷ rest) ≡ Some (length ds)
blank_behind ds rest all =
    let test = λ (b : ℕ). b == 32 in let line = ds ++ 32 ∷ rest in
    let long : length line ≡ length ds + (1 + length rest) = omega (arith, length-append ds (32 ∷ rest)) in
    let first : position_or_len test line ≡ length ds = position_or_len_is test line (length ds) 0 (omega (arith, long))
    (λ k low. ap test (get_or-append ds (32 ∷ rest) 0 k low) ∙ no_blank (get_or ds k 0) (AllPass-from_list_all is_ascii_digit ds all k 0 low))
    (λ low. ap test (get_or-append_seam ds 32 rest 0)) in
    ap (λ i. cond (nat_lt i (length line)) (Some i) None) first
    ∙ ap (λ b. cond b (Some (length ds)) None) (lt-ltb (length ds) (length line) (omega (arith, long)))

-- a line with a size has a blank, from which its key stands
tail_at : (line : List ℕ) (o : Option ℕ) → position (λ b. b == 32) line ≡ o → IsSome (size_before line o) → (rest : List ℕ) × (tail_from line o ≡ 32 ∷ rest)
tail_at line None at sized = absurd (cc)
tail_at line (Some i) at sized =
    let here = position-Some (λ b. b == 32) line i 0 at in
    (drop (suc i) line, drop-cons line i 0 here.0 ∙ ap (λ b. b ∷ drop (suc i) line) (eqb-true (get_or line i 0) 32 here.1))

tail_is : (line : List ℕ) → IsSome (size_of_line line) → (rest : List ℕ) × (tail_of_line line ≡ 32 ∷ rest)
tail_is line sized = tail_at line (position (λ b. b == 32) line) refl sized

-- sizes fit
word_fits : (word : List ℕ) → 1 + option_map_or (λ size. size - 1) (size_in word) 0 < 2 ^ 64
word_fits word =
    split (is_capacity word)
    (λ t. let value = ltb-true (digits_value 10 word) (2 ^ 64) (and_parts (nat_lt 0 (digits_value 10 word)) (nat_lt (digits_value 10 word) (2 ^ 64))
    (and_parts (are_digits word) (nat_lt 0 (digits_value 10 word) && nat_lt (digits_value 10 word) (2 ^ 64)) t).1).1 in
    rw t (omega (arith, value)))
    (λ f. split (is_zero word) (λ t. rw (f, t) (omega arith)) (λ g. rw (f, g) (omega arith)))

size_fits : (line : List ℕ) (o : Option ℕ) → 1 + option_map_or (λ size. size - 1) (size_before line o) 0 < 2 ^ 64
size_fits line None = omega arith
size_fits line (Some i) = word_fits (take i line)

greatest_of_fits : (lines : List (List ℕ)) → 1 + greatest_of weight_of_line lines < 2 ^ 64
greatest_of_fits [] = omega arith
greatest_of_fits (l ∷ ls) =
    split (nat_lt (greatest_of weight_of_line ls) (weight_of_line l))
    (λ t. rw t (size_fits l (position (λ b. b == 32) l)))
    (λ f. rw f (greatest_of_fits ls))

-- the greatest weight is that of a part, and does not hang on the order
abbrev greatest : List (List ℕ) → ℕ
greatest lines = greatest_of weight_of_line lines

greatest_one : (l : List ℕ) (ls : List (List ℕ)) → greatest (l ∷ ls) ≡ max (weight_of_line l) (greatest ls)
greatest_one l ls =
    split (nat_lt (greatest ls) (weight_of_line l))
    (λ t. rw t (omega (arith, ltb-true (greatest ls) (weight_of_line l) t)))
    (λ f. rw f (omega (arith, ltb-false (greatest ls) (weight_of_line l) f)))

greatest_push : (ls : List (List ℕ)) (l : List ℕ) → greatest (ls ++ l ∷ []) ≡ max (weight_of_line l) (greatest ls)
greatest_push [] l = greatest_one l []
greatest_push (m ∷ ls) l = omega (arith, greatest_one m (ls ++ l ∷ []), greatest_push ls l, greatest_one m ls)

greatest_reversed : (ls : List (List ℕ)) → greatest (reverse ls) ≡ greatest ls
greatest_reversed [] = refl
greatest_reversed (l ∷ ls) =
    ap greatest (reverse-append (l ∷ []) ls) ∙ omega (arith, greatest_push (reverse ls) l, greatest_reversed ls, greatest_one l ls)

-- one of the lines that pass weighs no more
among : (test : List ℕ → Bool) (lines : List (List ℕ)) (k : ℕ) (d : List ℕ) → k < length lines → test (get_or lines k d) ≡ true
    → weight_of_line (get_or lines k d) ≤ greatest (filter test lines)
among test [] k d low passes = absurd (omega (arith, low))
among test (l ∷ ls) zero d low passes = rw passes (omega (arith, greatest_one l (filter test ls)))
among test (l ∷ ls) (suc k) d low passes =
    let ih = among test ls k d (omega (arith, low)) passes in
    split (test l)
    (λ t. rw t (omega (arith, ih, greatest_one l (filter test ls))))
    (λ f. rw f ih)

pub none_greater : (lines : List (List ℕ)) (line : List ℕ) → Contains lines line
    → 1 + weight_of_line line ≤ greatest_of_key lines (tail_of_line line)
none_greater lines line in_lines =
    let test = λ (l : List ℕ). bytes_eq (tail_of_line line) (tail_of_line l) in
    let at : get_or lines in_lines.0 line ≡ line = in_lines.2 in
    let own : test (get_or lines in_lines.0 line) ≡ true =
    ap test at ∙ (bytes_eq-Decides (tail_of_line line) (tail_of_line line)).1 refl in
    omega (arith, among test lines in_lines.0 line in_lines.1 own, ap weight_of_line at, greatest_reversed (filter test lines))

-- the greatest weight of those that pass, if it is more than 0, is that of one of them
one_has_it : (test : List ℕ → Bool) (lines : List (List ℕ)) → 0 < greatest (filter test lines)
    → (one : List ℕ) × Contains lines one × (test one ≡ true) × (greatest (filter test lines) ≡ weight_of_line one)
one_has_it test [] some = absurd (omega (arith, some))
one_has_it test (l ∷ ls) some =
    let behind : greatest (filter test (l ∷ ls)) ≡ greatest (filter test ls) → (one : List ℕ) × Contains (l ∷ ls) one × (test one ≡ true)
    × (greatest (filter test (l ∷ ls)) ≡ weight_of_line one) = λ same.
    let ih = one_has_it test ls (subst (λ n. 0 < n) same some) in
    (ih.0, (suc ih.1.0, omega (arith, ih.1.1), ih.1.2), ih.2, same ∙ ih.3) in
    split (test l)
    (λ t. split (nat_lt (greatest (filter test ls)) (weight_of_line l))
    (λ more. (l, (0, omega arith, refl), t, rw (t, more) refl))
    (λ less. behind (rw (t, less) refl)))
    (λ f. behind (rw f refl))

pub greatest_of_one : (lines : List (List ℕ)) (line : List ℕ) → Contains lines line → IsSizeOfOne lines line
greatest_of_one lines line in_lines =
    let test = λ (l : List ℕ). bytes_eq (tail_of_line line) (tail_of_line l) in
    let at : get_or lines in_lines.0 line ≡ line = in_lines.2 in
    let own : test (get_or lines in_lines.0 line) ≡ true =
    ap test at ∙ (bytes_eq-Decides (tail_of_line line) (tail_of_line line)).1 refl in
    let low = among test lines in_lines.0 line in_lines.1 own in
    split (nat_lt 0 (greatest (filter test lines)))
    (λ t. let found = one_has_it test lines (ltb-true 0 (greatest (filter test lines)) t) in
    record {
      one = found.0;
      inside = found.1;
      same_key = sym ((bytes_eq-Decides (tail_of_line line) (tail_of_line found.0)).0 found.2);
      size = omega (arith, found.3, greatest_reversed (filter test lines));
    })
    (λ f. record {
      one = line;
      inside = in_lines;
      same_key = refl;
      size = omega (arith, ltb-false 0 (greatest (filter test lines)) f, low, ap weight_of_line at, greatest_reversed (filter test lines));
    })

module _ (lines : List (List ℕ)) (line : List ℕ) (sizes : HaveSizes lines) (in_lines : Contains lines line) where
  has_size : IsSome (size_of_line line)
  has_size = subst (λ l. IsSome (size_of_line l)) in_lines.2 (sizes in_lines.0 line in_lines.1)

  abbrev tail : List ℕ
  tail = tail_of_line line

  abbrev size : ℕ
  size = greatest_of_key lines tail

  -- what stands behind the digits
  behind : (rest : List ℕ) × (tail ≡ 32 ∷ rest)
  behind = tail_is line has_size

  fits : size < 2 ^ 64
  fits = greatest_of_fits (reverse (filter (λ l. bytes_eq tail (tail_of_line l)) lines))

  blank_at : position (λ b. b == 32) (with_greatest lines line) ≡ Some (length (decimal size))
  blank_at = ap (λ t. position (λ b. b == 32) (decimal size ++ t)) behind.1 ∙ blank_behind (decimal size) behind.0 (digits_all size fits)

  pub size_is : size_of_line (with_greatest lines line) ≡ Some size
  size_is = ap (size_before (with_greatest lines line)) blank_at
      ∙ ap size_in (take-append_seam (decimal size) tail) ∙ read_again size (omega arith) fits

  pub key_is : tail_of_line (with_greatest lines line) ≡ tail
  key_is = ap (tail_from (with_greatest lines line)) blank_at ∙ drop-append_seam (decimal size) tail
