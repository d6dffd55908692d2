-- Parts between tabs, and words between runs of blanks.
use Rattle.std.proofs.Common.{◌≡◌, ℕ, suc, ◌+◌, ◌-◌, ◌<◌, ◌≤◌, Bool, true, false, cond, not, List, [], ◌∷◌, None, Some, length, get_or, rules, take, drop, length-take, drop-cons, add-one, refl, sym, ap, ◌∙◌, arith}
use Rattle.std.specs.Prelude.{filter, position, slice_get}
use Rattle.std.specs.List.{slice_split, position_or_len}
use Rattle.std.proofs.lemmas.Bool.{lt-ltb}
use Rattle.std.proofs.lemmas.Bool.Decides.{nat_tests}
use Rattle.std.proofs.lemmas.List.{drop_all, length-drop, take_all}
use Rattle.std.proofs.lemmas.List.Quantifiers.{position-Some}
use Rattle.std.proofs.lemmas.List.Sums.{fails_before_first, position_or_len_is}
use Rattle.std.proofs.lemmas.List.Splits.{slice_split-cons_yes, slice_split_first, slice_split_none}
use Rattle.clru_log.proofs.LineLemmas.{position-is}
use Rattle.clru_log.specs.Columns.{has_bytes, is_blank, words}

module _ (p : ℕ → Bool) where
  -- the first mark ends the first part
  pub split-at : (bytes : List ℕ) (at : ℕ) → position p bytes ≡ Some at
      → slice_split p bytes ≡ take at bytes ∷ slice_split p (drop (at + 1) bytes)
  split-at bytes at h =
      let found = position-Some p bytes at 0 h in
      let first = position_or_len_is p bytes at 0 (omega arith) found.2 (λ _. found.1) in
      slice_split_first p bytes 0 (omega (arith, first, found.0))
      ∙ ap (λ n. take n bytes ∷ slice_split p (drop (n + 1) bytes)) first

  -- without a mark all is one part
  pub split-none : (bytes : List ℕ) → position p bytes ≡ None → slice_split p bytes ≡ bytes ∷ []
  split-none bytes h =
      let late : length bytes ≤ position_or_len p bytes = grind (arith, nat_tests) in
      let fails : (k d : ℕ) → k < length bytes → p (get_or bytes k d) ≡ false = λ k d l. fails_before_first p bytes k d (omega arith) in
      slice_split_none p bytes (search (rules, fails))

-- a blank in front begins no word
words-blank : (b : ℕ) (bytes : List ℕ) → is_blank b ≡ true → words (b ∷ bytes) ≡ words bytes
words-blank b bytes h = ap (filter has_bytes) (slice_split-cons_yes is_blank b bytes h)

abbrev pub other : ℕ → Bool
other b = not (is_blank b)

-- and so do more of them
pub words-skip : (bytes : List ℕ) → words (drop (position_or_len other bytes) bytes) ≡ words bytes
words-skip [] = refl
words-skip (b ∷ bytes) = step (is_blank b) refl (words-skip bytes)
  where
    step : (t : Bool) → is_blank b ≡ t → words (drop (position_or_len other bytes) bytes) ≡ words bytes
        → words (drop (cond (not (not t)) (1 + position_or_len other bytes) 0) (b ∷ bytes)) ≡ words (b ∷ bytes)
    step true e more =
        let next : 1 + position_or_len other bytes ≡ suc (position_or_len other bytes) = omega arith in
        ap (λ n. words (drop n (b ∷ bytes))) next ∙ more ∙ sym (words-blank b bytes e)
    step false e more = refl

-- up to the first byte of a word
pub words-start : (bytes : List ℕ) (at : ℕ) → position other bytes ≡ Some at → words bytes ≡ words (drop at bytes)
words-start bytes at h =
    let here : position_or_len other bytes ≡ at = grind (arith, nat_tests) in
    sym (ap (λ n. words (drop n bytes)) (sym here) ∙ words-skip bytes)

-- blanks alone have no word
pub words-none : (bytes : List ℕ) → position other bytes ≡ None → words bytes ≡ []
words-none bytes h =
    let late : length bytes ≤ position_or_len other bytes = grind (arith, nat_tests) in
    sym (words-skip bytes) ∙ ap words (drop_all (position_or_len other bytes) bytes late)

-- what has bytes stays
words-keeps : (word : List ℕ) (rest : List (List ℕ)) → 0 < length word → filter has_bytes (word ∷ rest) ≡ word ∷ filter has_bytes rest
words-keeps word rest some = rw (lt-ltb 0 (length word) some) refl

-- a blank ends a word
pub words-word : (bytes : List ℕ) (at : ℕ) → position other bytes ≡ Some 0 → position is_blank bytes ≡ Some at
    → words bytes ≡ take at bytes ∷ words (drop at bytes)
words-word bytes at start h =
    let first = position-Some other bytes 0 0 start in let blank = position-Some is_blank bytes at 0 h in
    let some : 0 < at = grind (arith, nat_tests, first.1, blank.1) in
    let rest = drop (at + 1) bytes in let mark = get_or bytes at 0 in
    let whole : drop at bytes ≡ mark ∷ rest = rw add-one (drop-cons bytes at 0 blank.0) in
    ap (filter has_bytes) (split-at is_blank bytes at h)
    ∙ words-keeps (take at bytes) (slice_split is_blank rest) (omega (arith, some, blank.0, length-take at bytes))
    ∙ ap (λ l. take at bytes ∷ l) (sym (words-blank mark rest blank.1) ∙ ap words (sym whole))

-- without a blank all is one word
pub words-last : (bytes : List ℕ) → 0 < length bytes → position is_blank bytes ≡ None → words bytes ≡ bytes ∷ []
words-last bytes some h = ap (filter has_bytes) (split-none is_blank bytes h) ∙ words-keeps bytes [] some

-- what has no blank is one word at most
pub words-no_blank : (bytes : List ℕ) → position is_blank bytes ≡ None → (n : ℕ) → slice_get (words bytes) (suc n) ≡ None
words-no_blank [] h n = refl
words-no_blank (b ∷ bytes) h n = ap (λ ws. slice_get ws (suc n)) (words-last (b ∷ bytes) (omega arith) h)

-- the byte that was found comes first behind those before it
pub position-drop : (bytes : List ℕ) (at : ℕ) → position other bytes ≡ Some at → position other (drop at bytes) ≡ Some 0
position-drop bytes at h =
    let found = position-Some other bytes at 0 h in
    let mark = get_or bytes at 0 in let rest = drop (at + 1) bytes in
    let whole : drop at bytes ≡ mark ∷ rest = rw add-one (drop-cons bytes at 0 found.0) in
    let first : position_or_len other (mark ∷ rest) ≡ 0 = ap (λ t. cond (not t) (1 + position_or_len other rest) 0) found.1 in
    ap (position other) whole ∙ position-is other (mark ∷ rest) 0 first (omega arith)

-- all behind so many bytes
pub whole_rest : (n : ℕ) (bytes : List ℕ) → take (length bytes - n) (drop n bytes) ≡ drop n bytes
whole_rest n bytes = take_all (length bytes - n) (drop n bytes) (omega (arith, length-drop n bytes))

-- a place is one behind another
pub next_place : (n i : ℕ) → i < n → n - i ≡ suc (n - (i + 1))
next_place n i h = omega arith
