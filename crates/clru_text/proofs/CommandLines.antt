-- How the arguments of a command line are read.
use Rattle.std.proofs.Common.{◌≡◌, ℕ, ◌+◌, ◌<◌, ◌≤◌, Bool, false, List, [], ◌∷◌, ◌++◌, Option, None, Some, map, take, drop, length, get_or, take_all, drop-cons, add-one, length-append, append_assoc, refl, sym, ap, ◌∙◌, rules, arith, lit<}
use Rattle.std.specs.Prelude.{◌==◌}
use denote.Ref.{Bor}
use Rattle.std.proofs.Math.ListN.{set}
use Rattle.std.proofs.Math.Seq.{get_or-append_seam}
use Rattle.std.proofs.lemmas.List.{append-nil, drop_all, get_or-map, length-map, length-take-le, map-append, map-set, set_at, take_more}
use Rattle.std.proofs.lemmas.List.Splits.{slice_split_first, slice_split_none}
use Rattle.std.proofs.lemmas.List.Sums.{fails_before_first}
use Rattle.std.proofs.lemmas.Str.Pattern.{IsSplitOnceResult, split_once_first}
use Rattle.std.specs.List.{after_first, before_first, position_or_len, slice_split}
use Rattle.std.specs.Option.{option_and_then}
use Rattle.clru_text.specs.CommandLine.{Asked, Reading, go_on, numbers_and, read_word, read_words}
use Rattle.clru_text.specs.Numbers.{number_in}
use Rattle.clru_text.specs.declared.arguments.Value.{Value}

abbrev is_comma : ℕ → Bool
is_comma b = b == 44

-- a list without a comma is one part
one_part : (bs : List ℕ) → position_or_len is_comma bs ≡ length bs → slice_split is_comma bs ≡ bs ∷ []
one_part bs all =
    let fails : (k d : ℕ) → k < length bs → is_comma (get_or bs k d) ≡ false =
    λ k d l. fails_before_first is_comma bs k d (omega (arith, all)) in
    slice_split_none is_comma bs (search (rules, fails))

-- else the first part stands before the first comma, and the others behind it
first_part : (bs part rest : List ℕ) → position_or_len is_comma bs < length bs → part ≡ before_first is_comma bs
    → rest ≡ after_first is_comma bs → slice_split is_comma bs ≡ part ∷ slice_split is_comma rest
first_part bs part rest within is left = rw (is, left) (slice_split_first is_comma bs 0 within)

-- what `split_once` at a comma says of the parts
pub cut_some : (bs : List ℕ) (x : Bor (List ℕ) × Bor (List ℕ)) → IsSplitOnceResult 44 bs (Some x)
    → slice_split is_comma bs ≡ x.0.now ∷ slice_split is_comma x.1.now
cut_some bs x h =
    let cut = split_once_first 44 bs (Some x) h (lit< tt) in first_part bs x.0.now x.1.now cut.0 cut.1 cut.2

pub cut_none : (bs : List ℕ) → IsSplitOnceResult 44 bs None → slice_split is_comma bs ≡ bs ∷ []
cut_none bs h = one_part bs (split_once_first 44 bs None h (lit< tt))

-- what one part adds, it adds before the others
pub first_number : (ns ms part : List ℕ) (parts : List (List ℕ)) → numbers_and ns (part ∷ []) ≡ Some ms
    → numbers_and ns (part ∷ parts) ≡ numbers_and ms parts
first_number ns ms part parts h = step (number_in part) h
  where
    step : (o : Option ℕ) → option_and_then (λ n. Some (ns ++ n ∷ [])) o ≡ Some ms
        → option_and_then (λ n. numbers_and (ns ++ n ∷ []) parts) o ≡ numbers_and ms parts
    step None h = absurd (search rules)
    step (Some n) h = ap (λ o. option_and_then (λ k. numbers_and k parts) o) h

pub no_number : (ns part : List ℕ) (parts : List (List ℕ)) → numbers_and ns (part ∷ []) ≡ None
    → numbers_and ns (part ∷ parts) ≡ None
no_number ns part parts h = step (number_in part) h
  where
    step : (o : Option ℕ) → option_and_then (λ n. Some (ns ++ n ∷ [])) o ≡ None
        → option_and_then (λ n. numbers_and (ns ++ n ∷ []) parts) o ≡ None
    step None h = refl
    step (Some n) h = absurd (search rules)

-- one more element of a list has p done to it, as its number tells
pub one_more : {X : Type 0} (f : X → ℕ) (p : ℕ → ℕ) (xs : List ℕ) (now : List X) (i : ℕ) (v d : X) → i < length xs
    → map f now ≡ map p (take i xs) ++ drop i xs → f v ≡ p (f (get_or now i d))
    → map f (set now i v) ≡ map p (take (i + 1) xs) ++ drop (i + 1) xs
one_more f p xs now i v d within so is =
    let y = get_or xs i 0 in
    let front = map p (take i xs) in
    let rest : drop i xs ≡ y ∷ drop (i + 1) xs = rw add-one (drop-cons xs i 0 within) in
    let all : map f now ≡ front ++ y ∷ drop (i + 1) xs = so ∙ ap (λ l. front ++ l) rest in
    let count : length front ≡ i = length-map (take i xs) p ∙ length-take-le i xs (omega arith) in
    let read : get_or (map f now) i 0 ≡ y =
    rw all (ap (λ n. get_or (front ++ y ∷ drop (i + 1) xs) n 0) (sym count) ∙ get_or-append_seam front y (drop (i + 1) xs) 0) in
    let inside : i < length now = omega (arith, sym (length-map now f) ∙ ap length all, length-append front (y ∷ drop (i + 1) xs), count) in
    let same : f v ≡ p y = is ∙ ap p (sym (get_or-map f now i d 0 inside) ∙ read) in
    let more : map p (take (i + 1) xs) ≡ front ++ p y ∷ [] = ap (map p) (take_more xs i 0 within) ∙ map-append p (take i xs) (y ∷ []) in
    map-set f now i v ∙ ap (λ l. set l i (f v)) all ∙ set_at front y (drop (i + 1) xs) (f v) i count
    ∙ ap (λ n. front ++ n ∷ drop (i + 1) xs) same
    ∙ sym (append_assoc front (p y ∷ []) (drop (i + 1) xs)) ∙ ap (λ l. l ++ drop (i + 1) xs) (sym more)

-- after the last one it is done to all
pub all_done : (p : ℕ → ℕ) (xs ys : List ℕ) (i : ℕ) → length xs ≤ i → ys ≡ map p (take i xs) ++ drop i xs → ys ≡ map p xs
all_done p xs ys i past so =
    so ∙ ap (λ l. map p l ++ drop i xs) (take_all i xs past) ∙ ap (λ l. map p xs ++ l) (drop_all i xs past) ∙ append-nil (map p xs)

-- the next word is read before those behind it
pub next_word : {S : Type 0} (text : S → List ℕ) (words : List S) (i : ℕ) (item : S) (word : List ℕ) (next : Option Value)
    (asked : Asked) (whole after : Reading) → i < length words → item ≡ get_or words i item → word ≡ text item
    → whole ≡ read_words (drop i (map text words)) next asked → read_word next word asked ≡ after
    → whole ≡ go_on (read_words (drop (i + 1) (map text words))) after
next_word text words i item word next asked whole after within is shown so leads =
    let all = map text words in
    let first : get_or all i [] ≡ word = get_or-map text words i item [] within ∙ sym (ap text is) ∙ sym shown in
    let cut : drop i all ≡ get_or all i [] ∷ drop (i + 1) all =
    rw add-one (drop-cons all i [] (omega (arith, within, length-map words text))) in
    so ∙ ap (λ l. read_words l next asked) cut
    ∙ ap (λ w. go_on (read_words (drop (i + 1) all)) (read_word next w asked)) first
    ∙ ap (go_on (read_words (drop (i + 1) all))) leads
