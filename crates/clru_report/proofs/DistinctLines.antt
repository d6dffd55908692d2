-- The distinct lines that a map holds, in the order of their first or of their latest requests, as bytes.
use Rattle.std.proofs.Common.{◌≡◌, ℕ, ◌+◌, ◌≤◌, List, [], ◌∷◌, ◌++◌, Some, length, reverse, take, sym, ap, ◌∙◌, append_assoc}
use Rattle.std.proofs.lemmas.List.{map-append, take_all, take_more}
use Rattle.std.proofs.lemmas.Option.{get_or_from_slice_get, slice_get_within}
use Rattle.std.specs.Cmp.Lexicographic.{nat_list_eq_equiv}
use Rattle.std.specs.List.{slice_get}
use Rattle.std.specs.Map.{keys_of}
use Rattle.std.specs.Prelude.{bytes_eq}
use Rattle.clru_model.proofs.Parts.{reverse-lasts}
use Rattle.clru_model.proofs.Views.{map-reverse}
use Rattle.clru_model.specs.Parts.{firsts, lasts}
use Rattle.clru_text.proofs.Texts.{bytes_of-append}
use Rattle.clru_text.specs.Texts.{bytes_of}

-- one more line is written
pub line_written : (es : List (List ℕ × ℕ)) (i : ℕ) (e : List ℕ × ℕ) (text : List ℕ) → slice_get es i ≡ Some e → text ≡ bytes_of (keys_of (take i es))
    → text ++ e.0 ++ 10 ∷ [] ≡ bytes_of (keys_of (take (i + 1) es))
line_written es i e text there is =
    let more : take (i + 1) es ≡ take i es ++ e ∷ [] =
    take_more es i e (slice_get_within es i e there) ∙ ap (λ d. take i es ++ d ∷ []) (get_or_from_slice_get es i e e there) in
    ap (λ t. t ++ e.0 ++ 10 ∷ []) is
    ∙ append_assoc (bytes_of (keys_of (take i es))) e.0 (10 ∷ [])
    ∙ sym (ap (λ l. bytes_of (keys_of l)) more ∙ ap bytes_of (map-append (λ (d : List ℕ × ℕ). d.0) (take i es) (e ∷ []))
    ∙ bytes_of-append (keys_of (take i es)) (e.0 ∷ []))

pub all_written : (es : List (List ℕ × ℕ)) (n : ℕ) → length es ≤ n → bytes_of (keys_of (take n es)) ≡ bytes_of (keys_of es)
all_written es n long = ap (λ l. bytes_of (keys_of l)) (take_all n es long)

-- entries in the order of their insertion have the first requests
pub first_lines : (lines : List (List ℕ)) (es : List (List ℕ × ℕ)) → keys_of es ≡ lasts bytes_eq lines → keys_of (reverse es) ≡ firsts bytes_eq (reverse lines)
first_lines lines es keys =
    map-reverse (λ (d : List ℕ × ℕ). d.0) es ∙ ap reverse keys ∙ reverse-lasts bytes_eq nat_list_eq_equiv lines
