-- The lines of the first requests of two lists.
use Rattle.std.proofs.Common.{◌≡◌, ℕ, List, [], ◌∷◌, ◌++◌, refl, sym, ap, ◌∙◌, append_assoc}
use Rattle.std.specs.Cmp.Lexicographic.{nat_list_eq_equiv}
use Rattle.std.specs.List.{AllByRecursion}
use Rattle.std.specs.Prelude.{bytes_eq}
use Rattle.clru_model.specs.Parts.{firsts}
use Rattle.clru_model.proofs.Parts.{all-append, all_firsts}
use Rattle.clru_text.proofs.Texts.{lines_of-bytes_of}
use Rattle.clru_text.specs.Lines.{lines_of}
use Rattle.clru_text.specs.LinesRead.{IsFree}
use Rattle.clru_text.specs.Texts.{bytes_of}
use Rattle.clru_joins.proofs.FirstsJoined.{firsts_joined}

bytes_of-append : (lines more : List (List ℕ)) → bytes_of (lines ++ more) ≡ bytes_of lines ++ bytes_of more
bytes_of-append [] more = refl
bytes_of-append (line ∷ lines) more =
    ap (λ l. line ++ 10 ∷ l) (bytes_of-append lines more) ∙ sym (append_assoc line (10 ∷ bytes_of lines) (bytes_of more))

pub firsts_of_both : (lines more : List (List ℕ)) → AllByRecursion IsFree lines → AllByRecursion IsFree more
    → firsts bytes_eq (lines_of (bytes_of (firsts bytes_eq lines) ++ bytes_of (firsts bytes_eq more))) ≡ firsts bytes_eq (lines ++ more)
firsts_of_both lines more free free' =
    let one = firsts bytes_eq lines in
    let two = firsts bytes_eq more in
    let all = all-append IsFree one two (all_firsts IsFree bytes_eq lines free) (all_firsts IsFree bytes_eq more free') in
    ap (λ l. firsts bytes_eq (lines_of l)) (sym (bytes_of-append one two))
    ∙ ap (firsts bytes_eq) (lines_of-bytes_of (one ++ two) all)
    ∙ firsts_joined bytes_eq nat_list_eq_equiv lines more
