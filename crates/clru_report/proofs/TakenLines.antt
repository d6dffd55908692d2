-- What a pass knows that has taken lines: one more line, and the curve.
use Rattle.std.proofs.Common.{◌≡◌, Bool, ℕ, ◌+◌, List, None, [], ◌∷◌, ◌++◌, IsNone, is_some, IsSome, Option, map, length, reverse, take, Some, refl, sym, ap, ◌∙◌, subst}
use Rattle.std.specs.Prelude.{bytes_eq, IsSomeAnd}
use Rattle.std.specs.List.{slice_get}
use Rattle.std.proofs.lemmas.Grind.{reverse_onto}
use Rattle.std.proofs.lemmas.List.{map-append, reverse-reverse}
use Rattle.std.proofs.lemmas.List.Elements.{All-push}
use Rattle.clru_curve.specs.SizedCurves.{CurveBySize, IsSizedCurveOf}
use Rattle.clru_curve.specs.Curves.{HasMissesOf}
use Rattle.clru_curve.proofs.SizeViews.{curve-view}
use Rattle.clru_least.specs.Reuses.{Reused}
use Rattle.clru_model.proofs.Views.{distinct-map, map-reverse, misses-map}
use Rattle.clru_model.specs.Requests.{distinct}
use Rattle.clru_text.specs.Keys.{line_of, same_line}
use Rattle.clru_text.specs.Sizes.{HaveSizes, size_of_line, weight_of_line}
use Rattle.clru_text.specs.declared.lines.OwnedKey.{OwnedKey}
use Rattle.clru_report.specs.LinePasses.{HasTakenFor, HasTakenLines, IsLinePass}
use Rattle.clru_report.specs.Passes.{HasFloorPass, HasForesight, IsForeseenFor, weight_of_key}
use Rattle.clru_report.specs.Refusals.{IsFirstWithout}
use Rattle.clru_report.specs.SizedLinePasses.{HasTaken, IsSizedLinePass}
use Rattle.clru_report.specs.declared.line_pass.LinePass.{LinePass}
use Rattle.clru_report.specs.declared.sized.line_pass.SizedLinePass.{SizedLinePass}

-- one more key shows one more line
one_more : {A : Type 0} (lines : List (List ℕ)) (past : List (OwnedKey A)) (key : OwnedKey A)
    → map line_of (reverse past) ≡ lines → map line_of (reverse (key ∷ past)) ≡ lines ++ line_of key ∷ []
one_more lines past key shown =
    ap (map line_of) (reverse_onto past key []) ∙ map-append line_of (reverse past) (key ∷ []) ∙ ap (λ ls. ls ++ line_of key ∷ []) shown

-- what is there was asked for
pub asked_foresight : {A : Type 0} (least : Bool) (past : List (OwnedKey A)) (later : Option (List ℕ)) → HasForesight least past later
    → is_some later ≡ least
asked_foresight least past None h = sym h
asked_foresight least past (Some later) h = sym h.0

pub asked_floor : {A : Type 0} (w : List ℕ → ℕ) (floored : Bool) (past : List (OwnedKey A)) (reused : Option Reused)
    → HasFloorPass w floored past reused → is_some reused ≡ floored
asked_floor w floored past None h = sym h
asked_floor w floored past (Some reused) h = sym h.0

-- what is asked for beside the pass took these lines
module _ {A : Type 0} (lines : List (List ℕ)) (past : List (OwnedKey A)) (shown : map line_of (reverse past) ≡ lines) where
  foreseen_by : (least : Bool) (later : Option (List ℕ)) → HasForesight least past later → IsForeseenFor A least lines later
  foreseen_by least None h = h
  foreseen_by least (Some later) h = (h.0, record { past = past; shown = shown; taken = h.1 })

module _ {S A H : Type 0} (least floored : Bool) (lines : List (List ℕ)) (pass : LinePass S A H) (later : Option (List ℕ))
    (reused : Option Reused) (all : HasTakenFor least floored lines pass later reused) where
  -- one more line
  pub one_taken : (key : OwnedKey A) (next : LinePass S A H) (after : Option (List ℕ)) (more : Option Reused)
      → IsLinePass (key ∷ all.past) next → HasForesight least (key ∷ all.past) after → HasFloorPass (λ _. 0) floored (key ∷ all.past) more
      → HasTakenFor least floored (lines ++ line_of key ∷ []) next after more
  one_taken key next after more taken foreseen noted = record {
    past = key ∷ all.past;
    shown = one_more lines all.past key all.shown;
    taken = taken;
    foreseen = foreseen;
    floored = noted;
  }

  pub taken_for : HasTakenLines lines pass
  taken_for = record { past = all.past; shown = all.shown; taken = all.taken }

  pub foreseen_for : IsForeseenFor A least lines later
  foreseen_for = foreseen_by lines all.past all.shown least later all.foreseen

module _ {S A H : Type 0} (lines : List (List ℕ)) (pass : LinePass S A H) (taken : HasTakenLines lines pass) where
  -- one more line
  pub line_taken : (key : OwnedKey A) (next : LinePass S A H) → IsLinePass (key ∷ taken.past) next → HasTakenLines (lines ++ line_of key ∷ []) next
  line_taken key next one = record {
    past = key ∷ taken.past;
    shown = one_more lines taken.past key taken.shown;
    taken = one;
  }

  module _ (curve : List ℕ) where
    pub misses_taken : ((past : List (OwnedKey A)) → IsLinePass past pass → HasMissesOf same_line (reverse past) curve)
        → HasMissesOf bytes_eq lines curve
    misses_taken made =
        subst (λ ls. HasMissesOf bytes_eq ls curve) taken.shown
        (λ k some. made taken.past taken.taken k some ∙ sym (misses-map bytes_eq line_of k (reverse taken.past)))

    pub distinct_taken : ((past : List (OwnedKey A)) → IsLinePass past pass → length curve ≡ distinct same_line past)
        → length curve ≡ distinct bytes_eq (reverse lines)
    distinct_taken made =
        made taken.past taken.taken ∙ sym (distinct-map bytes_eq line_of taken.past)
        ∙ ap (distinct bytes_eq) (sym (reverse-reverse (map line_of taken.past))
        ∙ ap reverse (sym (map-reverse line_of taken.past) ∙ taken.shown))

module _ {S A H : Type 0} (floored : Bool) (lines : List (List ℕ)) (pass : SizedLinePass S A H) (reused : Option Reused)
    (taken : HasTaken floored lines pass reused) where
  -- one more line, which has a size
  pub taken_more : (key : OwnedKey A) (next : SizedLinePass S A H) (more : Option Reused) → IsSome (size_of_line (line_of key))
      → IsSizedLinePass (key ∷ taken.past) next → HasFloorPass weight_of_line floored (key ∷ taken.past) more
      → HasTaken floored (lines ++ line_of key ∷ []) next more
  taken_more key next more size one noted = record {
    past = key ∷ taken.past;
    shown = one_more lines taken.past key taken.shown;
    sizes = All-push (λ l. IsSome (size_of_line l)) lines (line_of key) taken.sizes size;
    taken = one;
    floored = noted;
  }

  pub curve_taken : (curve : CurveBySize)
      → ((past : List (OwnedKey A)) → IsSizedLinePass past pass → IsSizedCurveOf same_line weight_of_key (reverse past) curve)
      → IsSizedCurveOf bytes_eq weight_of_line lines curve
  curve_taken curve made =
      subst (λ ls. IsSizedCurveOf bytes_eq weight_of_line ls curve) taken.shown
      (curve-view bytes_eq weight_of_line line_of (reverse taken.past) curve (made taken.past taken.taken))

-- after lines with sizes the next is the first without
pub take_before : (lines rest : List (List ℕ)) → take (length lines) (lines ++ rest) ≡ lines
take_before [] rest = refl
take_before (l ∷ ls) rest = ap (λ xs. l ∷ xs) (take_before ls rest)

pub next_of : (lines rest : List (List ℕ)) (line : List ℕ) → slice_get (lines ++ line ∷ rest) (length lines) ≡ Some line
next_of [] rest line = refl
next_of (l ∷ ls) rest line = next_of ls rest line

pub first_without : (lines rest : List (List ℕ)) (line : List ℕ) (n : ℕ) → HaveSizes lines → n ≡ length lines + 1
    → IsNone (size_of_line line) → IsFirstWithout n (lines ++ line ∷ rest)
first_without lines rest line n sizes counted none = (
  length lines,
  counted,
  subst HaveSizes (sym (take_before lines (line ∷ rest))) sizes,
  subst (λ o. IsSomeAnd o (λ l. IsNone (size_of_line l))) (sym (next_of lines rest line)) none,
)
