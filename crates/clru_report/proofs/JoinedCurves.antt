-- What is known of two lists of lines in a row.
use Rattle.std.proofs.Common.{◌≡◌, ℕ, ◌+◌, ◌-◌, ◌^◌, ◌<◌, ◌≤◌, List, ◌++◌, length, reverse, get_or, sym, ap, ◌∙◌, inl, inr, arith, length-append}
use Rattle.std.proofs.lemmas.List.{get_or_past, reverse-reverse}
use Rattle.std.proofs.lemmas.List.FromFn.{get_or-map-range_with_len, length-map-range_with_len}
use Rattle.std.proofs.lemmas.Bool.{cases_lt, or_left}
use Rattle.std.specs.Cmp.Lexicographic.{nat_list_eq_equiv}
use Rattle.std.specs.Prelude.{bytes_eq}
use Rattle.clru_model.proofs.Bounds.{distinct_miss, no_more_miss}
use Rattle.clru_model.proofs.Distances.{misses-room}
use Rattle.clru_model.proofs.PartKinds.{parts_miss}
use Rattle.clru_model.proofs.Parts.{distinct_joined}
use Rattle.clru_model.proofs.Distinct.{distinct_mono, holds-append}
use Rattle.clru_model.proofs.Positions.{holds-reverse}
use Rattle.clru_model.specs.Parts.{firsts, lasts}
use Rattle.clru_model.specs.Requests.{distinct, holds, misses}
use Rattle.clru_report.specs.JoinedCurves.{joined_at, joined_up_to}
use Rattle.clru_report.specs.Parts.{HasCurve}

module _ (lines more : List (List ℕ)) (one between two : List ℕ) (first : HasCurve lines one)
    (middle : HasCurve (lasts bytes_eq lines ++ firsts bytes_eq more) between) (second : HasCurve more two)
    (few : length lines + length more < 2 ^ 64) where
  -- the sum that is computed is the number of misses
  joined-is : (k : ℕ) → 0 < k → joined_at one between two k ≡ misses bytes_eq k (lines ++ more)
  joined-is k some =
      let law = parts_miss bytes_eq nat_list_eq_equiv k lines more in
      let held = distinct_joined bytes_eq nat_list_eq_equiv lines more in
      let fewer : distinct bytes_eq (reverse lines) ≤ distinct bytes_eq (reverse (lines ++ more)) =
      distinct_mono bytes_eq nat_list_eq_equiv (reverse lines) (reverse (lines ++ more))
      (λ z h. holds-reverse bytes_eq z (lines ++ more) ∙ holds-append bytes_eq z lines more
      ∙ or_left (holds bytes_eq z lines) (holds bytes_eq z more) (sym (holds-reverse bytes_eq z lines) ∙ h)) in
      omega (
        arith,
        law,
        held,
        fewer,
        first.misses k some,
        middle.misses k some,
        second.misses k some,
        first.distinct_lines,
        second.distinct_lines,
        distinct_miss bytes_eq k (lasts bytes_eq lines ++ firsts bytes_eq more),
        distinct_miss bytes_eq k more,
        no_more_miss bytes_eq k (lines ++ more),
        length-append lines more,
        few,
      )

  pub joined : HasCurve (lines ++ more) (joined_up_to one between two (length between))
  joined =
      let both = lines ++ more in let f : ℕ → ℕ = λ i. joined_at one between two (i + 1) in
      let curve = joined_up_to one between two (length between) in
      let long : length curve ≡ length between = length-map-range_with_len f 0 (length between) in
      let keys : length curve ≡ distinct bytes_eq (reverse both) = long ∙ middle.distinct_lines ∙ distinct_joined bytes_eq nat_list_eq_equiv lines more in
      let room : (k : ℕ) → length curve ≤ k → misses bytes_eq k both ≡ length curve =
      λ k le. let past = reverse both in
      ap (misses bytes_eq k) (sym (reverse-reverse both)) ∙ misses-room bytes_eq nat_list_eq_equiv k past (omega (arith, keys, le)) ∙ sym keys in
      let here : (k : ℕ) → 0 < k → k ≤ length curve → (d : ℕ) → get_or curve (k - 1) d ≡ misses bytes_eq k both =
      λ k some le d. let i : k - 1 + 1 ≡ k = omega arith in
      get_or-map-range_with_len f 0 (length between) (k - 1) (k - 1) d (omega (arith, le, long, some)) (omega arith)
      ∙ ap (joined_at one between two) i ∙ joined-is k some in
      let last : get_or curve (length curve - 1) 0 ≡ length curve =
      elim (cases_lt 0 (length curve)) [
        | inl some ↦ here (length curve) some (omega arith) 0 ∙ room (length curve) (omega arith)
        | inr none ↦ get_or_past curve (length curve - 1) 0 (omega (arith, none)) ∙ omega (arith, none)
      ] in
      record {
        misses = λ k some.
            elim (cases_lt (k - 1) (length curve)) [
              | inl inside ↦ here k some (omega (arith, inside, some)) (get_or curve (length curve - 1) 0)
              | inr past ↦ get_or_past curve (k - 1) (get_or curve (length curve - 1) 0) past ∙ last ∙ sym (room k (omega (arith, past)))
            ];
        distinct_lines = keys;
      }
