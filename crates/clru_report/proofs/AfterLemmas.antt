-- The curves of all lines and of the first ones, and what the first ones leave.
use Rattle.std.proofs.Common.{◌≡◌, ◌≢◌, ℕ, ◌+◌, ◌-◌, ◌<◌, ◌≤◌, true, false, nat_lt, Option, None, Some, List, [], ◌∷◌, ◌++◌, length, get_or, map, reverse, take, drop, inl, inr, sym, ap, subst, ◌∙◌, zero-add, arith}
use Rattle.std.specs.List.{All, range_with_len}
use Rattle.std.specs.Prelude.{bytes_eq}
use Rattle.std.proofs.lemmas.Bool.{cases_lt, or_right}
use Rattle.std.proofs.lemmas.List.{get_or_past, length-append, map-append, reverse-append, reverse-reverse, take-append-drop, take-append-le}
use Rattle.std.proofs.lemmas.List.FromFn.{get_or-map-range_with_len, length-map-range_with_len}
use Rattle.std.proofs.lemmas.List.Elements.{All-push}
use Rattle.std.proofs.Math.Seq.{take-append_seam}
use Rattle.clru_curve.specs.Curves.{HasMissesOf, misses_at}
use Rattle.clru_model.proofs.Distances.{misses-room}
use Rattle.clru_model.proofs.Distinct.{distinct_mono, holds-append}
use Rattle.clru_model.specs.Requests.{distinct, holds, misses}
use Rattle.clru_text.specs.Choices.{is_summary}
use Rattle.clru_text.specs.Lines.{lines_of}
use Rattle.clru_text.specs.declared.options.Form.{Form}
use Rattle.clru_text.specs.declared.options.Form.TheVariants.{Table, Json, Picture, Summary}
use Rattle.clru_text.specs.declared.options.Options.{Options}
use Rattle.clru_text.proofs.ByteLemmas.{bytes_laws}
use Rattle.clru_report.specs.After.{AreCounted, AreRowsBehind, IsInFormAfter, IsRowBehind, counted, misses_behind}
use Rattle.clru_report.specs.AfterPasses.{IsCurveOfLines, IsHead}
use Rattle.clru_report.specs.Passes.{IsTextByKeys}
use Rattle.clru_report.specs.Tables.{capacity_of_row, table_text}
use Rattle.clru_report.specs.declared.text.Counts.{Counts}
use Rattle.clru_report.specs.declared.rows.Row.{Row}

-- the first lines stay the same where one more line follows
pub head_more : (n : ℕ) (lines : List (List ℕ)) (line : List ℕ) (head : Option (List ℕ)) → length lines ≢ n → IsHead n lines head
    → IsHead n (lines ++ line ∷ []) head
head_more n lines line None other low = omega (arith, other, low, length-append lines (line ∷ []))
head_more n lines line (Some head) other is = (
  omega (arith, is.0, length-append lines (line ∷ [])),
  subst (λ ls. HasMissesOf bytes_eq ls head) (sym (take-append-le n lines (line ∷ []) (omega (arith, is.0)))) is.1,
)

-- so many lines are the first ones
pub head_now : (n : ℕ) (lines : List (List ℕ)) (line head : List ℕ) → length lines ≡ n → HasMissesOf bytes_eq lines head
    → IsHead n (lines ++ line ∷ []) (Some head)
head_now n lines line head is has = (
  omega (arith, is, length-append lines (line ∷ [])),
  subst (λ k. HasMissesOf bytes_eq (take k (lines ++ line ∷ [])) head) is
      (subst (λ ls. HasMissesOf bytes_eq ls head) (sym (take-append_seam lines (line ∷ []))) has),
)

-- what the head leaves at the capacity behind i
abbrev pub left_at : List ℕ → List ℕ → ℕ → ℕ
left_at curve head i = misses_at curve (i + 1) - misses_at head (i + 1)

module _ (n : ℕ) (lines : List (List ℕ)) where
  abbrev front : List (List ℕ)
  front = take n lines

  -- the first lines have no more distinct ones
  fewer_distinct : distinct bytes_eq (reverse front) ≤ distinct bytes_eq (reverse lines)
  fewer_distinct =
      let both : reverse lines ≡ reverse (drop n lines) ++ reverse front =
      ap reverse (sym (take-append-drop n lines)) ∙ reverse-append front (drop n lines) in
      distinct_mono bytes_eq bytes_laws (reverse front) (reverse lines) (λ z h.
      ap (holds bytes_eq z) both ∙ holds-append bytes_eq z (reverse (drop n lines)) (reverse front)
      ∙ or_right (holds bytes_eq z (reverse (drop n lines))) _ h)

  -- with room for all keys no capacity makes a difference
  at_room : (rs : List (List ℕ)) (c : ℕ) → distinct bytes_eq (reverse rs) ≤ c → misses bytes_eq c rs ≡ distinct bytes_eq (reverse rs)
  at_room rs c low = ap (misses bytes_eq c) (sym (reverse-reverse rs)) ∙ misses-room bytes_eq bytes_laws c (reverse rs) low

  room_same : (rs : List (List ℕ)) (j k : ℕ) → distinct bytes_eq (reverse rs) ≤ j → j ≤ k → misses bytes_eq k rs ≡ misses bytes_eq j rs
  room_same rs j k room more = at_room rs k (omega (arith, room, more)) ∙ sym (at_room rs j room)

  module _ (curve head : List ℕ) (whole : IsCurveOfLines lines curve) (before : HasMissesOf bytes_eq front head) where
    abbrev pub left : List ℕ
    left = map (left_at curve head) (range_with_len 0 (length curve))

    left_is : (i : ℕ) → left_at curve head i ≡ misses_behind n lines (i + 1)
    left_is i =
        ap (λ m. m - misses_at head (i + 1)) (whole.misses (i + 1) (omega arith))
        ∙ ap (λ m. misses bytes_eq (i + 1) lines - m) (before (i + 1) (omega arith))

    pub long : length left ≡ length curve
    long = length-map-range_with_len (left_at curve head) 0 (length curve)

    -- what is left at each capacity is what misses behind the first lines
    pub behind_is : (k : ℕ) → 0 < k → misses_at left k ≡ misses_behind n lines k
    behind_is k some = elim (cases_lt (k - 1) (length curve)) [
      | inl inside ↦
          get_or-map-range_with_len (left_at curve head) 0 (length curve) (k - 1) (k - 1) _ inside (zero-add (k - 1)) ∙ left_is (k - 1)
          ∙ ap (misses_behind n lines) (omega (arith, some))
      | inr past ↦
          get_or_past left (k - 1) _ (omega (arith, past, long))
          ∙ past_all past
    ]
      where
        past_all : length curve ≤ k - 1 → get_or left (length left - 1) 0 ≡ misses_behind n lines k
        past_all past = elim (cases_lt 0 (length curve)) [
          | inl keys ↦
              let l = length curve in
              let all = room_same lines l k (omega (arith, whole.distinct_keys)) (omega (arith, past)) in
              let first = room_same front l k (omega (arith, whole.distinct_keys, fewer_distinct)) (omega (arith, past)) in
              let end : get_or left (length left - 1) 0 ≡ left_at curve head (l - 1) =
              get_or-map-range_with_len (left_at curve head) 0 l (length left - 1) (l - 1) 0 (omega (arith, keys, long)) (omega (arith, long)) in
              let back : l - 1 + 1 ≡ l = omega (arith, keys) in
              end ∙ left_is (l - 1) ∙ ap (misses_behind n lines) back
              ∙ ap (λ m. m - misses bytes_eq l front) (sym all) ∙ ap (λ m. misses bytes_eq k lines - m) (sym first)
          | inr no_keys ↦
              let none : misses bytes_eq k lines ≡ 0 =
              at_room lines k (omega (arith, no_keys, whole.distinct_keys)) ∙ omega (arith, no_keys, whole.distinct_keys) in
              get_or_past left (length left - 1) 0 (omega (arith, no_keys, long)) ∙ omega (arith, none)
        ]

-- one more row
pub rows_more_behind : (n : ℕ) (lines : List (List ℕ)) (chosen more : List ℕ) (rows next : List Row) (row : Row)
    → AreRowsBehind n lines chosen rows → next ≡ rows ++ row ∷ [] → more ≡ chosen ++ capacity_of_row row ∷ []
    → IsRowBehind n lines row → AreRowsBehind n lines more next
rows_more_behind n lines chosen more rows next row are pushed longer is = (
  ap (map capacity_of_row) pushed ∙ map-append capacity_of_row rows (row ∷ [])
      ∙ ap (λ ns. ns ++ capacity_of_row row ∷ []) are.0 ∙ sym longer,
  subst (All (IsRowBehind n lines)) (sym pushed) (All-push (IsRowBehind n lines) rows row are.1 is),
)

-- from a text with these rows to the report
module _ {A : Type 0} (n : ℕ) (options : Options A) (input : List ℕ) (counts : Counts) (marked : List ℕ) (rows : List Row) (text : List ℕ)
    (are : AreCounted n (lines_of input) (nat_lt n (length (lines_of input))) options marked rows)
    (all : counts.requests ≡ counted n (lines_of input)) where
  pub form_after : (form : Form) → is_summary form ≡ false → IsTextByKeys form false options.floor counts marked rows text
      → IsInFormAfter form n options input text
  form_after Table some t = (marked, rows, are, t ∙ ap (λ k. table_text false false options.floor k marked rows) all)
  form_after Json some t = (marked, rows, are, t ∙ ap (λ k. table_text true false options.floor k marked rows) all)
  form_after Picture some t = (
    table_text false false options.floor counts.requests marked rows,
    (marked, rows, are, ap (λ k. table_text false false options.floor k marked rows) all),
    t,
  )
  form_after Summary some t = cc some
