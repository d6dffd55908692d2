use Rattle.std.proofs.Common.{◌≡◌, ◌++◌, ◌∷◌, [], is_some, sym, ap, ◌∙◌, subst, arith}
use Rattle.std.specs.Int.NonZero.{non_zero_usize_get}
use Rattle.std.specs.Prelude.{bytes_eq}
use Rattle.clru_curve.specs.SizedCurves.{IsSizedCurveOf}
use Rattle.clru_text.specs.Keys.{line_of}
use Rattle.clru_text.specs.Samples.{kept_of}
use Rattle.clru_text.specs.Sizes.{weight_of_line}
use Rattle.clru_text.proofs.ResultLemmas.{ok_map, on_ok_map}
use Rattle.clru_text.proofs.Samples.{all_kept}
use Rattle.clru_report.specs.SizedAfterPasses.{IsSizedHead}
use Rattle.clru_report.specs.SizedLinePasses.{HasTakenOf}
use Rattle.clru_report.proofs.SizedAfterLemmas.{sized_head_more, sized_head_now}
use Rattle.clru_report.proofs.TakenLines.{curve_taken}
use Rattle.clru_report.proofs.sized.after.SizedAroundTakesLinesFault.take_line.Goals as goal
use Rattle.clru_report.proofs.sized.after.SizedAroundTakesLinesFault.take_line.Goals.{then-number-get+in-Ok+in-Some-1, then-number-get+in-Ok+in-None-1, else-number-get}

pub take_line-requires : goal.take_line-requires
take_line-requires g c =
    let start = c.requires.0 in let lines = c.requires.1 in let since = c.requires.2 in
    let has : (c.if-number-get.self.lines.one_in ≡ start.lines.one_in)
    × HasTakenOf (is_some start.lines.reuses) (non_zero_usize_get c.if-number-get.self.lines.one_in) lines c.if-number-get.self.lines.size c.if-number-get.self.lines.pass c.if-number-get.self.lines.reuses =
    elim c.if-number-get.branch [
      | then-number-get+in-Ok+in-Some-1 w ↦ subst (λ s. (s.lines.one_in ≡ start.lines.one_in)
          × HasTakenOf (is_some start.lines.reuses) (non_zero_usize_get s.lines.one_in) lines s.lines.size s.lines.pass s.lines.reuses)
          (sym w.self-is) (since.1, since.4)
      | then-number-get+in-Ok+in-None-1 w ↦ subst (λ s. (s.lines.one_in ≡ start.lines.one_in)
          × HasTakenOf (is_some start.lines.reuses) (non_zero_usize_get s.lines.one_in) lines s.lines.size s.lines.pass s.lines.reuses)
          (sym w.self-is) (since.1, since.4)
      | else-number-get w ↦ subst (λ s. (s.lines.one_in ≡ start.lines.one_in)
          × HasTakenOf (is_some start.lines.reuses) (non_zero_usize_get s.lines.one_in) lines s.lines.size s.lines.pass s.lines.reuses)
          (sym w.self-is) (since.1, since.4)
    ] in (start.lines, lines, has, c.requires.3)

pub returns-clause-taken : goal.returns-clause-taken
returns-clause-taken g c start lines since counted =
    let self = c.args.self.now in let n = non_zero_usize_get self.after in let line = line_of c.args.line.now in
    let all : (c.if-number-get.self.after ≡ start.after) × (c.if-number-get.self.lines.one_in ≡ start.lines.one_in)
    × IsSizedHead (non_zero_usize_get c.if-number-get.self.after) (lines ++ line ∷ []) c.if-number-get.self.head
    × HasTakenOf (is_some start.lines.reuses) (non_zero_usize_get c.if-number-get.self.lines.one_in) lines c.if-number-get.self.lines.size c.if-number-get.self.lines.pass c.if-number-get.self.lines.reuses =
    elim c.if-number-get.branch [
      | then-number-get+in-Ok+in-Some-1 w ↦ subst (λ s. (s.after ≡ start.after) × (s.lines.one_in ≡ start.lines.one_in)
          × IsSizedHead (non_zero_usize_get s.after) (lines ++ line ∷ []) s.head
          × HasTakenOf (is_some start.lines.reuses) (non_zero_usize_get s.lines.one_in) lines s.lines.size s.lines.pass s.lines.reuses) (sym w.self-is) (
            since.0,
            since.1,
            sized_head_now n lines line w.in-Ok.curve (omega (arith, counted, w.if-number-get.true, c.get.ensures.value))
                (subst (λ ls. IsSizedCurveOf bytes_eq weight_of_line ls w.in-Ok.curve) (ap (λ k. kept_of k lines) since.2 ∙ all_kept lines)
                (curve_taken (is_some start.lines.reuses) (kept_of (non_zero_usize_get self.lines.one_in) lines) self.lines.pass self.lines.reuses
                since.4.taken w.in-Ok.curve w.in-Ok.ensures)),
            since.4,
          )
      | then-number-get+in-Ok+in-None-1 w ↦ subst (λ s. (s.after ≡ start.after) × (s.lines.one_in ≡ start.lines.one_in)
          × IsSizedHead (non_zero_usize_get s.after) (lines ++ line ∷ []) s.head
          × HasTakenOf (is_some start.lines.reuses) (non_zero_usize_get s.lines.one_in) lines s.lines.size s.lines.pass s.lines.reuses) (sym w.self-is) (
            since.0,
            since.1,
            sized_head_now n lines line w.in-Ok.curve (omega (arith, counted, w.if-number-get.true, c.get.ensures.value))
                (subst (λ ls. IsSizedCurveOf bytes_eq weight_of_line ls w.in-Ok.curve) (ap (λ k. kept_of k lines) since.2 ∙ all_kept lines)
                (curve_taken (is_some start.lines.reuses) (kept_of (non_zero_usize_get self.lines.one_in) lines) self.lines.pass self.lines.reuses
                since.4.taken w.in-Ok.curve w.in-Ok.ensures)),
            since.4,
          )
      | else-number-get w ↦ subst (λ s. (s.after ≡ start.after) × (s.lines.one_in ≡ start.lines.one_in)
          × IsSizedHead (non_zero_usize_get s.after) (lines ++ line ∷ []) s.head
          × HasTakenOf (is_some start.lines.reuses) (non_zero_usize_get s.lines.one_in) lines s.lines.size s.lines.pass s.lines.reuses) (sym w.self-is) (
            since.0,
            since.1,
            sized_head_more n lines line self.head (λ same. omega (arith, counted, w.if-number-get.false, same, c.get.ensures.value)) since.3,
            since.4,
          )
    ] in
    ok_map c.take_line.result (λ taken is. on_ok_map taken (λ both.
    (all.0, both.0, ap non_zero_usize_get (both.0 ∙ sym since.1) ∙ since.2, all.2, both.1)) is)
    (c.take_line.ensures.taken start.lines lines (all.1, all.3) counted)

pub returns-clause-refused : goal.returns-clause-refused
returns-clause-refused g c start lines rest since counted =
    let has : (c.if-number-get.self.lines.one_in ≡ start.lines.one_in)
    × HasTakenOf (is_some start.lines.reuses) (non_zero_usize_get c.if-number-get.self.lines.one_in) lines c.if-number-get.self.lines.size c.if-number-get.self.lines.pass c.if-number-get.self.lines.reuses =
    elim c.if-number-get.branch [
      | then-number-get+in-Ok+in-Some-1 w ↦ subst (λ s. (s.lines.one_in ≡ start.lines.one_in)
          × HasTakenOf (is_some start.lines.reuses) (non_zero_usize_get s.lines.one_in) lines s.lines.size s.lines.pass s.lines.reuses)
          (sym w.self-is) (since.1, since.4)
      | then-number-get+in-Ok+in-None-1 w ↦ subst (λ s. (s.lines.one_in ≡ start.lines.one_in)
          × HasTakenOf (is_some start.lines.reuses) (non_zero_usize_get s.lines.one_in) lines s.lines.size s.lines.pass s.lines.reuses)
          (sym w.self-is) (since.1, since.4)
      | else-number-get w ↦ subst (λ s. (s.lines.one_in ≡ start.lines.one_in)
          × HasTakenOf (is_some start.lines.reuses) (non_zero_usize_get s.lines.one_in) lines s.lines.size s.lines.pass s.lines.reuses)
          (sym w.self-is) (since.1, since.4)
    ] in c.take_line.ensures.refused start.lines lines rest has counted
