use Rattle.std.proofs.Common.{◌≡◌, ◌++◌, ◌∷◌, [], sym, subst, arith}
use Rattle.std.specs.Int.NonZero.{non_zero_usize_get}
use Rattle.clru_text.specs.Keys.{line_of}
use Rattle.clru_report.proofs.AfterLemmas.{head_more, head_now}
use Rattle.clru_report.proofs.TakenLines.{line_taken, misses_taken}
use Rattle.clru_report.specs.AfterPasses.{IsHead}
use Rattle.clru_report.specs.LinePasses.{IsLinePass}
use Rattle.clru_report.proofs.after.LinesAroundTakesLinesReadError.take_line.Goals as goal
use Rattle.clru_report.proofs.after.LinesAroundTakesLinesReadError.take_line.Goals.{then-number-get+in-Ok+in-Some-1, then-number-get+in-Ok+in-None-1, else-number-get}

pub take-requires : goal.take-requires
take-requires g c =
    let taken = c.requires.2.1 in (
      taken.past,
      elim c.if-number-get.branch [
        | then-number-get+in-Ok+in-Some-1 w ↦ subst (λ s. IsLinePass taken.past s.pass) (sym w.self-is) taken.taken
        | then-number-get+in-Ok+in-None-1 w ↦ subst (λ s. IsLinePass taken.past s.pass) (sym w.self-is) taken.taken
        | else-number-get w ↦ subst (λ s. IsLinePass taken.past s.pass) (sym w.self-is) taken.taken
      ],
    )

pub returns-in-Ok-take-clause-taken : goal.returns-in-Ok-take-clause-taken
returns-in-Ok-take-clause-taken g c start lines since counted =
    let self = c.args.self.now in let n = non_zero_usize_get self.after in let line = line_of c.args.line.now in let taken = since.1 in
    let taken-same : IsLinePass taken.past c.if-number-get.self.pass = elim c.if-number-get.branch [
      | then-number-get+in-Ok+in-Some-1 w ↦ subst (λ s. IsLinePass taken.past s.pass) (sym w.self-is) taken.taken
      | then-number-get+in-Ok+in-None-1 w ↦ subst (λ s. IsLinePass taken.past s.pass) (sym w.self-is) taken.taken
      | else-number-get w ↦ subst (λ s. IsLinePass taken.past s.pass) (sym w.self-is) taken.taken
    ] in
    let around : (c.if-number-get.self.after ≡ start.after) × IsHead (non_zero_usize_get c.if-number-get.self.after) (lines ++ line ∷ []) c.if-number-get.self.head =
    elim c.if-number-get.branch [
      | then-number-get+in-Ok+in-Some-1 w ↦ subst (λ s. (s.after ≡ start.after) × IsHead (non_zero_usize_get s.after) (lines ++ line ∷ []) s.head) (sym w.self-is) (
        since.0,
        head_now n lines line w.in-Ok.curve (omega (arith, counted, w.if-number-get.true, c.get.ensures.value))
            (misses_taken lines self.pass since.1 w.in-Ok.curve (λ past is. w.in-Ok.ensures.misses past is)),
      )
      | then-number-get+in-Ok+in-None-1 w ↦ subst (λ s. (s.after ≡ start.after) × IsHead (non_zero_usize_get s.after) (lines ++ line ∷ []) s.head) (sym w.self-is) (
        since.0,
        head_now n lines line w.in-Ok.curve (omega (arith, counted, w.if-number-get.true, c.get.ensures.value))
            (misses_taken lines self.pass since.1 w.in-Ok.curve (λ past is. w.in-Ok.ensures.misses past is)),
      )
      | else-number-get w ↦ subst (λ s. (s.after ≡ start.after) × IsHead (non_zero_usize_get s.after) (lines ++ line ∷ []) s.head) (sym w.self-is)
          (since.0, head_more n lines line self.head (λ same. omega (arith, counted, w.if-number-get.false, same, c.get.ensures.value)) since.2)
    ] in (
      around.0,
      line_taken lines self.pass taken c.args.line.now c.take.new.self (c.in-Ok-take.ensures.taken taken.past taken-same),
      around.1,
    )
