use Rattle.std.proofs.Common.{◌++◌, ◌∷◌, [], append_assoc, subst}
use Rattle.clru_text.specs.Keys.{line_of}
use Rattle.clru_report.specs.LinePasses.{HasTakenLines}
use Rattle.clru_report.proofs.TakenLines.{line_taken}
use Rattle.clru_report.proofs.parts.LinePassTakesLinesReadError.take_line.Goals as goal

pub take-requires : goal.take-requires
take-requires g c = let since = c.requires.2 in let has = since.1 since.0.0 since.0.1 in (has.past, has.taken)

pub returns-in-Ok-clause-taken : goal.returns-in-Ok-clause-taken
returns-in-Ok-clause-taken g c start lines since counted = (
  since.0,
  λ before has. let all = since.1 before has in
      subst (λ ls. HasTakenLines ls c.take.new.self) (append_assoc before lines (line_of c.args.line.now ∷ []))
      (line_taken (before ++ lines) c.args.self.now all c.args.line.now c.take.new.self (c.in-Ok.ensures.taken all.past all.taken)),
)
