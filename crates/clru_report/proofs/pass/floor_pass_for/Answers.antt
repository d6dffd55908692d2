use Rattle.clru_text.specs.Keys.{line_of}
use Rattle.clru_report.proofs.pass.floor_pass_for.Goals as goal

pub returns : goal.returns
returns g c w = (c.if-not-floored.false, c.new.ensures (λ key. w (line_of key)))
