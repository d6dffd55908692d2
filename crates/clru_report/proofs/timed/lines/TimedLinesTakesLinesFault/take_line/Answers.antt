use Rattle.std.proofs.Common.{refl}
use Rattle.clru_report.proofs.timed.lines.TimedLinesTakesLinesFault.take_line.Goals as goal

pub take_kept-requires : goal.take_kept-requires
take_kept-requires g c = let since = c.requires.2 in (λ _. 0, c.requires.0.pass, c.requires.1, since.1, refl)
