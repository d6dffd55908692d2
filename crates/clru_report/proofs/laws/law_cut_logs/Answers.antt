use Rattle.clru_text.proofs.Texts.{cut_behind_newline}
use Rattle.clru_report.proofs.laws.law_cut_logs.Goals as goal

pub returns : goal.returns
returns c = cut_behind_newline
