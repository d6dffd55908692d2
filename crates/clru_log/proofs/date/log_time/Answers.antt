use Rattle.std.proofs.Common.{ap, ◌∙◌}
use Rattle.clru_log.specs.Dates.{time_unbracketed, without_last}
use Rattle.clru_log.proofs.date.log_time.Goals as goal

pub returns : goal.returns
returns c = c.time_unbracketed.ensures ∙ ap time_unbracketed (c.without_last.ensures ∙ ap (without_last 93) c.without_first.ensures)
