use Rattle.std.proofs.Common.{arith}
use Rattle.std.specs.Map.{keys_of}
use Rattle.clru_report.specs.Passes.{weight_of_key}
use Rattle.clru_report.proofs.SizedTimedLines.{greatest_in_all}
use Rattle.clru_report.proofs.timed.sized_aged.first_of.Goals as goal

pub returns : goal.returns
returns g c capacities idle age past is = omega (
  arith,
  c.saturating_add.ensures,
  c.greatest_weight.ensures weight_of_key capacities idle age past is,
  c.size-size.ensures weight_of_key capacities idle age past is,
  greatest_in_all weight_of_key (keys_of past),
)
