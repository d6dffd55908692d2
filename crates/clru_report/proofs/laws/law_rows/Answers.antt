use Rattle.clru_report.proofs.RowLaws.{floor_is_below_misses, least_is_between, sized_floors_are_below}
use Rattle.clru_report.proofs.laws.law_rows.Goals as goal

pub returns-clause-misses : goal.returns-clause-misses
returns-clause-misses c = floor_is_below_misses

pub returns-clause-least : goal.returns-clause-least
returns-clause-least c = least_is_between

pub returns-clause-by_size : goal.returns-clause-by_size
returns-clause-by_size c = sized_floors_are_below
