use Rattle.clru_report.proofs.OneSizeLaws.{greatest_of_one, key_is, none_greater, size_is}
use Rattle.clru_report.proofs.laws.law_one_size.Goals as goal

pub returns-clause-size : goal.returns-clause-size
returns-clause-size c = size_is

pub returns-clause-key : goal.returns-clause-key
returns-clause-key c = key_is

pub returns-clause-none : goal.returns-clause-none
returns-clause-none c = none_greater

pub returns-clause-of_one : goal.returns-clause-of_one
returns-clause-of_one c = greatest_of_one
