use Rattle.clru_report.proofs.RatioLaws.{byte_hit_ratio_is_least, hit_ratio_is_least, sized_hit_ratio_is_least}
use Rattle.clru_report.proofs.laws.law_hit_ratios.Goals as goal

pub returns-clause-by_keys : goal.returns-clause-by_keys
returns-clause-by_keys c = hit_ratio_is_least

pub returns-clause-by_size : goal.returns-clause-by_size
returns-clause-by_size c = sized_hit_ratio_is_least

pub returns-clause-of_bytes : goal.returns-clause-of_bytes
returns-clause-of_bytes c = byte_hit_ratio_is_least
