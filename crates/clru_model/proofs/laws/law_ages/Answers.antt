use Rattle.clru_model.proofs.AgedRuns.{aged_puts_hit, sized_aged_puts_hit}
use Rattle.clru_model.proofs.Ages.{aged_misses_fall, aged_misses_by_size_fall}
use Rattle.clru_model.proofs.IdleMarks.{unlimited_marks, unlimited_marks_by_size, idle_marks_below, idle_marks_within}
use Rattle.clru_model.proofs.Versions.{versions_miss_more}
use Rattle.clru_model.proofs.laws.law_ages.Goals as goal

pub returns-clause-unlimited : goal.returns-clause-unlimited
returns-clause-unlimited g c = unlimited_marks g.K.PartialEq.eq g.met.K.Eq.laws

pub returns-clause-unlimited_by_size : goal.returns-clause-unlimited_by_size
returns-clause-unlimited_by_size g c = unlimited_marks_by_size g.K.PartialEq.eq g.met.K.Eq.laws

pub returns-clause-idle : goal.returns-clause-idle
returns-clause-idle g c = idle_marks_below g.K.PartialEq.eq g.met.K.Eq.laws

pub returns-clause-idle_by_size : goal.returns-clause-idle_by_size
returns-clause-idle_by_size g c = idle_marks_within g.K.PartialEq.eq g.met.K.Eq.laws

pub returns-clause-falls : goal.returns-clause-falls
returns-clause-falls g c = aged_misses_fall g.K.PartialEq.eq g.met.K.Eq.laws

pub returns-clause-falls_by_size : goal.returns-clause-falls_by_size
returns-clause-falls_by_size g c = aged_misses_by_size_fall g.K.PartialEq.eq g.met.K.Eq.laws

pub returns-clause-versions : goal.returns-clause-versions
returns-clause-versions g c = versions_miss_more g.K.PartialEq.eq g.met.K.Eq.laws

pub returns-clause-puts : goal.returns-clause-puts
returns-clause-puts g c = aged_puts_hit g.K.PartialEq.eq g.row.V.Denot g.met.K.Eq.laws

pub returns-clause-puts_by_size : goal.returns-clause-puts_by_size
returns-clause-puts_by_size g c = sized_aged_puts_hit g.K.PartialEq.eq g.row.V.Denot g.met.K.Eq.laws
