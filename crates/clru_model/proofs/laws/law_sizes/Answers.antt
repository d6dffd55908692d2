use Rattle.std.proofs.Common.{[]}
use Rattle.clru_model.proofs.ChangingWeights.{high_hits_are_held, held_hits_by_low}
use Rattle.clru_model.proofs.GetRuns.{sized_gets_or_puts_are_puts}
use Rattle.clru_model.proofs.KeyedRuns.{sized_puts_hit, light_marks_are_of_others, light_puts_hit, touches_are_puts}
use Rattle.clru_model.proofs.Spans as spans
use Rattle.clru_model.proofs.laws.law_sizes.Goals as goal

pub returns-clause-puts : goal.returns-clause-puts
returns-clause-puts g c = sized_puts_hit g.K.PartialEq.eq g.row.V.Denot g.met.K.Eq.laws

pub returns-clause-gets : goal.returns-clause-gets
returns-clause-gets g c = touches_are_puts g.K.PartialEq.eq g.row.V.Denot g.met.K.Eq.laws

pub returns-clause-hits : goal.returns-clause-hits
returns-clause-hits g c = spans.hits_within g.K.PartialEq.eq

pub returns-clause-marks : goal.returns-clause-marks
returns-clause-marks g c weight size requests = spans.marks_within g.K.PartialEq.eq weight size [] requests

pub returns-clause-missed_size : goal.returns-clause-missed_size
returns-clause-missed_size g c weight size requests = spans.missed_by_marks g.K.PartialEq.eq weight size [] requests

pub returns-clause-grows : goal.returns-clause-grows
returns-clause-grows g c weight lesser greater i requests more =
    spans.marks_by_size_grow g.K.PartialEq.eq weight more [] requests i

pub returns-clause-falls : goal.returns-clause-falls
returns-clause-falls g c weight lesser greater requests more = spans.misses_by_size_fall g.K.PartialEq.eq weight more [] requests

pub returns-clause-size_falls : goal.returns-clause-size_falls
returns-clause-size_falls g c weight lesser greater requests more =
    spans.missed_size_falls g.K.PartialEq.eq weight more [] requests

pub returns-clause-beyond : goal.returns-clause-beyond
returns-clause-beyond g c weight size requests same =
    spans.room_misses_first g.K.PartialEq.eq g.met.K.Eq.laws weight same size requests

pub returns-clause-weightless_total : goal.returns-clause-weightless_total
returns-clause-weightless_total g c weight past none = spans.total_weightless g.K.PartialEq.eq weight none past

pub returns-clause-weightless_marks : goal.returns-clause-weightless_marks
returns-clause-weightless_marks g c weight size requests none =
    spans.marks_weightless g.K.PartialEq.eq weight none size [] requests

pub returns-clause-weightless_size : goal.returns-clause-weightless_size
returns-clause-weightless_size g c weight size requests none =
    spans.missed_weightless g.K.PartialEq.eq weight none size [] requests

pub returns-clause-weightless_span : goal.returns-clause-weightless_span
returns-clause-weightless_span g c weight x past none = spans.span_weightless g.K.PartialEq.eq weight none x past

pub returns-clause-gets_or_puts : goal.returns-clause-gets_or_puts
returns-clause-gets_or_puts g c = sized_gets_or_puts_are_puts g.K.PartialEq.eq g.row.V.Denot g.met.K.Eq.laws

pub returns-clause-light_puts : goal.returns-clause-light_puts
returns-clause-light_puts g c = light_puts_hit g.K.PartialEq.eq g.row.V.Denot g.met.K.Eq.laws

pub returns-clause-changing_high : goal.returns-clause-changing_high
returns-clause-changing_high g c = high_hits_are_held g.K.PartialEq.eq g.row.V.Denot g.met.K.Eq.laws

pub returns-clause-changing_low : goal.returns-clause-changing_low
returns-clause-changing_low g c = held_hits_by_low g.K.PartialEq.eq g.row.V.Denot g.met.K.Eq.laws

pub returns-clause-light_marks : goal.returns-clause-light_marks
returns-clause-light_marks g c = light_marks_are_of_others g.K.PartialEq.eq
