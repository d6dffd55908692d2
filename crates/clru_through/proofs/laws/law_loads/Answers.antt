use Rattle.clru_through.proofs.LoadRuns.{fetched_where_missed, fetches_are_misses, missed_are_misses}
use Rattle.clru_through.proofs.SizedLoadRuns.{fetched_size_is_missed, fetched_where_missed_by_size}
use Rattle.clru_through.proofs.laws.law_loads.Goals as goal

pub returns-clause-fetched : goal.returns-clause-fetched
returns-clause-fetched g c old last keys fs none empty =
    fetched_where_missed g.K.PartialEq.eq g.met.K.Eq.laws g.W.WeightScale.weight g.R.Fetch.fetches old last none empty keys fs

pub returns-clause-fetches : goal.returns-clause-fetches
returns-clause-fetches g c old last keys fs none empty =
    fetches_are_misses g.K.PartialEq.eq g.met.K.Eq.laws g.W.WeightScale.weight g.R.Fetch.fetches old last none empty keys fs

pub returns-clause-count : goal.returns-clause-count
returns-clause-count g c k keys = missed_are_misses g.K.PartialEq.eq k keys

pub returns-clause-fetched_by_size : goal.returns-clause-fetched_by_size
returns-clause-fetched_by_size g c size old last keys fs same empty =
    fetched_where_missed_by_size g.K.PartialEq.eq g.met.K.Eq.laws g.W.WeightScale.weight g.R.Fetch.fetches size same old last empty keys fs

pub returns-clause-fetched_size : goal.returns-clause-fetched_size
returns-clause-fetched_size g c size old last keys fs same empty =
    fetched_size_is_missed g.K.PartialEq.eq g.met.K.Eq.laws g.W.WeightScale.weight g.R.Fetch.fetches size same old last empty keys fs
