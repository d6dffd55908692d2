use Rattle.clru_model.proofs.Bounds as bounds
use Rattle.clru_model.proofs.laws.law_bounds.Goals as goal

pub returns : goal.returns
returns g c = record {
  at_least_distinct = bounds.distinct_miss g.K.PartialEq.eq;
  at_most_all = bounds.no_more_miss g.K.PartialEq.eq;
  size_at_most_all = bounds.no_more_size_misses g.K.PartialEq.eq;
  above_keys = bounds.sizes_miss_more g.K.PartialEq.eq;
  below_keys = bounds.room_for_greatest_misses_less g.K.PartialEq.eq;
}
