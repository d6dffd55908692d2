use Rattle.clru_curve.proofs.Apart.{one_is_near_many, one_is_nearer_many, one_size_is_near_many, one_size_is_nearer_many}
use Rattle.clru_curve.proofs.splits.laws.law_split.Goals as goal

pub returns : goal.returns
returns g c = record {
  near = one_is_near_many g.K.PartialEq.eq g.met.K.Eq.laws;
  nearer = one_is_nearer_many g.K.PartialEq.eq g.met.K.Eq.laws;
  near_by_size = one_size_is_near_many g.K.PartialEq.eq g.met.K.Eq.laws;
  nearer_by_size = one_size_is_nearer_many g.K.PartialEq.eq g.met.K.Eq.laws;
}
