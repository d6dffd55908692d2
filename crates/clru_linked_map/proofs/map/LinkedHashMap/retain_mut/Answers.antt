use Rattle.std.proofs.Common.{sym}
use Rattle.clru_model.proofs.Weights.{weight_of-zero}
use Rattle.clru_linked_map.specs.LinkedMap.{pairs_of}
use Rattle.clru_linked_map.proofs.map.LinkedHashMap.retain_mut.Goals as goal

pub sift-requires-clause-weighs : goal.sift-requires-clause-weighs
sift-requires-clause-weighs g c = sym (weight_of-zero {K = g.row.K.Denot} {V = g.row.V.Denot} (pairs_of c.self.inside.items.list.entries))
