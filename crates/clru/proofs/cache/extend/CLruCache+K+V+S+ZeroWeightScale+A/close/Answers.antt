use Rattle.std.proofs.Common.{arith}
use Rattle.clru_model.proofs.Weights.{weight_of-zero}
use Rattle.clru.proofs.cache.extend.CLruCache+K+V+S+ZeroWeightScale+A.close.Goals as goal

pub invariant_of-self : goal.invariant_of-self
invariant_of-self g c =
    let old = c.self.invariant in let es = c.self.inside.map.entries in
    rw c.resize.ensures (record {
      kept = record { distinct = old.kept.distinct; fits = omega (arith, c.max-capacity.ensures, weight_of-zero es) };
      some = omega (arith, c.max-capacity.ensures);
      weighs = old.weighs;
    })
