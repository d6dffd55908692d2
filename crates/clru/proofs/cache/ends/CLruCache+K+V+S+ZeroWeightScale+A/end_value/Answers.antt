use Rattle.std.proofs.Common.{◌-◌, length}
use Rattle.clru.proofs.Values.{IsCache-at}
use Rattle.clru.proofs.cache.ends.CLruCache+K+V+S+ZeroWeightScale+A.end_value.Goals as goal

pub invariant_of-self-lent : goal.invariant_of-self-lent
invariant_of-self-lent g c = λ w. IsCache-at 0 w c.self.invariant

pub invariant_of-self-lent-in-Back : goal.invariant_of-self-lent-in-Back
invariant_of-self-lent-in-Back g c = λ w. IsCache-at (length c.self.inside.map.entries - 1) w c.self.invariant
