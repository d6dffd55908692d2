use Rattle.std.proofs.Common.{sym, ap}
use Rattle.clru_model.specs.Entries.{weight_of}
use Rattle.clru.proofs.Keeping.{IsKept-none}
use Rattle.clru.proofs.cache.CLruCache.empty.Goals as goal

pub invariant_of-result : goal.invariant_of-result
invariant_of-result g c =
    let none = c.requires.none in record {
      kept = rw none (IsKept-none _ _);
      some = c.requires.some;
      weighs = ap (weight_of (g.W.WeightScale.weight c.args.scale)) (sym none);
    }
