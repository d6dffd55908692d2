use Rattle.std.proofs.Common.{refl}
use Rattle.clru_runs.proofs.Extending.{extends_pairs}
use Rattle.clru_runs.proofs.perform.make_plain.Goals as goal

pub returns-in-Extend : goal.returns-in-Extend
returns-in-Extend g c =
    let put = c.extend.ensures in
    rw c.in-Extend.is (c.extend.result, refl, extends_pairs g.K.PartialEq.eq put.0 c.in-Extend.pairs.items put.1.0 c.args.cache.now c.extend.new.self c.extend.result put.2)
