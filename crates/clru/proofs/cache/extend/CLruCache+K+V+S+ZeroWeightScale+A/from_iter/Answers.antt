use Rattle.clru.proofs.cache.extend.CLruCache+K+V+S+ZeroWeightScale+A.from_iter.Goals as goal

pub returns-in-Err : goal.returns-in-Err
returns-in-Err g c =
    let put = rw c.with_hasher-cache.ensures at c.in-Err.ensures in
    (put.0, put.1, (c.in-Err.field-0, c.extend.new.self, put.2))
