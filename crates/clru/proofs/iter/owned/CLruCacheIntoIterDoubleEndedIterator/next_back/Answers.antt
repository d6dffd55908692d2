use Rattle.std.proofs.Common.{ap}
use Rattle.clru_model.proofs.Ends.{yields-last}
use Rattle.clru.proofs.iter.owned.CLruCacheIntoIterDoubleEndedIterator.next_back.Goals as goal

pub returns-clause-steps : goal.returns-clause-steps
returns-clause-steps g c =
    let left = ap (λ x. x.entries) c.pop_back.ensures.entries in
    rw (← c.self.view_is)
    (yields-last {X = g.row.K.Denot × g.row.V.Denot} c.self.inside.cache.entries c.pop_back.new.self.entries c.pop_back.result c.pop_back.ensures.value left)
