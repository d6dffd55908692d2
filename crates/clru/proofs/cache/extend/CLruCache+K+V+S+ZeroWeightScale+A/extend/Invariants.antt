use Rattle.clru.specs.Collecting.{PutsAll}
use Rattle.clru.proofs.cache.extend.CLruCache+K+V+S+ZeroWeightScale+A.extend.Given as goal

abbrev pub invariant-loop-key : goal.invariant-loop-key
invariant-loop-key g l = record {
  next : (goal.iterator-loop-key g).can_next l.key-iterator;
  ends : (goal.iterator-loop-key g).is_finite l.key-iterator;
  put : PutsAll g.K.PartialEq.eq l.fn.self l.yielded l.self;
}
