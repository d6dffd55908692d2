use Rattle.std.proofs.Common.{[]}
use Rattle.clru_curve.proofs.PositionPassing.{none_taken}
use Rattle.clru_curve.proofs.position.PositionPass.new.Goals as goal

pub invariant_of-result : goal.invariant_of-result
invariant_of-result g c = record {
  latest = c.new.ensures.kept;
  idle = 0;
  past = [];
  taken = rw (c.new.ensures.blocks, c.new.ensures.requests, c.new-2.ensures.items) (none_taken g.K.PartialEq.eq g.met.K.Eq.laws 0);
}

pub returns : goal.returns
returns g c idle =
    rw (c.new.ensures.blocks, c.new.ensures.requests, c.new-2.ensures.items) (none_taken g.K.PartialEq.eq g.met.K.Eq.laws idle)
