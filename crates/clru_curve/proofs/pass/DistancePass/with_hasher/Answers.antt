use Rattle.std.proofs.Common.{[]}
use Rattle.clru_curve.proofs.Passing.{IsPass-none}
use Rattle.clru_curve.proofs.pass.DistancePass.with_hasher.Goals as goal

pub invariant_of-result : goal.invariant_of-result
invariant_of-result g c =
    record {
      latest = c.new-2.ensures.kept;
      past = [];
      taken = rw (c.new.ensures, c.new-2.ensures.blocks, c.new-2.ensures.requests, c.new-3.ensures.items) (IsPass-none g.K.PartialEq.eq);
    }

pub returns : goal.returns
returns g c = rw (c.new.ensures, c.new-2.ensures.blocks, c.new-2.ensures.requests, c.new-3.ensures.items) (IsPass-none g.K.PartialEq.eq)
