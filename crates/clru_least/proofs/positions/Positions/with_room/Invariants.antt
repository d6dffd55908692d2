use Rattle.std.proofs.Common.{◌≡◌, ◌≤◌, ◌-◌, ◌*◌}
use Rattle.clru_least.specs.Positions.{first_of}
use Rattle.clru_least.proofs.positions.Positions.with_room.Given as goal

abbrev pub invariant-loop-leaves : goal.invariant-loop-leaves
invariant-loop-leaves g l = record { begins : l.leaves ≡ first_of l.levels; few : l.levels ≤ l.leaves; most : l.leaves ≤ 64 * l.enough }

abbrev pub decreases-loop-leaves : goal.decreases-loop-leaves
decreases-loop-leaves g l = l.enough - l.leaves
