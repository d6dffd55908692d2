use Rattle.std.proofs.Common.{◌<◌, ◌^◌, take, reverse}
use Rattle.std.specs.Borrow.{Bor}
use Rattle.std.specs.HashMap.{get}
use Rattle.clru_model.specs.Requests.{IsLatestOf}
use Rattle.clru_least.specs.Reuses.{IsFloorPass}
use Rattle.clru_least.proofs.floor_pass.FloorPass.of_keys.Given as goal

abbrev pub invariant-loop-position : goal.invariant-loop-position
invariant-loop-position g l = record {
  taken : IsFloorPass g.K.PartialEq.eq (λ x. g.W.WeightScale.weight l.scale x tt) (reverse (take l.position l.keys)) l.pass;
  known : (z : Bor g.row.K.Denot) → IsLatestOf g.K.PartialEq.eq (reverse (take l.position l.keys)) z.now
      (get (λ (x : Bor g.row.K.Denot) (y : Bor g.row.K.Denot). g.K.PartialEq.eq x.now y.now) l.latest z);
  fits : l.pass.size < 2 ^ 64;
}
