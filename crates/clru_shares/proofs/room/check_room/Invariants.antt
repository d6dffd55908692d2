use Rattle.std.proofs.Common.{ℕ, Bool, List, Option, take}
use Rattle.std.specs.Int.NonZero.{non_zero_usize_get}
use Rattle.std.specs.List.{All}
use Rattle.clru_shares.specs.Passes.{HaveShares}
use Rattle.clru_shares.specs.Shares.{HasRoom}
use Rattle.clru_shares.proofs.room.check_room.Given as goal

abbrev pub invariant-loop-share : goal.invariant-loop-share
invariant-loop-share g l = (sizes : Bool) (idle sample : Option ℕ) (requests : List (List ℕ × ℕ)) (names : List (List ℕ))
    → HaveShares sizes idle sample requests names l.shares → All (HasRoom sizes sample (non_zero_usize_get l.budget) requests) (take l.share-index names)
