use Rattle.std.proofs.Common.{ℕ, Bool, List, Option, map, take}
use Rattle.std.specs.Int.NonZero.{non_zero_usize_get}
use Rattle.std.specs.Map.{keys_of}
use Rattle.std.specs.Option.{option_map}
use Rattle.clru_shares.specs.Passes.{AreTimeless, HaveShares, HaveTaken, name_of}
use Rattle.clru_shares.specs.Sampled.{kept_in}
use Rattle.clru_shares.specs.Times.{limit_of}
use Rattle.clru_shares.proofs.share.shares_of.Given as goal

abbrev pub invariant-loop-class : goal.invariant-loop-class
invariant-loop-class g l = (sizes : Bool) (idle : Option ℕ) (requests : List (List ℕ × ℕ)) → AreTimeless idle requests
    → HaveTaken sizes (limit_of idle) (keys_of requests) (kept_in (option_map non_zero_usize_get l.sample) requests) l.classes
    → HaveShares sizes idle (option_map non_zero_usize_get l.sample) requests (map name_of (take l.class-index l.classes)) l.shares.items
