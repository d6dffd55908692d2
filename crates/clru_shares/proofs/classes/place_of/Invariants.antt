use Rattle.std.proofs.Common.{ℕ, ◌<◌, [], get_or, map}
use Rattle.clru_shares.specs.Classes.{IsBefore}
use Rattle.clru_shares.specs.Passes.{name_of}
use Rattle.clru_shares.proofs.classes.place_of.Given as goal

abbrev pub invariant-loop-at : goal.invariant-loop-at
invariant-loop-at g l = (k : ℕ) → k < l.at → IsBefore (get_or (map name_of l.classes) k []) l.name
