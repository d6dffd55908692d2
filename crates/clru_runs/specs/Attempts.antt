-- What the closures of an attempt do. No public clause cites this file.
use Rattle.std.specs.Prelude.{Some, None, Result, Ok, Err}
use Rattle.clru_runs.specs.declared.call.Attempt.{Attempt}
use Rattle.clru_runs.specs.declared.call.Attempt.TheVariants.{Store, Fail}

module _ {V : Type 0} where
  -- what the one for a new key answers
  abbrev pub stored_by : Attempt V → Result V (Unit {0})
  stored_by (Store v) = Ok v
  stored_by (Fail left) = Err tt

  -- what the one for a held key answers
  abbrev pub succeeds_by : Attempt V → Result (Unit {0}) (Unit {0})
  succeeds_by (Store v) = Ok tt
  succeeds_by (Fail left) = Err tt

  -- and the value that it leaves
  abbrev pub left_by : Attempt V → V → V
  left_by (Store v) held = v
  left_by (Fail None) held = held
  left_by (Fail (Some v)) held = v
