-- The exit status of each fault.
use Rattle.std.specs.Prelude.{ℕ}
use Rattle.clru_replay.specs.declared.fault.Fault.{Fault}
use Rattle.clru_replay.specs.declared.fault.Fault.TheVariants.{BadCapacity, Memory, Reading, Writing}

abbrev pub status_of : Fault → ℕ
status_of BadCapacity = 2
status_of Memory = 3
status_of Reading = 4
status_of Writing = 5
