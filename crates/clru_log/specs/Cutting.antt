-- What a reader of cut lines has still to give. Public clauses cite it.
use Rattle.std.specs.Prelude.{ℕ, List, ◌++◌, Option, Some, option_map, if◌then◌else◌}
use Rattle.clru_log.specs.declared.cutter.Cutter.{Cutter}
use Rattle.clru_log.specs.declared.reader.CutReader.{CutReader}
use Rattle.clru_log.specs.Cuts.{cut_bytes}

-- what is cut and not yet given, and behind it what will be cut of the rest, where more follows what was read
abbrev pub ready_with : {A : Type 0} → Cutter A → List ℕ → List ℕ
ready_with c more = c.output ++ cut_bytes c.format c.wanted (c.input ++ more)

-- all that is to come, where what is to be read is known
abbrev pub coming : {A : Type 0} → Cutter A → Option (List ℕ) → Option (List ℕ)
coming c known = if c.ended then Some c.output else option_map (ready_with c) known

-- what remains of a reader whose reader has so much left
abbrev pub cut_remaining : {R A : Type 0} → (R → Option (List ℕ)) → CutReader R A → Option (List ℕ)
cut_remaining remaining r = coming r.cutter (remaining r.inner)
