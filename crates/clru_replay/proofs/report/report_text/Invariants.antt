use Rattle.std.proofs.Common.{◌≡◌, ◌+◌, take, vec_len}
use Rattle.std.specs.Prelude.{flat_map}
use Rattle.clru_replay.specs.Report.{mark_line}
use Rattle.clru_replay.proofs.report.report_text.Given as goal

abbrev pub invariant-loop-hit : goal.invariant-loop-hit
invariant-loop-hit g l = (l.text.items ≡ flat_map mark_line (take l.hit-index l.marks)) × (vec_len l.text ≡ l.hit-index + l.hit-index)
