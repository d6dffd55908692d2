use Rattle.std.proofs.Common.{◌≡◌, reverse, take}
use Rattle.std.specs.Map.{keys_of}
use Rattle.clru_text.specs.Texts.{bytes_of}
use Rattle.clru_report.proofs.line_pass.LinePass.firsts.Given as goal

abbrev pub invariant-loop-index : goal.invariant-loop-index
invariant-loop-index g l = l.text.items ≡ bytes_of (keys_of (take l.index (reverse l.self.latest)))
