use Rattle.std.proofs.Common.{◌≡◌, take}
use Rattle.std.specs.Map.{keys_of}
use Rattle.clru_text.specs.Texts.{bytes_of}
use Rattle.clru_report.specs.LinePasses.{IsInOrder}
use Rattle.clru_report.proofs.line_pass.LinePass.lasts.Given as goal

abbrev pub invariant-loop-line : goal.invariant-loop-line
invariant-loop-line g l = (order : IsInOrder l.self.latest l.line-items) → l.text.items ≡ bytes_of (keys_of (take l.line-index order.sorted))
