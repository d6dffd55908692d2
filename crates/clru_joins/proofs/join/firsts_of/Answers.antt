use Rattle.std.proofs.Common.{◌≡◌, length}
use Rattle.clru_text.proofs.Texts.{whole_read}
use Rattle.clru_text.specs.Lines.{lines_of}
use Rattle.clru_report.specs.Parts.{IsPart}
use Rattle.clru_joins.proofs.join.firsts_of.Goals as goal

pub returns-in-Ok : goal.returns-in-Ok
returns-in-Ok g c =
    (whole_read c.args.text.now c.part_of.new.reader.now (λ input. (c.in-Ok.part.bytes ≡ length input)
    × IsPart (lines_of input) c.in-Ok.part.requests c.in-Ok.part.curve c.in-Ok.part.firsts.items c.in-Ok.part.lasts.items) c.in-Ok.ensures).1.first_lines
