use Rattle.std.proofs.Common.{map, ap, ◌∙◌}
use Rattle.std.proofs.lemmas.List.{length-map}
use Rattle.std.specs.HashMap.{get}
use Rattle.std.specs.Map.{lookup}
use Rattle.clru_text.specs.Keys.{line_of, same_line}
use Rattle.clru_text.specs.Lines.{lines_of}
use Rattle.clru_report.proofs.FaultLemmas.{lines_unwritten}
use Rattle.clru_report.proofs.KeyNumbers.{lines_are, noted_none, numbers_low}
use Rattle.clru_report.proofs.SizedSamples.{added_free, added_none}
use Rattle.clru_report.proofs.sized.key_log.read_log.Goals as goal

pub read_all-requires-clause-begun : goal.read_all-requires-clause-begun
read_all-requires-clause-begun g c = (
  added_none,
  noted_none line_of (get same_line c.with_hasher.result) (map line_of c.new.result.items) c.new-2.result.items
      c.new-3.result.items (λ k. ap (lookup (same_line k)) c.with_hasher.ensures.empty) (ap (map line_of) c.new.ensures.items)
      c.new-2.ensures.items c.new-3.ensures.items,
)

pub read_all-requires-clause-unwritten : goal.read_all-requires-clause-unwritten
read_all-requires-clause-unwritten g c lines fault now why = lines_unwritten lines fault why.0

pub returns-clause-keys : goal.returns-clause-keys
returns-clause-keys g c =
    let read = c.in_ok-bytes.ensures.taken in let now = c.read_all.new.taker in let log = now.log in let noted = read.3.taken.1 in
    record {
      numbered = numbers_low line_of (lines_of read.0) (get same_line now.numbers) log.tails.items log.sizes.items log.requests.items noted;
      sized = noted.sized ∙ length-map log.tails.items line_of;
    }

pub returns-clause-log : goal.returns-clause-log
returns-clause-log g c =
    let read = c.in_ok-bytes.ensures.taken in let now = c.read_all.new.taker in let log = now.log in let lines = lines_of read.0 in (
      read.0,
      read.1,
      read.2,
      (
        added_free lines now.size read.3.taken.0,
        lines_are line_of lines (get same_line now.numbers) log.tails.items log.sizes.items log.requests.items read.3.taken.1,
        read.3.in_bytes,
      ),
    )
