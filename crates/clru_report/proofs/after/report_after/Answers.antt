use Rattle.std.proofs.Common.{◌≡◌, ◌∙◌, arith}
use Rattle.std.proofs.lemmas.List.{length-take}
use Rattle.std.specs.Int.NonZero.{non_zero_usize_get}
use Rattle.clru_text.specs.Lines.{lines_of}
use Rattle.clru_report.specs.After.{counted}
use Rattle.clru_report.proofs.after.report_after.Goals as goal

pub returns-in-Ok : goal.returns-in-Ok
returns-in-Ok g c =
    let read = c.in_ok-curve.ensures in let of = read.3 in let n = non_zero_usize_get c.args.after in let lines = lines_of read.0 in
    let left : c.saturating_sub.result ≡ counted n lines =
    omega (arith, c.saturating_sub.ensures, of.all_counted, c.get.ensures.value, length-take n lines) in (
      read.0,
      read.1,
      read.2,
      c.in-Ok.ensures n read.0 of.whole of.before
          (record { requests = left; distinct_keys = c.distinct.ensures ∙ of.whole.distinct_keys; in_bytes = of.in_bytes }),
    )
