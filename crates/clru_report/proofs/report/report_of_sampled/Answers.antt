use Rattle.std.proofs.Common.{◌≡◌, subst, length}
use Rattle.std.specs.Prelude.{bytes_eq, reverse}
use Rattle.clru_curve.specs.Curves.{HasMissesOf}
use Rattle.clru_model.specs.Requests.{distinct}
use Rattle.clru_text.specs.Lines.{lines_of}
use Rattle.clru_text.proofs.Samples.{all_kept}
use Rattle.clru_report.specs.Passes.{IsFloorFor}
use Rattle.clru_report.proofs.report.report_of_sampled.Goals as goal

pub returns-in-Ok : goal.returns-in-Ok
returns-in-Ok g c =
    let read = c.in_ok-curve.ensures in let lines = lines_of read.0 in
    let of = read.3.0 in let curve = c.in_ok-curve.curve in let whole = all_kept lines in (
      read.0,
      read.1,
      read.2,
      c.in-Ok.ensures read.0 lines (subst (λ ls. HasMissesOf bytes_eq ls curve) whole of.misses)
          (subst (λ ls. length curve ≡ distinct bytes_eq (reverse ls)) whole of.distinct_keys)
          (subst (λ b. IsFloorFor b lines c.in_ok-curve.floor) c.asks_for_floor-floored.ensures
          (subst (λ ls. IsFloorFor c.asks_for_floor-floored.result ls c.in_ok-curve.floor) whole read.3.2)) of.in_bytes,
    )
