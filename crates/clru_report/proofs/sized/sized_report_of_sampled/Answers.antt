use Rattle.std.proofs.Common.{◌-◌, ◌^◌, ap, ◌∙◌, string_bytes, subst}
use Rattle.std.specs.Int.NonZero.{non_zero_usize_get}
use Rattle.clru_text.specs.Lines.{lines_of}
use Rattle.clru_text.specs.Samples.{times}
use Rattle.clru_text.proofs.Samples.{all_kept}
use Rattle.clru_report.specs.OneSize.{counted_lines}
use Rattle.clru_report.specs.Passes.{AreFloorsFor}
use Rattle.clru_report.specs.SizedReport.{IsInFormBySizeOfSample}
use Rattle.clru_report.proofs.SizedSamples.{of_all, sampled_form}
use Rattle.clru_report.proofs.sized.sized_report_of_sampled.Goals as goal

pub returns-in-Ok-clause-report : goal.returns-in-Ok-clause-report
returns-in-Ok-clause-report g c =
    let options = c.args.options.now in let n = non_zero_usize_get c.args.one_in in
    let read = c.in_ok-curve.ensures.curve in let lines = counted_lines options.one_size (lines_of read.0) in let of = read.3.0 in let floors = c.in_ok-curve.floors in
    let both = subst (λ b. AreFloorsFor b lines floors) c.asks_for_floor-floored.ensures
    (subst (λ ls. AreFloorsFor c.asks_for_floor-floored.result ls floors) (all_kept lines) read.3.1) in
    let whole = of_all read.0 lines c.in_ok-curve.curve _ c.in_ok-curve.size c.in_ok-curve.bytes of in (
      read.0,
      read.1,
      read.2,
      (
        of.sizes,
        of.no_fault,
        subst (λ s. IsInFormBySizeOfSample options n c.args.requests s lines options.form read.0 (string_bytes c.in-Ok.text))
            (c.times.ensures ∙ ap (times n (2 ^ 64 - 1)) of.summed) (sampled_form lines c.in_ok-curve.curve whole options
            floors n c.args.requests c.times.result options.form read.0 (string_bytes c.in-Ok.text) c.in_ok-curve.bytes both of.in_bytes c.in-Ok.ensures),
      ),
    )
