use Rattle.std.proofs.Common.{length, string_bytes, subst}
use Rattle.std.specs.Int.NonZero.{non_zero_usize_get}
use Rattle.clru_text.specs.Lines.{lines_of}
use Rattle.clru_text.specs.Samples.{kept_of}
use Rattle.clru_report.specs.OneSize.{counted_lines}
use Rattle.clru_report.specs.Passes.{AreFloorsFor}
use Rattle.clru_report.specs.SizedReport.{IsInFormBySizeOfSample}
use Rattle.clru_report.proofs.SizedSamples.{sampled_form}
use Rattle.clru_report.proofs.sized.sized_report_of_sample.Goals as goal

pub returns-in-Ok-clause-report : goal.returns-in-Ok-clause-report
returns-in-Ok-clause-report g c =
    let options = c.args.options.now in let n = non_zero_usize_get c.args.one_in in
    let read = c.in_ok-curve.ensures.curve in let lines = counted_lines options.one_size (lines_of read.0) in let of = read.3.0 in
    let kept = kept_of n lines in let text = string_bytes c.in-Ok.text in
    let both = subst (λ b. AreFloorsFor b kept c.in_ok-curve.floors) c.asks_for_floor-floored.ensures read.3.1 in (
      read.0,
      read.1,
      read.2,
      (
        of.sizes,
        of.no_fault,
        subst (λ s. IsInFormBySizeOfSample options n (length lines) s kept options.form read.0 text) of.summed
            (subst (λ r. IsInFormBySizeOfSample options n r c.in_ok-curve.size kept options.form read.0 text) of.counted
            (sampled_form kept c.in_ok-curve.curve of.of_kept options c.in_ok-curve.floors n c.in_ok-curve.requests c.in_ok-curve.size
            options.form read.0 text c.in_ok-curve.bytes both of.in_bytes c.in-Ok.ensures)),
      ),
    )
