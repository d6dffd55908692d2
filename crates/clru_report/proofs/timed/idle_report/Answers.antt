use Rattle.std.proofs.Common.{◌-◌, ◌^◌, string_bytes, ap, subst, length, ◌∙◌}
use Rattle.std.specs.Int.NonZero.{non_zero_usize_get}
use Rattle.std.specs.Map.{keys_of}
use Rattle.std.specs.Prelude.{bytes_eq, reverse}
use Rattle.clru_model.specs.Requests.{distinct}
use Rattle.clru_text.specs.Lines.{lines_of}
use Rattle.clru_text.specs.Samples.{times}
use Rattle.clru_text.specs.Times.{kept_requests, requests_of}
use Rattle.clru_report.specs.Timed.{IsInFormOn, all_by, kept_in, misses_under, part_in}
use Rattle.clru_report.specs.TimedPasses.{IsTimedCurveOf}
use Rattle.clru_report.proofs.timed.idle_report.Goals as goal

pub returns-in-Ok-clause-report : goal.returns-in-Ok-clause-report
returns-in-Ok-clause-report g c =
    let options = c.args.options.now in let sample = options.sample in let limits = c.args.limits in
    let read = c.in_ok-curve.ensures.curve in let lines = lines_of read.0 in
    let curve = c.in_ok-curve.curve in let bytes = c.in_ok-curve.bytes in
    let of_kept = subst (λ n. IsTimedCurveOf n c.idle_of.result read.0 curve c.in_ok-curve.read bytes) c.kept_in-kept.ensures read.3 in
    let of = subst (λ idle. IsTimedCurveOf (kept_in sample) idle read.0 curve c.in_ok-curve.read bytes) c.idle_of.ensures of_kept in
    let kept = kept_requests (kept_in sample) (requests_of lines) in let m = misses_under limits kept in
    let keys = distinct bytes_eq (reverse (keys_of kept)) in let text = string_bytes c.in-Ok.text in
    let part = non_zero_usize_get c.part_in-part.result in
    let kinds = c.times.ensures ∙ ap (times part (2 ^ 64 - 1)) (c.distinct.ensures ∙ of.distinct_keys) in
    let made = c.in-Ok.ensures m keys of.misses of.distinct_keys kinds in
    let of_part = subst (λ n. IsInFormOn options m keys n c.all_of.result options.form bytes text) c.part_in-part.ensures made in
    let of_all = subst (λ all. IsInFormOn options m keys (part_in sample) all options.form bytes text)
    (c.all_of.ensures ∙ ap (all_by sample) of.counted) of_part in (
      read.0,
      read.1,
      read.2,
      (of.timed, subst (λ b. IsInFormOn options m keys (part_in sample) (all_by sample (length lines)) options.form b text) of.in_bytes of_all),
    )
