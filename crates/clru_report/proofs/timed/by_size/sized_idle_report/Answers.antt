use Rattle.std.proofs.Common.{◌+◌, None, string_bytes, sym, ap, subst, length, ◌∙◌}
use Rattle.std.specs.Map.{keys_of}
use Rattle.std.proofs.lemmas.Bool.{and_parts}
use Rattle.clru_text.specs.Choices.{is_whole}
use Rattle.clru_text.specs.Lines.{lines_of}
use Rattle.clru_text.specs.Times.{kept_requests, requests_of, rests_of}
use Rattle.clru_text.specs.declared.fault.Fault.TheVariants.{TooSmall}
use Rattle.clru_report.specs.Refusals.{IsRefusedBy, names_below}
use Rattle.clru_report.specs.SampleTables.{IsSampledText}
use Rattle.clru_report.specs.SizedReport.{distinct_size}
use Rattle.clru_report.specs.SizedTimed.{missed_size_under, size_by, sized_misses_under}
use Rattle.clru_report.specs.SizedTimedPasses.{IsSizedTimedCurveOf}
use Rattle.clru_report.specs.Sizes.{greatest_size}
use Rattle.clru_report.specs.Timed.{all_by, kept_in, part_in}
use Rattle.clru_report.proofs.SizedTimedForms.{none_small, sized_form_on, small_alike, too_small, whole_first}
use Rattle.clru_report.proofs.timed.by_size.sized_idle_report.Goals as goal

pub returns-in-Ok-clause-report : goal.returns-in-Ok-clause-report
returns-in-Ok-clause-report g c =
    let options = c.args.options.now in let sample = options.sample in let limits = c.args.limits in
    let read = c.in_ok-curve.ensures.curve in let lines = lines_of read.0 in let curve = c.in_ok-curve.curve in
    let text = string_bytes c.in-Ok.text in let bytes = c.in_ok-curve.bytes in
    let of_kept = subst (λ n. IsSizedTimedCurveOf n c.idle_of-idle.result lines curve c.in_ok-curve.read c.in_ok-curve.size)
    c.kept_in-kept.ensures read.3 in
    let of = subst (λ idle. IsSizedTimedCurveOf (kept_in sample) idle lines curve c.in_ok-curve.read c.in_ok-curve.size)
    c.idle_of-idle.ensures of_kept in
    let kept = kept_requests (kept_in sample) (requests_of lines) in let keys = keys_of kept in
    let n = part_in sample in let all = all_by sample (length lines) in
    let of_part = subst (λ k. IsSampledText curve None options k c.all_of.result c.size_of_all.result options.form bytes text)
    c.part_in.ensures c.in-Ok.ensures in
    let of_all = subst (λ k. IsSampledText curve None options n k c.size_of_all.result options.form bytes text)
    (c.all_of.ensures ∙ ap (all_by sample) of.counted) of_part in
    let of_size = subst (λ k. IsSampledText curve None options n all k options.form bytes text)
    (c.size_of_all.ensures ∙ ap (size_by sample) of.summed) of_all in
    let greatest = ap (λ k. 1 + k) of.of_kept.greatest_weight in
    let small = sym (small_alike options lines sample c.first_capacity-first.result (c.first_capacity-first.ensures ∙ greatest))
    ∙ sym c.names_too_small.ensures ∙ c.if-names_too_small.false in (
      read.0,
      read.1,
      read.2,
      (
        of.timed,
        of.sizes,
        none_small options (rests_of lines) of.no_fault sample small,
        sized_form_on options curve (sized_misses_under limits kept) (missed_size_under limits kept) (greatest_size keys) (distinct_size keys)
            n all _ of.of_kept.misses of.of_kept.missed_size greatest of.of_kept.distinct_size options.form bytes text c.requires of_size,
      ),
    )

pub returns-then-names_too_small-clause-refused : goal.returns-then-names_too_small-clause-refused
returns-then-names_too_small-clause-refused g c of =
    let options = c.args.options.now in let sample = options.sample in
    let read = c.in_ok-curve.ensures.curve in let lines = lines_of read.0 in let curve = c.in_ok-curve.curve in
    let is = subst (λ n. IsSizedTimedCurveOf n c.idle_of-idle.result lines curve c.in_ok-curve.read c.in_ok-curve.size)
    c.kept_in-kept.ensures read.3 in
    let first = c.first_capacity-first.ensures ∙ ap (λ k. 1 + k) is.of_kept.greatest_weight in
    let small = and_parts (is_whole sample) (names_below options.capacities (greatest_size (rests_of lines)))
    (sym (small_alike options lines sample c.first_capacity-first.result first) ∙ sym c.names_too_small.ensures ∙ c.if-names_too_small.true) in (
      read.0,
      read.1,
      read.2,
      subst (λ k. IsRefusedBy sample (TooSmall k) options (rests_of lines)) (sym (first ∙ whole_first options lines sample small.0))
          (too_small options (rests_of lines) is.no_fault sample c.requires is.sizes small.0 small.1),
    )
