use Rattle.std.proofs.Common.{◌≡◌, ◌-◌, ◌^◌, ◌≤◌, [], length, map, string_bytes, refl, sym, ap, subst, ◌∙◌, arith}
use Rattle.std.specs.Int.NonZero.{non_zero_usize_get}
use Rattle.std.specs.Map.{keys_of}
use Rattle.std.specs.Prelude.{bytes_eq}
use Rattle.std.proofs.lemmas.Bool.{and_parts}
use Rattle.clru_curve.specs.SizedAgedPasses.{IsSizedAgedPass, aged_missed_size, aged_misses_by_size}
use Rattle.clru_text.specs.Choices.{is_whole}
use Rattle.clru_text.specs.Keys.{same_line}
use Rattle.clru_text.specs.Lines.{lines_of}
use Rattle.clru_text.specs.Sizes.{weight_of_line}
use Rattle.clru_text.specs.Times.{kept_requests, requests_of, rests_of}
use Rattle.clru_text.specs.declared.fault.Fault.TheVariants.{TooSmall}
use Rattle.clru_text.proofs.ByteLemmas.{bytes_laws}
use Rattle.clru_report.specs.Capacities.{aged_capacities}
use Rattle.clru_report.specs.Passes.{weight_of_key}
use Rattle.clru_report.specs.Refusals.{IsRefusedBy, names_below}
use Rattle.clru_report.specs.SizedReport.{distinct_size}
use Rattle.clru_report.specs.SizedTimed.{IsSizedTableAt, missed_size_in_age, size_by, sized_misses_in_age}
use Rattle.clru_report.specs.SizedTimedPasses.{HasTakenSizedTimed}
use Rattle.clru_report.specs.Sizes.{greatest_size}
use Rattle.clru_report.specs.Timed.{all_by, kept_in, part_in}
use Rattle.clru_report.proofs.AgedCapacities.{aged_missed_alike, aged_misses_alike, numbers_at}
use Rattle.clru_report.proofs.SettledCurves.{same_weights}
use Rattle.clru_report.proofs.SizedTimedForms.{none_small, small_alike, too_small, whole_first}
use Rattle.clru_report.proofs.FaultLemmas.{lines_unwritten}
use Rattle.clru_report.proofs.SizedSamples.{added_free}
use Rattle.clru_report.proofs.SizedTimedLines.{sized_aged_first, sized_aged_missed, sized_aged_misses, sized_aged_size, sized_start}
use Rattle.clru_report.proofs.TimedLines.{aged_own}
use Rattle.clru_report.proofs.timed.sized_aged.sized_aged_report.Goals as goal

pub read_all-requires-clause-begun : goal.read_all-requires-clause-begun
read_all-requires-clause-begun g c =
    let pass = c.in-Ok.pass in let is = c.in-Ok.ensures weight_of_key in (
      refl,
      sized_start (λ past p. IsSizedAgedPass same_line weight_of_key pass.fetches.capacities pass.idle pass.fetches.age past p)
          (non_zero_usize_get c.kept_in.result) pass
          (aged_own same_line weight_of_key (aged_capacities c.args.options.now.capacities (2 ^ 64 - 1)) c.args.limits.max_idle c.args.age [] pass pass
          is.places is.idle_limit is.age_limit is),
    )

pub read_all-requires-clause-unwritten : goal.read_all-requires-clause-unwritten
read_all-requires-clause-unwritten g c lines fault now why = lines_unwritten (rests_of lines) fault why.0

pub returns-in-Ok-table_of_sizes-clause-report : goal.returns-in-Ok-table_of_sizes-clause-report
returns-in-Ok-table_of_sizes-clause-report g c =
    let options = c.args.options.now in let sample = options.sample in let limits = c.args.limits in let age = c.args.age in
    let pass = c.in-Ok.pass in let is = c.in-Ok.ensures weight_of_key in let cs = aged_capacities options.capacities (2 ^ 64 - 1) in
    let caps = pass.fetches.capacities in let idle = pass.idle in let old = pass.fetches.age in
    let now = c.read_all.new.taker in let read = c.in_ok-read.ensures.taken in let got = read.3.taken in let lines = lines_of read.0 in
    let kept = kept_requests (kept_in sample) (requests_of lines) in
    let has = subst (λ n. HasTakenSizedTimed (λ past p. IsSizedAgedPass same_line weight_of_key caps idle old past p) n lines now.size now.lines.pass)
    (ap non_zero_usize_get got.0 ∙ c.kept_in.ensures) got.1 in
    let m = sized_misses_in_age age limits kept in let s = missed_size_in_age age limits kept in
    let misses : c.misses.result.now ≡ map m cs =
    sized_aged_misses caps idle old kept now.lines.pass has.timed.taken c.misses.result.now
    (λ past of. c.misses.ensures weight_of_key caps idle old past of)
    ∙ ap (map (λ k. aged_misses_by_size bytes_eq weight_of_line idle old k kept)) is.places
    ∙ ap (λ i. map (λ k. aged_misses_by_size bytes_eq weight_of_line i old k kept) cs) is.idle_limit
    ∙ ap (λ a. map (λ k. aged_misses_by_size bytes_eq weight_of_line limits.max_idle a k kept) cs) is.age_limit in
    let missed : c.missed_sizes.result.now ≡ map s cs =
    sized_aged_missed caps idle old kept now.lines.pass has.timed.taken c.missed_sizes.result.now
    (λ past of. c.missed_sizes.ensures weight_of_key caps idle old past of)
    ∙ ap (map (λ k. aged_missed_size bytes_eq weight_of_line idle old k kept)) is.places
    ∙ ap (λ i. map (λ k. aged_missed_size bytes_eq weight_of_line i old k kept) cs) is.idle_limit
    ∙ ap (λ a. map (λ k. aged_missed_size bytes_eq weight_of_line limits.max_idle a k kept) cs) is.age_limit in
    let first = sized_aged_first caps idle old kept now.lines.pass has.timed.taken c.first_of-first.result
    (λ past of. c.first_of-first.ensures caps idle old past of) in
    let free = added_free (rests_of lines) now.size has.added in
    let small = sym (small_alike options lines sample c.first_of-first.result first) ∙ sym c.names_too_small.ensures ∙ c.if-names_too_small.false in
    let n = part_in sample in let all = all_by sample (length lines) in let g = greatest_size (keys_of kept) in
    let d = distinct_size (keys_of kept) in let own = c.distinct_size-together.result in
    let size = sized_aged_size caps idle old kept now.lines.pass has.timed.taken own
    (λ past of. c.distinct_size-together.ensures weight_of_key caps idle old past of) in
    let few : distinct_size (keys_of kept) ≤ own = omega (arith, size) in
    let many = numbers_at options.capacities own (omega arith) m
    (λ a b alike. aged_misses_alike bytes_eq bytes_laws weight_of_line same_weights own a b alike limits.max_idle age kept few) c.misses.result.now misses in
    let much = numbers_at options.capacities own (omega arith) s
    (λ a b alike. aged_missed_alike bytes_eq bytes_laws weight_of_line same_weights own a b alike limits.max_idle age kept few) c.missed_sizes.result.now missed in
    let text = string_bytes c.in-Ok-table_of_sizes.text in
    let of_first = subst (λ k. IsSizedTableAt options m s k own (non_zero_usize_get c.part_in.result) c.all_of.result c.size_of_all.result text) first
    (c.in-Ok-table_of_sizes.ensures m s many much) in
    let of_size = subst (λ k. IsSizedTableAt options m s g k (non_zero_usize_get c.part_in.result) c.all_of.result c.size_of_all.result text) size of_first in
    let of_part = subst (λ k. IsSizedTableAt options m s g d k c.all_of.result c.size_of_all.result text) c.part_in.ensures of_size in
    let of_all = subst (λ k. IsSizedTableAt options m s g d n k c.size_of_all.result text) (c.all_of.ensures ∙ ap (all_by sample) read.3.counted) of_part in (
      read.0,
      read.1,
      read.2,
      (
        has.timed.timed,
        has.added.sizes,
        none_small options (rests_of lines) free sample small,
        subst (λ k. IsSizedTableAt options m s g d n all k text) (c.size_of_all.ensures ∙ ap (size_by sample) has.added.summed) of_all,
      ),
    )

pub returns-then-names_too_small-clause-refused : goal.returns-then-names_too_small-clause-refused
returns-then-names_too_small-clause-refused g c of =
    let options = c.args.options.now in let sample = options.sample in let pass = c.in-Ok.pass in
    let caps = pass.fetches.capacities in let idle = pass.idle in let old = pass.fetches.age in
    let now = c.read_all.new.taker in let read = c.in_ok-read.ensures.taken in let got = read.3.taken in let lines = lines_of read.0 in
    let kept = kept_requests (kept_in sample) (requests_of lines) in
    let has = subst (λ n. HasTakenSizedTimed (λ past p. IsSizedAgedPass same_line weight_of_key caps idle old past p) n lines now.size now.lines.pass)
    (ap non_zero_usize_get got.0 ∙ c.kept_in.ensures) got.1 in
    let first = sized_aged_first caps idle old kept now.lines.pass has.timed.taken c.first_of-first.result
    (λ past of. c.first_of-first.ensures caps idle old past of) in
    let free = added_free (rests_of lines) now.size has.added in
    let small = and_parts (is_whole sample) (names_below options.capacities (greatest_size (rests_of lines)))
    (sym (small_alike options lines sample c.first_of-first.result first) ∙ sym c.names_too_small.ensures ∙ c.if-names_too_small.true) in (
      read.0,
      read.1,
      read.2,
      subst (λ k. IsRefusedBy sample (TooSmall k) options (rests_of lines)) (sym (first ∙ whole_first options lines sample small.0))
          (too_small options (rests_of lines) free sample c.requires has.added.sizes small.0 small.1),
    )
