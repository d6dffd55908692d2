use Rattle.std.proofs.Common.{◌≡◌, ◌-◌, ◌^◌, [], map, reverse, string_bytes, refl, ap, subst, ◌∙◌, arith}
use Rattle.std.specs.Int.NonZero.{non_zero_usize_get}
use Rattle.std.specs.Map.{keys_of}
use Rattle.std.specs.Prelude.{bytes_eq}
use Rattle.clru_curve.specs.AgedPasses.{IsAgedPass, aged_misses_at}
use Rattle.clru_model.specs.Requests.{distinct}
use Rattle.clru_text.specs.Keys.{same_line}
use Rattle.clru_text.specs.Lines.{lines_of}
use Rattle.clru_text.specs.Times.{kept_requests, requests_of}
use Rattle.clru_text.proofs.ByteLemmas.{bytes_laws}
use Rattle.clru_report.specs.Capacities.{aged_capacities}
use Rattle.clru_report.specs.Timed.{IsTableAt, all_by, kept_in, misses_in_age, part_in}
use Rattle.clru_report.specs.TimedPasses.{HasTakenTimed}
use Rattle.clru_report.proofs.AgedCapacities.{aged_keys_alike, numbers_at}
use Rattle.clru_report.proofs.TimedLines.{aged_keys, aged_own, aged_taken, timed_start, untimed_unwritten}
use Rattle.clru_report.proofs.timed.aged.aged_report.Goals as goal

pub read_all-requires-clause-begun : goal.read_all-requires-clause-begun
read_all-requires-clause-begun g c =
    let pass = c.in-Ok.pass in let is = c.in-Ok.ensures (λ _. 0) in (
      refl,
      timed_start (λ past p. IsAgedPass same_line pass.fetches.capacities pass.idle pass.fetches.age past p)
          (non_zero_usize_get c.kept_in.result) pass
          (aged_own same_line (λ _. 0) (aged_capacities c.args.options.now.capacities (2 ^ 64 - 1)) c.args.limits.max_idle c.args.age [] pass pass
          is.places is.idle_limit is.age_limit is),
    )

pub read_all-requires-clause-unwritten : goal.read_all-requires-clause-unwritten
read_all-requires-clause-unwritten g c lines fault now why = untimed_unwritten lines fault why

pub returns-in-Ok-table_of_misses-clause-report : goal.returns-in-Ok-table_of_misses-clause-report
returns-in-Ok-table_of_misses-clause-report g c =
    let options = c.args.options.now in let sample = options.sample in let limits = c.args.limits in let age = c.args.age in
    let pass = c.in-Ok.pass in let is = c.in-Ok.ensures (λ _. 0) in let cs = aged_capacities options.capacities (2 ^ 64 - 1) in
    let now = c.read_all.new.taker in let read = c.in_ok-read.ensures.taken in let got = read.3.taken in
    let kept = kept_requests (kept_in sample) (requests_of (lines_of read.0)) in
    let has = subst (λ n. HasTakenTimed (λ past p. IsAgedPass same_line pass.fetches.capacities pass.idle pass.fetches.age past p) n
    (lines_of read.0) now.pass) (ap non_zero_usize_get got.0 ∙ c.kept_in.ensures) got.1 in
    let each : c.misses.result.now ≡ map (misses_in_age age limits kept) cs =
    aged_taken pass.fetches.capacities pass.idle pass.fetches.age kept now.pass has.taken c.misses.result.now
    (λ past of. c.misses.ensures (λ _. 0) pass.fetches.capacities pass.idle pass.fetches.age past of)
    ∙ ap (map (λ k. aged_misses_at bytes_eq pass.idle pass.fetches.age k kept)) is.places
    ∙ ap (λ i. map (λ k. aged_misses_at bytes_eq i pass.fetches.age k kept) cs) is.idle_limit
    ∙ ap (λ a. map (λ k. aged_misses_at bytes_eq limits.max_idle a k kept) cs) is.age_limit in
    let keys = aged_keys pass.fetches.capacities pass.idle pass.fetches.age kept now.pass has.taken c.distinct_size-keys.result
    (λ past of. c.distinct_size-keys.ensures (λ _. 0) pass.fetches.capacities pass.idle pass.fetches.age past of) in
    let m = misses_in_age age limits kept in let text = string_bytes c.in-Ok-table_of_misses.text in let n = c.distinct_size-keys.result in
    let at = numbers_at options.capacities n (omega arith) m
    (λ a b alike. aged_keys_alike bytes_eq bytes_laws n a b alike limits.max_idle age kept (omega (arith, keys))) c.misses.result.now each in
    let of_keys = subst (λ k. IsTableAt options m k (non_zero_usize_get c.part_in-part.result) c.all_of-all.result text) keys
    (c.in-Ok-table_of_misses.ensures m at) in
    let k = distinct bytes_eq (reverse (keys_of kept)) in
    let of_part = subst (λ p. IsTableAt options m k p c.all_of-all.result text) c.part_in-part.ensures of_keys in (
      read.0,
      read.1,
      read.2,
      (
        has.timed,
        subst (λ all. IsTableAt options m k (part_in sample) all text) (c.all_of-all.ensures ∙ ap (all_by sample) read.3.counted) of_part,
      ),
    )
