use Rattle.std.proofs.Common.{[], refl, sym, ap, subst}
use Rattle.std.specs.Int.NonZero.{non_zero_usize_get}
use Rattle.std.specs.Prelude.{bytes_eq}
use Rattle.clru_curve.specs.SizedIdlePasses.{IsSizedIdleCurveOf}
use Rattle.clru_curve.specs.SizedPositionPasses.{IsSizedPositionPass}
use Rattle.clru_text.specs.Keys.{same_line}
use Rattle.clru_text.specs.Lines.{lines_of}
use Rattle.clru_text.specs.Sizes.{weight_of_line}
use Rattle.clru_text.specs.Times.{kept_requests, requests_of, rests_of}
use Rattle.clru_report.specs.Passes.{weight_of_key}
use Rattle.clru_report.specs.SizedTimedPasses.{HasTakenSizedTimed}
use Rattle.clru_report.specs.TimedPasses.{IsNoted, IsTimedLinePass}
use Rattle.clru_report.proofs.SettledIdle.{settled_idle}
use Rattle.clru_report.proofs.FaultLemmas.{lines_unwritten}
use Rattle.clru_report.proofs.SizedSamples.{added_free}
use Rattle.clru_report.proofs.SizedTimedLines.{sized_idle_taken, sized_start}
use Rattle.clru_report.proofs.timed.sized_pass.curve_of_sized_times.Goals as goal

pub read_all-requires-clause-begun : goal.read_all-requires-clause-begun
read_all-requires-clause-begun g c =
    let table = c.new.result in (
      refl,
      sized_start (IsTimedLinePass (IsSizedPositionPass same_line weight_of_key table.limit) table.limit) (non_zero_usize_get c.args.one_in) _
          (record {
            noted = subst (λ l. IsNoted l [] table) (sym c.new.ensures.limit) c.new.ensures;
            taken = c.new-2.ensures weight_of_key table.limit;
          }),
    )

pub read_all-requires-clause-unwritten : goal.read_all-requires-clause-unwritten
read_all-requires-clause-unwritten g c lines fault now why = lines_unwritten (rests_of lines) fault why.0

pub returns-clause-curve : goal.returns-clause-curve
returns-clause-curve g c =
    let limit = c.new.result.limit in let Is = IsTimedLinePass (IsSizedPositionPass same_line weight_of_key limit) limit in
    let now = c.read_all.new.taker in let read = c.in_ok-requests.ensures.taken in let got = read.3.taken in
    let lines = lines_of read.0 in let n = non_zero_usize_get c.args.one_in in
    let kept = kept_requests n (requests_of lines) in let curve = c.into_curve-curve.result in
    let has = subst (λ k. HasTakenSizedTimed Is k lines now.size now.lines.pass) (ap non_zero_usize_get got.0) got.1 in
    let same = sym c.into_pass.ensures in (
      read.0,
      read.1,
      read.2,
      record {
        timed = has.timed.timed;
        sizes = has.added.sizes;
        no_fault = added_free (rests_of lines) now.size has.added;
        of_kept = subst (λ l. IsSizedIdleCurveOf bytes_eq weight_of_line l kept curve) c.new.ensures.limit
            (sized_idle_taken Is limit kept now.lines.pass curve has.timed.taken
            (λ past is. c.into_curve-curve.ensures.curve weight_of_key limit past
            (subst (IsSizedPositionPass same_line weight_of_key limit past) same is.taken)));
        counted = read.3.counted;
        summed = has.added.summed;
      },
    )

pub returns-clause-settled : goal.returns-clause-settled
returns-clause-settled g c =
    let made = returns-clause-curve g c in
    settled_idle c.args.idle (kept_requests (non_zero_usize_get c.args.one_in) (requests_of (lines_of made.0))) c.into_curve-curve.result made.3.of_kept
