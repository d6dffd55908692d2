use Rattle.std.proofs.Common.{[], refl, sym, ap, subst}
use Rattle.std.specs.Int.NonZero.{non_zero_usize_get}
use Rattle.std.specs.Prelude.{bytes_eq}
use Rattle.clru_curve.specs.IdlePasses.{HasIdleMissesOf}
use Rattle.clru_curve.specs.PositionPasses.{IsPositionPass}
use Rattle.clru_text.specs.Keys.{same_line}
use Rattle.clru_text.specs.Lines.{lines_of}
use Rattle.clru_text.specs.Times.{kept_requests, requests_of}
use Rattle.clru_report.specs.TimedPasses.{HasTakenTimed, IsNoted, IsTimedLinePass}
use Rattle.clru_report.proofs.TimedLines.{idle_taken, kinds_taken, timed_start, untimed_unwritten}
use Rattle.clru_report.proofs.timed.pass.curve_of_times.Goals as goal

pub read_all-requires-clause-begun : goal.read_all-requires-clause-begun
read_all-requires-clause-begun g c =
    let table = c.new.result in (
      refl,
      timed_start (IsTimedLinePass (IsPositionPass same_line table.limit) table.limit) (non_zero_usize_get c.args.one_in) _ (record {
        noted = subst (λ l. IsNoted l [] table) (sym c.new.ensures.limit) c.new.ensures;
        taken = c.new-2.ensures table.limit;
      }),
    )

pub read_all-requires-clause-unwritten : goal.read_all-requires-clause-unwritten
read_all-requires-clause-unwritten g c lines fault now why = untimed_unwritten lines fault why

pub returns-clause-curve : goal.returns-clause-curve
returns-clause-curve g c =
    let limit = c.new.result.limit in let Is = IsTimedLinePass (IsPositionPass same_line limit) limit in
    let now = c.read_all.new.taker in let read = c.in_ok-requests.ensures.taken in let got = read.3.taken in
    let lines = lines_of read.0 in let n = non_zero_usize_get c.args.one_in in
    let kept = kept_requests n (requests_of lines) in let curve = c.into_curve-curve.result in
    let has = subst (λ k. HasTakenTimed Is k lines now.pass) (ap non_zero_usize_get got.0) got.1 in
    let same = sym c.into_pass.ensures in (
      read.0,
      read.1,
      read.2,
      record {
        timed = has.timed;
        misses = subst (λ l. HasIdleMissesOf bytes_eq l kept curve) c.new.ensures.limit
            (idle_taken Is kept now.pass has.taken limit curve
            (λ past is. c.into_curve-curve.ensures.misses limit past (subst (IsPositionPass same_line limit past) same is.taken)));
        distinct_keys = kinds_taken Is kept now.pass has.taken curve
            (λ past is. c.into_curve-curve.ensures.distinct limit past (subst (IsPositionPass same_line limit past) same is.taken));
        counted = read.3.counted;
        in_bytes = read.3.in_bytes;
      },
    )
