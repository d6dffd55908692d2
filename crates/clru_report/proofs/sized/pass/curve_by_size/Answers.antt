use Rattle.std.proofs.Common.{is_some, refl, ap, ◌∙◌, subst}
use Rattle.std.specs.Int.NonZero.{non_zero_usize_get}
use Rattle.clru_text.specs.Lines.{lines_of}
use Rattle.clru_text.specs.Samples.{kept_of}
use Rattle.clru_report.specs.SizedLinePasses.{HasTakenOf}
use Rattle.clru_report.proofs.FaultLemmas.{lines_unwritten}
use Rattle.clru_report.proofs.SettledCurves.{settled_curve}
use Rattle.clru_report.proofs.SizedSamples.{added_free}
use Rattle.clru_report.proofs.sized.pass.curve_by_size.Goals as goal

pub read_all-requires-clause-begun : goal.read_all-requires-clause-begun
read_all-requires-clause-begun g c = (refl, c.new-lines.ensures.taken)

pub read_all-requires-clause-unwritten : goal.read_all-requires-clause-unwritten
read_all-requires-clause-unwritten g c lines fault now why = lines_unwritten lines fault why.0

pub returns-clause-curve : goal.returns-clause-curve
returns-clause-curve g c =
    let read = c.in_ok-requests.ensures.taken in let got = read.3.taken in let now = c.read_all.new.taker in let lines = lines_of read.0 in
    let n = non_zero_usize_get c.args.one_in in let first = c.new-lines.result in let e = c.in-Ok.ensures in
    let kept = subst (λ k. HasTakenOf (is_some first.reuses) k lines now.size now.pass now.reuses)
    (ap non_zero_usize_get (got.0 ∙ c.new-lines.ensures.sample)) got.1 in
    let has = subst (λ b. HasTakenOf b n lines now.size now.pass now.reuses) c.new-lines.ensures.floored kept in
    let made = e.curve c.args.floored n lines has in (
      read.0,
      read.1,
      read.2,
      (
        record {
          sizes = has.added.sizes;
          of_kept = made.0;
          no_fault = added_free lines now.size has.added;
          counted = read.3.counted;
          summed = e.size ∙ has.added.summed;
          in_bytes = read.3.in_bytes;
        },
        made.1,
      ),
    )

pub returns-clause-settled : goal.returns-clause-settled
returns-clause-settled g c =
    let made = returns-clause-curve g c in
    settled_curve (kept_of (non_zero_usize_get c.args.one_in) (lines_of made.0)) c.in-Ok.curve made.3.0.of_kept
