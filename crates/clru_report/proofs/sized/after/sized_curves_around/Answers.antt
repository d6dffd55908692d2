use Rattle.std.proofs.Common.{is_some, refl, ap, subst, arith}
use Rattle.std.specs.Int.NonZero.{non_zero_usize_get}
use Rattle.std.specs.Prelude.{bytes_eq}
use Rattle.clru_curve.specs.SizedCurves.{IsSizedCurveOf}
use Rattle.clru_text.specs.Lines.{lines_of}
use Rattle.clru_text.specs.Sizes.{weight_of_line}
use Rattle.clru_text.proofs.Samples.{all_kept}
use Rattle.clru_report.specs.SizedAfterPasses.{IsSizedHead}
use Rattle.clru_report.specs.SizedLinePasses.{HasTakenOf}
use Rattle.clru_report.proofs.FaultLemmas.{lines_unwritten}
use Rattle.clru_report.proofs.SettledCurves.{settled_curve}
use Rattle.clru_report.proofs.SizedAfterLemmas.{head_stays}
use Rattle.clru_report.proofs.SizedSamples.{added_free}
use Rattle.clru_report.proofs.sized.after.sized_curves_around.Goals as goal

pub read_all-requires-clause-begun : goal.read_all-requires-clause-begun
read_all-requires-clause-begun g c = (refl, refl, ap non_zero_usize_get c.new.ensures.sample, omega arith, c.new.ensures.taken)

pub read_all-requires-clause-unwritten : goal.read_all-requires-clause-unwritten
read_all-requires-clause-unwritten g c lines fault now why = lines_unwritten lines fault why.0

pub returns-in-Ok-clause-curves : goal.returns-in-Ok-clause-curves
returns-in-Ok-clause-curves g c =
    let read = c.in_ok-read_all.ensures.taken in let got = read.3.taken in let now = c.read_all.new.taker in let lines = lines_of read.0 in
    let all = now.lines in let first = c.new.result in let curve = c.in-Ok.curve in
    let has = subst (λ k. HasTakenOf (is_some first.reuses) k lines all.size all.pass all.reuses) got.2 got.4 in (
      read.0,
      read.1,
      read.2,
      record {
        sizes = has.added.sizes;
        whole = subst (λ ls. IsSizedCurveOf bytes_eq weight_of_line ls curve) (all_kept lines)
            (c.in-Ok.ensures.curve (is_some first.reuses) 1 lines has).0;
        before = subst (λ n. IsSizedHead n lines now.head) (ap non_zero_usize_get got.0) got.3;
        no_fault = added_free lines all.size has.added;
      },
    )

pub returns-in-Ok-clause-settled : goal.returns-in-Ok-clause-settled
returns-in-Ok-clause-settled g c =
    let made = returns-in-Ok-clause-curves g c in settled_curve (lines_of made.0) c.in-Ok.curve made.3.whole

pub returns-in-Ok-clause-stays : goal.returns-in-Ok-clause-stays
returns-in-Ok-clause-stays g c =
    let made = returns-in-Ok-clause-curves g c in
    head_stays (non_zero_usize_get c.args.after) (lines_of made.0) c.in-Ok.curve c.read_all.new.taker.head made.3.whole made.3.before
