use Rattle.std.proofs.Common.{◌≡◌, ◌∙◌, sym, ap, subst, cond, map, length, arith}
use Rattle.std.specs.Int.NonZero.{non_zero_usize_get}
use Rattle.std.specs.Option.{is_none}
use Rattle.clru_text.specs.Lines.{lines_of}
use Rattle.clru_text.specs.Samples.{kept_of}
use Rattle.clru_report.specs.KeyLogs.{lines_in}
use Rattle.clru_report.specs.OneSize.{one_size, with_greatest}
use Rattle.clru_report.specs.Passes.{AreFloorsFor, IsSizedCurveOfKept}
use Rattle.clru_report.proofs.sized.one_size.curve_with_one_size.Goals as goal

pub returns-clause-curve : goal.returns-clause-curve
returns-clause-curve g c =
    let read = c.in_ok-log.ensures.log in let lines = lines_of read.0 in let n = non_zero_usize_get c.args.one_in in
    let curve = c.in_ok-curve.curve in let size = c.in_ok-curve.size in let found = c.in_ok-curve.ensures.curve read.0 in
    let long : c.len-requests.result ≡ length c.in_ok-log.log.requests.items = omega (arith, c.len-requests.ensures) in
    let same : lines_in c.in_ok-log.log ≡ one_size lines =
    read.3.1 ∙ sym (ap (λ o. cond (is_none o) (map (with_greatest lines) lines) lines) read.3.0) in (
      read.0,
      read.1,
      read.2,
      (
        subst (λ ls. IsSizedCurveOfKept n read.0 ls curve c.len-requests.result size c.in_ok-log.bytes) same
            (subst (λ b. IsSizedCurveOfKept n read.0 (lines_in c.in_ok-log.log) curve c.len-requests.result size b) (sym read.3.2)
            (subst (λ k. IsSizedCurveOfKept n read.0 (lines_in c.in_ok-log.log) curve k size (length read.0)) (sym long) found.0)),
        subst (λ ls. AreFloorsFor c.args.floored (kept_of n ls) c.in_ok-curve.floors) same found.1,
      ),
    )
