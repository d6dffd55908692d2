use Rattle.std.proofs.Common.{string_bytes, sym, subst}
use Rattle.std.specs.Int.NonZero.{non_zero_usize_get}
use Rattle.clru_text.specs.Lines.{lines_of}
use Rattle.clru_text.proofs.ResultLemmas.{err_map, ok_map}
use Rattle.clru_report.specs.SizedAfter.{IsInFormBySizeAfter}
use Rattle.clru_report.proofs.sized.after.sized_report_after.Goals as goal

pub returns-in-Table-clause-report : goal.returns-in-Table-clause-report
returns-in-Table-clause-report g c =
    let read = c.in_ok-curve.ensures.curves in let of = read.3 in let n = non_zero_usize_get c.args.after in
    ok_map c.sized_table_after.result
    (λ text t. (
      read.0,
      read.1,
      read.2,
      (
        of.sizes,
        t.0,
        subst (λ f. IsInFormBySizeAfter n (lines_of read.0) f c.args.options.now (string_bytes text)) (sym c.in-Table.is) t.1,
      ),
    )) (c.sized_table_after.ensures.table n read.0 of)

pub returns-in-Table-clause-refused : goal.returns-in-Table-clause-refused
returns-in-Table-clause-refused g c =
    let read = c.in_ok-curve.ensures.curves in
    err_map c.sized_table_after.result (λ fault t is. (read.0, read.1, read.2, t is))
    (c.sized_table_after.ensures.refused (non_zero_usize_get c.args.after) read.0 read.3)

pub returns-in-Json-clause-report : goal.returns-in-Json-clause-report
returns-in-Json-clause-report g c =
    let read = c.in_ok-curve.ensures.curves in let of = read.3 in let n = non_zero_usize_get c.args.after in
    ok_map c.sized_table_after-in-Json.result
    (λ text t. (
      read.0,
      read.1,
      read.2,
      (
        of.sizes,
        t.0,
        subst (λ f. IsInFormBySizeAfter n (lines_of read.0) f c.args.options.now (string_bytes text)) (sym c.in-Json.is) t.1,
      ),
    )) (c.sized_table_after-in-Json.ensures.table n read.0 of)

pub returns-in-Json-clause-refused : goal.returns-in-Json-clause-refused
returns-in-Json-clause-refused g c =
    let read = c.in_ok-curve.ensures.curves in
    err_map c.sized_table_after-in-Json.result (λ fault t is. (read.0, read.1, read.2, t is))
    (c.sized_table_after-in-Json.ensures.refused (non_zero_usize_get c.args.after) read.0 read.3)

pub returns-in-Picture-clause-report : goal.returns-in-Picture-clause-report
returns-in-Picture-clause-report g c =
    let read = c.in_ok-curve.ensures.curves in let of = read.3 in let n = non_zero_usize_get c.args.after in
    ok_map c.sized_picture_after.result
    (λ text t. (
      read.0,
      read.1,
      read.2,
      (
        of.sizes,
        t.0,
        subst (λ f. IsInFormBySizeAfter n (lines_of read.0) f c.args.options.now (string_bytes text)) (sym c.in-Picture.is) t.1,
      ),
    )) (c.sized_picture_after.ensures.picture n read.0 of)

pub returns-in-Picture-clause-refused : goal.returns-in-Picture-clause-refused
returns-in-Picture-clause-refused g c =
    let read = c.in_ok-curve.ensures.curves in
    err_map c.sized_picture_after.result (λ fault t is. (read.0, read.1, read.2, t is))
    (c.sized_picture_after.ensures.refused (non_zero_usize_get c.args.after) read.0 read.3)
