use Rattle.std.proofs.Common.{Some, None, [], length, sym, subst}
use Rattle.std.proofs.lemmas.Bool.{lt-ltb}
use Rattle.clru_curve.specs.SizedCurves.{misses_within, missed_size_within}
use Rattle.clru_text.proofs.ResultLemmas.{ok_map}
use Rattle.clru_report.specs.SizedAfter.{AreSizedCounted}
use Rattle.clru_report.specs.SizedAfterPasses.{IsSizedHead}
use Rattle.clru_report.proofs.SizedAfterLemmas.{counted_are, rows_fit, too_small}
use Rattle.clru_report.proofs.sized.after.sized_counted.Goals as goal

pub returns-in-Some-clause-counted : goal.returns-in-Some-clause-counted
returns-in-Some-clause-counted g c n lines is before count size =
    let options = c.args.options.now in let curve = c.args.curve.now in
    let head : IsSizedHead n lines (Some c.in-Some.head) = subst (IsSizedHead n lines) c.in-Some.is before in
    ok_map c.sized_counted_behind.result
    (λ found of. subst (λ b. AreSizedCounted n lines b options found.knees.items found.rows.items) (sym (lt-ltb n (length lines) head.0))
    (counted_are n lines curve c.in-Some.head is head.1 c.args.totals.requests c.args.totals.size options found.knees.items
    found.rows.items of count size))
    c.sized_counted_behind.ensures.counted

pub returns-in-Err-clause-refused : goal.returns-in-Err-clause-refused
returns-in-Err-clause-refused g c of =
    let curve = c.args.curve.now in
    too_small curve c.args.options.now.capacities (misses_within curve) (missed_size_within curve) curve.requests curve.size [] c.in-Err.fault tt c.in-Err.ensures.refused of

pub returns-in-Ok-clause-free : goal.returns-in-Ok-clause-free
returns-in-Ok-clause-free g c =
    let curve = c.args.curve.now in
    rows_fit curve c.args.options.now.capacities (misses_within curve) (missed_size_within curve) curve.requests curve.size [] {B = g.row.A.Denot} None _ c.in-Ok.ensures.rows
