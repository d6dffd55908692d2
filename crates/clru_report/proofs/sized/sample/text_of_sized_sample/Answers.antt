use Rattle.std.proofs.Common.{false, string_bytes, sym, subst}
use Rattle.std.specs.Int.NonZero.{non_zero_usize_get}
use Rattle.clru_text.proofs.ResultLemmas.{ok_map}
use Rattle.clru_report.specs.SampleTables.{IsSampledTable, IsSampledText}
use Rattle.clru_report.proofs.sized.sample.text_of_sized_sample.Goals as goal

pub returns-in-Table : goal.returns-in-Table
returns-in-Table g c =
    let totals = c.args.totals in
    let shows = IsSampledText c.args.curve.now c.args.floors.now c.args.options.now (non_zero_usize_get totals.one_in) totals.requests totals.size in
    ok_map c.table_of_sized_sample.result
    (λ text t. subst (λ f. shows f c.args.bytes (string_bytes text)) (sym c.in-Table.is) t) c.table_of_sized_sample.ensures

pub returns-in-Json : goal.returns-in-Json
returns-in-Json g c =
    let totals = c.args.totals in
    let shows = IsSampledText c.args.curve.now c.args.floors.now c.args.options.now (non_zero_usize_get totals.one_in) totals.requests totals.size in
    ok_map c.table_of_sized_sample-in-Json.result
    (λ text t. subst (λ f. shows f c.args.bytes (string_bytes text)) (sym c.in-Json.is) t) c.table_of_sized_sample-in-Json.ensures

pub returns-in_ok-table-in-Picture : goal.returns-in_ok-table-in-Picture
returns-in_ok-table-in-Picture g c =
    let options = c.args.options.now in let totals = c.args.totals in let n = non_zero_usize_get totals.one_in in
    let curve = c.args.curve.now in let floors = c.args.floors.now in
    let shows = IsSampledText curve floors options n totals.requests totals.size in
    let table = subst (IsSampledTable curve floors options n totals.requests totals.size false) (sym c.deref.ensures) c.in_ok-table-in-Picture.ensures in
    ok_map c.picture_by_size.result
    (λ text t. subst (λ f. shows f c.args.bytes (string_bytes text)) (sym c.in-Picture.is) (c.deref.result.now, table, t))
    c.picture_by_size.ensures

pub returns-in-Summary : goal.returns-in-Summary
returns-in-Summary g c =
    let totals = c.args.totals in
    let shows = IsSampledText c.args.curve.now c.args.floors.now c.args.options.now (non_zero_usize_get totals.one_in) totals.requests totals.size in
    ok_map c.summary_of_sized_sample.result
    (λ text t. subst (λ f. shows f c.args.bytes (string_bytes text)) (sym c.in-Summary.is) t) c.summary_of_sized_sample.ensures
