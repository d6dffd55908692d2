use Rattle.std.proofs.Common.{◌+◌, false, true, None, min, ap, string_bytes, sym, subst, ◌∙◌}
use Rattle.std.specs.Prelude.{◌&&◌}
use Rattle.clru_text.proofs.ResultLemmas.{err_map, ok_map}
use Rattle.clru_report.specs.Passes.{AreFloorsFor, distinct_in, has_rows}
use Rattle.clru_report.specs.Refusals.{fault_beside}
use Rattle.clru_report.specs.SizedReport.{IsInFormBySize}
use Rattle.clru_report.specs.SizedTables.{sized_summary_text}
use Rattle.clru_report.specs.Sizes.{greatest_size}
use Rattle.clru_report.proofs.FaultLemmas.{told_beside}
use Rattle.clru_report.proofs.SizedReports.{capacities_refused, rows_free, summary_is, table_is}
use Rattle.clru_report.proofs.SizedSamples.{of_all}
use Rattle.clru_report.proofs.sized.text_by_size.Goals as goal

pub returns-in-Table : goal.returns-in-Table
returns-in-Table g c =
    let options = c.args.options.now in let curve = c.args.curve.now in let floors = c.args.floors.now in
    record {
      report = λ input lines requests size of both. let whole = of_all input lines curve requests size c.args.bytes of in ok_map c.sized_table_for.result
          (λ text t. (
            of.sizes,
            rows_free lines curve whole false options floors (string_bytes text) t of.no_fault,
            subst (λ f. IsInFormBySize f options input lines (string_bytes text)) (sym c.in-Table.is)
                (table_is lines curve whole false options floors (string_bytes text)
                (subst (λ f. AreFloorsFor (has_rows f && options.floor) lines floors) c.in-Table.is both) t),
          )) c.sized_table_for.ensures.table;
      refused = λ input lines requests size of. let whole = of_all input lines curve requests size c.args.bytes of in err_map c.sized_table_for.result
          (λ fault why input_is. capacities_refused lines curve whole options fault of.sizes of.no_fault
          (ap (λ f. fault_beside f options.capacities (greatest_size lines)) c.in-Table.is) (why input_is) input_is) c.sized_table_for.ensures.refused;
      fault = c.sized_table_for.ensures.fault;
    }

pub returns-in-Json : goal.returns-in-Json
returns-in-Json g c =
    let options = c.args.options.now in let curve = c.args.curve.now in let floors = c.args.floors.now in
    record {
      report = λ input lines requests size of both. let whole = of_all input lines curve requests size c.args.bytes of in ok_map c.sized_table_for-in-Json.result
          (λ text t. (
            of.sizes,
            rows_free lines curve whole true options floors (string_bytes text) t of.no_fault,
            subst (λ f. IsInFormBySize f options input lines (string_bytes text)) (sym c.in-Json.is)
                (table_is lines curve whole true options floors (string_bytes text)
                (subst (λ f. AreFloorsFor (has_rows f && options.floor) lines floors) c.in-Json.is both) t),
          )) c.sized_table_for-in-Json.ensures.table;
      refused = λ input lines requests size of. let whole = of_all input lines curve requests size c.args.bytes of in err_map c.sized_table_for-in-Json.result
          (λ fault why input_is. capacities_refused lines curve whole options fault of.sizes of.no_fault
          (ap (λ f. fault_beside f options.capacities (greatest_size lines)) c.in-Json.is) (why input_is) input_is) c.sized_table_for-in-Json.ensures.refused;
      fault = c.sized_table_for-in-Json.ensures.fault;
    }

pub returns-in-Picture : goal.returns-in-Picture
returns-in-Picture g c =
    let options = c.args.options.now in let curve = c.args.curve.now in let floors = c.args.floors.now in
    record {
      report = λ input lines requests size of both. let whole = of_all input lines curve requests size c.args.bytes of in ok_map c.sized_picture_for.result
          (λ text t. (
            of.sizes,
            rows_free lines curve whole false options floors t.0 t.1 of.no_fault,
            subst (λ f. IsInFormBySize f options input lines (string_bytes text)) (sym c.in-Picture.is) (
              t.0,
              table_is lines curve whole false options floors t.0
                  (subst (λ f. AreFloorsFor (has_rows f && options.floor) lines floors) c.in-Picture.is both) t.1,
              t.2,
            ),
          )) c.sized_picture_for.ensures.picture;
      refused = λ input lines requests size of. let whole = of_all input lines curve requests size c.args.bytes of in err_map c.sized_picture_for.result
          (λ fault why input_is. capacities_refused lines curve whole options fault of.sizes of.no_fault
          (ap (λ f. fault_beside f options.capacities (greatest_size lines)) c.in-Picture.is) (why input_is) input_is) c.sized_picture_for.ensures.refused;
      fault = c.sized_picture_for.ensures.fault;
    }

pub returns-in-Ok-clause-report : goal.returns-in-Ok-clause-report
returns-in-Ok-clause-report g c input lines requests size of both =
    let options = c.args.options.now in
    let whole = of_all input lines c.args.curve.now requests size c.args.bytes of in (
      of.sizes,
      told_beside options lines None of.no_fault (ap (λ f. fault_beside f options.capacities (greatest_size lines)) c.in-Summary.is),
      subst (λ f. IsInFormBySize f options input lines (string_bytes c.in-Ok.text)) (sym c.in-Summary.is)
          (summary_is lines c.args.curve.now whole input (string_bytes c.in-Ok.text)
          (c.in-Ok.ensures ∙ ap (λ n. sized_summary_text c.args.curve.now.requests (distinct_in c.args.curve.now) n c.args.curve.now.size
          c.args.curve.now.distinct_size (min (1 + c.args.curve.now.greatest_weight) c.args.curve.now.distinct_size)) of.in_bytes)),
    )
