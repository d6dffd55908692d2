use Rattle.std.proofs.Common.{ap}
use Rattle.std.specs.Option.{is_some}
use Rattle.clru_text.proofs.CutsAlone.{rows_alone}
use Rattle.clru_report.proofs.report.report_by_keys.Goals as goal

pub report_after-requires : goal.report_after-requires
report_after-requires g c =
    let options = c.args.options.now in
    rows_alone options.least options.floor options.sample options.form (options.after_rows (ap is_some c.in-Some.is))
