use Rattle.std.proofs.Common.{ap}
use Rattle.std.specs.Option.{is_some}
use Rattle.clru_text.proofs.CutsAlone.{timed_rows}
use Rattle.clru_report.proofs.report.make_report.Goals as goal

pub report_with_times-requires : goal.report_with_times-requires
report_with_times-requires g c =
    let options = c.args.options.now in
    timed_rows options.least options.floor options.one_size (is_some options.after) options.form (options.timed (ap is_some c.in-Some.is))
