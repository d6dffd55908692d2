use Rattle.std.proofs.Common.{refl}
use Rattle.clru_curve.specs.PositionPasses.{IsPositionPass}
use Rattle.clru_text.specs.Keys.{line_of, same_line}
use Rattle.clru_text.proofs.TakenRequests.{request_taken}
use Rattle.clru_report.specs.TimedPasses.{IsTimedLinePass}
use Rattle.clru_report.proofs.timed.pass.TimedLinePassPositionPassOwnedKeyTakesRequests.take_request.Goals as goal

pub request-requires : goal.request-requires
request-requires g c =
    let idle = c.requires.1.lines.limit in let past = c.requires.2 in let is = c.requires.3 in (
      idle,
      past,
      c.args.key.now,
      c.args.time,
      is.taken,
      c.in_ok-latest.ensures.latest idle past is.noted,
      c.in_ok-latest.ensures.soon idle past is.noted,
    )

pub returns-in-Ok : goal.returns-in-Ok
returns-in-Ok g c w start past is weighs =
    let idle = start.lines.limit in let key = c.args.key.now in let asked = c.in_ok-latest.ensures in
    request_taken (IsTimedLinePass (IsPositionPass same_line idle) idle) past key (line_of key) c.args.time _ refl (record {
      noted = asked.noted idle past is.noted;
      taken = c.in-Ok.ensures.taken idle past key c.args.time is.taken (asked.latest idle past is.noted) (asked.soon idle past is.noted);
    })
