use Rattle.std.proofs.Common.{refl, sym, ap}
use Rattle.clru_curve.specs.SizedPositionPasses.{IsSizedPositionPass}
use Rattle.clru_text.specs.Keys.{line_of, same_line}
use Rattle.clru_text.proofs.ByteLemmas.{same_bytes}
use Rattle.clru_text.proofs.TakenRequests.{request_taken}
use Rattle.clru_report.specs.TimedPasses.{IsTimedLinePass}
use Rattle.clru_report.proofs.timed.sized_pass.TimedLinePassSizedPositionPassOwnedKeyTakesRequests.take_request.Goals as goal

pub request-requires : goal.request-requires
request-requires g c =
    let w = c.requires.0 in let idle = c.requires.1.lines.limit in let past = c.requires.2 in let is = c.requires.3 in
    let asked = c.in_ok-latest.ensures in (
      λ k. w (line_of k),
      idle,
      past,
      c.args.key.now,
      c.args.time,
      λ x y t. ap w (same_bytes (line_of x) (line_of y) t),
      is.taken,
      sym c.requires.4,
      asked.latest idle past is.noted,
      asked.soon idle past is.noted,
    )

pub returns-in-Ok : goal.returns-in-Ok
returns-in-Ok g c w start past is weighs =
    let idle = start.lines.limit in let key = c.args.key.now in let asked = c.in_ok-latest.ensures in
    request_taken (IsTimedLinePass (IsSizedPositionPass same_line (λ k. w (line_of k)) idle) idle) past key (line_of key) c.args.time _ refl (record {
      noted = asked.noted idle past is.noted;
      taken = c.in-Ok.ensures.taken (λ k. w (line_of k)) idle past key c.args.time (λ x y t. ap w (same_bytes (line_of x) (line_of y) t))
          is.taken (sym weighs) (asked.latest idle past is.noted) (asked.soon idle past is.noted);
    })
