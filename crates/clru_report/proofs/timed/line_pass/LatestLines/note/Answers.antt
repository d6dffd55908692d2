use Rattle.std.proofs.Common.{sym, ap, ◌∙◌, subst, arith}
use Rattle.std.specs.Map.{keys_of}
use Rattle.clru_model.specs.Requests.{IsLatestOf}
use Rattle.clru_text.specs.Keys.{same_line}
use Rattle.clru_report.specs.TimedPasses.{soon_of}
use Rattle.clru_report.proofs.TimedLinePasses.{seen_more, seen_noted, soon_recent}
use Rattle.clru_report.proofs.timed.line_pass.LatestLines.note.Goals as goal

pub returns-clause-latest : goal.returns-clause-latest
returns-clause-latest g c idle past is =
    let key = c.args.key.now in
    let at = seen_noted past c.args.self.now.latest is.each key c.deref.result.now c.deref.ensures.value c.in-Ok.before c.in-Ok.ensures.before in
    subst (IsLatestOf same_line (keys_of past) key) (sym c.position_of.ensures) at.position

pub returns-clause-soon : goal.returns-clause-soon
returns-clause-soon g c idle past is =
    let key = c.args.key.now in let before = c.in-Ok.before in
    let at = seen_noted past c.args.self.now.latest is.each key c.deref.result.now c.deref.ensures.value before c.in-Ok.ensures.before in
    c.soon_of.ensures ∙ ap (λ l. soon_of l c.args.time before) is.limit ∙ soon_recent past idle c.args.time key before at

pub returns-clause-noted : goal.returns-clause-noted
returns-clause-noted g c idle past is = record {
  each = seen_more past c.args.self.now.latest is.each c.args.key.now c.deref.result.now c.deref.ensures.value _ c.insert.new.self
      (omega (arith, is.counted)) c.in-Ok.ensures.taken;
  counted = omega (arith, is.counted, c.in-Some.ensures);
  limit = is.limit;
}
