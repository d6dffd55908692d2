use Rattle.std.proofs.Common.{◌∷◌, map, ap, ◌∙◌, arith}
use Rattle.std.specs.Map.{keys_of}
use Rattle.std.specs.Prelude.{bytes_eq}
use Rattle.clru_curve.specs.Seen.{timeless}
use Rattle.clru_model.specs.Parts.{lasts}
use Rattle.clru_text.specs.Keys.{line_of, same_line}
use Rattle.clru_curve.proofs.Timeless.{latest_timeless, soon_timeless}
use Rattle.clru_report.proofs.LinePasses.{keys_more, latest_noted, noted_more}
use Rattle.clru_report.proofs.line_pass.LinePass.take.Goals as goal

pub request-requires : goal.request-requires
request-requires g c =
    let past = c.requires.0 in let is = c.requires.1 in let key = c.args.key.now in let latest = c.in_ok-latest.latest in
    let at = latest_noted past c.args.self.now.latest is.noted key c.deref.result.now c.deref.ensures.value latest c.in_ok-latest.ensures.before in
    (0, timeless past, key, 0, is.taken, latest_timeless same_line 0 past key latest at, c.is_some.ensures ∙ soon_timeless same_line 0 past key latest at)

pub returns-clause-latest : goal.returns-clause-latest
returns-clause-latest g c past is =
    latest_noted past c.args.self.now.latest is.noted c.args.key.now c.deref.result.now c.deref.ensures.value c.in_ok-latest.latest
    c.in_ok-latest.ensures.before

pub returns-clause-taken : goal.returns-clause-taken
returns-clause-taken g c past is =
    let key = c.args.key.now in let latest = c.in_ok-latest.latest in let noted = c.args.self.now.latest in
    let at = latest_noted past noted is.noted key c.deref.result.now c.deref.ensures.value latest c.in_ok-latest.ensures.before in
    record {
      keys = ap (λ es. keys_of es) (c.prefetch.ensures ∙ c.in_ok-latest.ensures.taken)
          ∙ keys_more (map line_of past) noted c.deref.result.now _ is.keys ∙ ap (λ line. lasts bytes_eq (line ∷ map line_of past)) c.deref.ensures.value;
      noted = noted_more past noted is.noted key c.deref.result.now c.deref.ensures.value _ c.prefetch.new.map
          (omega (arith, is.counted)) (c.prefetch.ensures ∙ c.in_ok-latest.ensures.taken);
      taken = c.in_ok-request.ensures.taken 0 (timeless past) key 0 is.taken (latest_timeless same_line 0 past key latest at)
          (c.is_some.ensures ∙ soon_timeless same_line 0 past key latest at);
      counted = omega (arith, is.counted, c.in-Some.ensures);
    }
