use Rattle.std.proofs.Common.{◌∷◌, sym, ◌∙◌, subst, arith}
use Rattle.clru_curve.specs.Seen.{timeless}
use Rattle.clru_curve.specs.SizedPositionPasses.{IsSizedPositionPass}
use Rattle.clru_text.specs.Keys.{same_line}
use Rattle.clru_report.specs.Passes.{weight_of_key}
use Rattle.clru_curve.proofs.Timeless.{latest_timeless, soon_timeless}
use Rattle.clru_report.proofs.LinePasses.{latest_noted, noted_more}
use Rattle.clru_report.proofs.SizedLinePasses.{same_key_weights}
use Rattle.clru_report.proofs.sized.line_pass.SizedLinePass.take.Goals as goal

pub request-requires : goal.request-requires
request-requires g c =
    let past = c.requires.taken.0 in let is = c.requires.taken.1 in let key = c.args.key.now in let latest = c.in_ok-latest.latest in
    let at = latest_noted past c.args.self.now.latest is.noted key c.deref.result.now c.deref.ensures.value latest c.in_ok-latest.ensures.before in (
      weight_of_key,
      0,
      timeless past,
      key,
      0,
      same_key_weights,
      is.taken,
      sym c.requires.weight,
      latest_timeless same_line 0 past key latest at,
      c.is_some.ensures ∙ soon_timeless same_line 0 past key latest at,
    )

pub returns-clause-latest : goal.returns-clause-latest
returns-clause-latest g c past is =
    latest_noted past c.args.self.now.latest is.noted c.args.key.now c.deref.result.now c.deref.ensures.value c.in_ok-latest.latest
    c.in_ok-latest.ensures.before

pub returns-clause-taken : goal.returns-clause-taken
returns-clause-taken g c past is =
    let key = c.args.key.now in let latest = c.in_ok-latest.latest in let noted = c.args.self.now.latest in
    let at = latest_noted past noted is.noted key c.deref.result.now c.deref.ensures.value latest c.in_ok-latest.ensures.before in
    record {
      noted = noted_more past noted is.noted key c.deref.result.now c.deref.ensures.value _ c.prefetch.new.map
          (omega (arith, is.counted)) (c.prefetch.ensures ∙ c.in_ok-latest.ensures.taken);
      taken = subst (IsSizedPositionPass same_line weight_of_key 0 (timeless (key ∷ past))) (sym c.announce.ensures)
          (c.in-Ok.ensures.taken weight_of_key 0 (timeless past) key 0 same_key_weights is.taken (sym c.requires.weight)
          (latest_timeless same_line 0 past key latest at) (c.is_some.ensures ∙ soon_timeless same_line 0 past key latest at));
      counted = omega (arith, is.counted, c.in-Some.ensures);
    }
