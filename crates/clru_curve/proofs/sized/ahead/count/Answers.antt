use Rattle.std.proofs.Common.{◌-◌, ◌<◌, Some, get_or, length, reverse, take, sym, ap, ◌∙◌, subst, arith}
use Rattle.std.proofs.lemmas.Option.{slice_get-get_or}
use Rattle.clru_curve.specs.Ahead.{HoldsLatest, nothing}
use Rattle.clru_curve.specs.Seen.{timeless}
use Rattle.clru_curve.specs.SizedPositionPasses.{IsSizedPositionPass}
use Rattle.clru_curve.proofs.Looking.{holds_more, latest_at, some_there, turned_more, was_held, weight_at}
use Rattle.clru_curve.proofs.Timeless.{latest_timeless, soon_timeless}
use Rattle.clru_curve.proofs.sized.ahead.count.Goals as goal

pub count-requires : goal.count-requires
count-requires g c =
    let at = c.loop-at.at in let keys = c.args.keys.now in let ahead = c.args.ahead.now in let inv = c.loop-at.invariant in
    let eq = g.K.PartialEq.eq in let latest = (get_or ahead (at - c.args.first) nothing).latest in
    let inside : at < length keys = omega (arith, c.loop-at-test.true, c.requires.within) in
    let some = some_there keys at inside in
    record {
      live = was_held eq g.met.K.Eq.laws (reverse (take at keys)) some.0 c.loop-at.pass inv.held latest
          (latest_at keys at some.0 some.1 c.args.first c.args.end ahead inv.first c.loop-at-test.true eq c.requires.latest);
    }

pub returns-in-Err-clause-refused : goal.returns-in-Err-clause-refused
returns-in-Err-clause-refused g c =
    let at = c.loop-at.at in let keys = c.args.keys.now in let key = c.index-keys-at.result in
    let inside : at < length keys = omega (arith, c.loop-at-test.true, c.requires.within) in
    (at, c.loop-at.invariant.first, c.loop-at-test.true, slice_get-get_or keys at key inside ∙ ap (λ k. Some k) (sym c.index-keys-at.is))

pub loop-at-preserved : goal.loop-at-preserved
loop-at-preserved g c =
    let at = c.loop-at.at in let keys = c.args.keys.now in let ahead = c.args.ahead.now in let inv = c.loop-at.invariant in
    let eq = g.K.PartialEq.eq in let past = reverse (take at keys) in let latest = (get_or ahead (at - c.args.first) nothing).latest in
    let first = c.args.first in let end = c.args.end in let new = c.count.new.self in
    let inside : at < length keys = omega (arith, c.loop-at-test.true, c.requires.within) in
    let some = some_there keys at inside in let x = some.0 in
    let is = latest_at keys at x some.1 first end ahead inv.first c.loop-at-test.true eq c.requires.latest in
    let turned = sym (turned_more keys at x some.1) in
    record {
      first = omega (arith, inv.first);
      end = omega (arith, c.loop-at-test.true);
      held = subst (λ l. HoldsLatest eq l new) turned
          (holds_more eq g.met.K.Eq.laws past x c.loop-at.pass inv.held latest is new c.in-Ok.ensures.moved);
      taken = λ w same weighs start. subst (λ l. IsSizedPositionPass eq w 0 (timeless l) new) turned
          (c.in-Ok.ensures.taken w 0 (timeless past) x 0 same (inv.taken w same weighs start)
          (weight_at keys at x some.1 first end ahead inv.first c.loop-at-test.true w weighs) (latest_timeless eq 0 past x latest is)
          (c.is_some.ensures ∙ soon_timeless eq 0 past x latest is));
    }
