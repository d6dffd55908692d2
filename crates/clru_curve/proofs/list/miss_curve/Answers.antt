use Rattle.std.proofs.Common.{◌≡◌, ◌+◌, ◌-◌, ◌<◌, get_or, length, reverse, take, refl, sym, ap, ◌∙◌, subst, arith, take_all}
use Rattle.std.proofs.lemmas.List.{reverse-reverse}
use Rattle.clru_model.specs.Requests.{distinct}
use Rattle.clru_curve.specs.Ahead.{nothing}
use Rattle.clru_curve.specs.Curves.{HasMissesOf}
use Rattle.clru_curve.specs.PositionPasses.{IsPositionPass}
use Rattle.clru_curve.specs.Seen.{timeless}
use Rattle.clru_curve.proofs.Looking.{latest_at, placed_none, some_there, turned_more}
use Rattle.clru_curve.proofs.Timeless.{keys_timeless, latest_timeless, none_late, soon_timeless}
use Rattle.clru_curve.proofs.list.miss_curve.Goals as goal

pub loop-first-init : goal.loop-first-init
loop-first-init g c = record {
  within = omega arith;
  placed = rw c.new-positions.ensures (placed_none g.K.PartialEq.eq);
  size = refl;
  taken = c.new-pass.ensures 0;
  room = refl;
}

pub request-requires : goal.request-requires
request-requires g c =
    let eq = g.K.PartialEq.eq in let at = c.loop-at.at in let keys = c.args.keys.now in let past = reverse (take at keys) in
    let first = c.loop-first.first in let end = first + c.min.result in let ahead = c.look_up.new.ahead in
    let latest = (get_or ahead (at - first) nothing).latest in
    let inside : at < length keys = omega (arith, c.loop-at-test.true, c.min.ensures) in
    let some = some_there keys at inside in let x = some.0 in
    let is = latest_at keys at x some.1 first end ahead c.loop-at.invariant.first c.loop-at-test.true eq c.in-Ok.ensures.latest in
    (0, timeless past, x, 0, c.loop-at.invariant.taken, latest_timeless eq 0 past x latest is, c.is_some.ensures ∙ soon_timeless eq 0 past x latest is)

pub loop-at-preserved : goal.loop-at-preserved
loop-at-preserved g c =
    let eq = g.K.PartialEq.eq in let at = c.loop-at.at in let keys = c.args.keys.now in let past = reverse (take at keys) in
    let first = c.loop-first.first in let end = first + c.min.result in let ahead = c.look_up.new.ahead in
    let latest = (get_or ahead (at - first) nothing).latest in
    let inside : at < length keys = omega (arith, c.loop-at-test.true, c.min.ensures) in
    let some = some_there keys at inside in let x = some.0 in
    let is = latest_at keys at x some.1 first end ahead c.loop-at.invariant.first c.loop-at-test.true eq c.in-Ok.ensures.latest in
    record {
      first = omega (arith, c.loop-at.invariant.first);
      end = omega (arith, c.loop-at-test.true);
      taken = subst (λ l. IsPositionPass eq 0 (timeless l) c.request.new.self) (sym (turned_more keys at x some.1))
          (c.in_ok-request.ensures.taken 0 (timeless past) x 0 c.loop-at.invariant.taken (latest_timeless eq 0 past x latest is)
          (c.is_some.ensures ∙ soon_timeless eq 0 past x latest is));
    }

pub loop-first-preserved : goal.loop-first-preserved
loop-first-preserved g c =
    let keys = c.args.keys.now in let end = c.loop-first.first + c.min.result in
    let done : c.loop-at.at ≡ end = omega (arith, c.loop-at-test.false, c.loop-at.invariant.end) in
    record {
      within = omega (arith, c.min.ensures, c.loop-first-test.true);
      placed = c.in-Ok.ensures.placed;
      size = c.in-Ok.ensures.size;
      taken = subst (λ i. IsPositionPass g.K.PartialEq.eq 0 (timeless (reverse (take i keys))) c.loop-at.pass) done c.loop-at.invariant.taken;
      room = c.in-Ok.ensures.length ∙ c.loop-first.invariant.room;
    }

pub returns-clause-misses : goal.returns-clause-misses
returns-clause-misses g c =
    let keys = c.args.keys.now in let past = reverse (take c.loop-first.first keys) in
    let whole = ap (λ l. reverse l) (keys_timeless past) ∙ reverse-reverse (take c.loop-first.first keys)
    ∙ take_all c.loop-first.first keys (omega (arith, c.loop-first-test.false)) in
    subst (λ l. HasMissesOf g.K.PartialEq.eq l c.into_curve.result) whole
    (c.into_curve.ensures.timeless 0 (timeless past) (none_late past) c.loop-first.invariant.taken)

pub returns-clause-distinct : goal.returns-clause-distinct
returns-clause-distinct g c =
    let keys = c.args.keys.now in let past = reverse (take c.loop-first.first keys) in
    c.into_curve.ensures.distinct 0 (timeless past) c.loop-first.invariant.taken
    ∙ ap (distinct g.K.PartialEq.eq) (keys_timeless past ∙ ap (λ l. reverse l) (take_all c.loop-first.first keys (omega (arith, c.loop-first-test.false))))
