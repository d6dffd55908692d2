use Rattle.std.proofs.Common.{IsOk, Ok, Err, refl, rules}
use Rattle.clru_runs.proofs.Attempting.{lent_by, refused_by}
use Rattle.clru_runs.proofs.lends.try_put_or_modify.Goals as goal

pub returns-in-Ok : goal.returns-in-Ok
returns-in-Ok g c =
    let ok : IsOk c.try_put_or_modify.result = rw c.in-Ok.is refl in
    let left = c.try_put_or_modify.follows.holds c.in-Ok.lent.now ok in
    let is = lent_by _ _ _ _ c.args.attempt (λ shown r put' called. search rules) (λ shown lent left r modify' called. search rules) _ _ c.in-Ok.ensures.called in
    (Ok c.in-Ok.lent.now, refl, rw is (refl, record { entries = left.0; places = left.1 }))

pub returns-in-Err : goal.returns-in-Err
returns-in-Err g c =
    let left = rw c.in-Err.is at c.try_put_or_modify.follows.holds-at-none in
    let refused = c.in-Err.ensures in (
      Err c.in-Err.refusal,
      refl,
      refused_by _ _ _ _ g.K.PartialEq.eq c.args.cache.now _ c.args.key left.1 c.args.attempt c.in-Err.refusal
          (λ shown r put' called. search rules) (λ shown lent left r modify' called. search rules) refused.refused refused.memory left.0,
    )
