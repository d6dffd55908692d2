use Rattle.std.proofs.Common.{rules, Ok, Err, refl, subst}
use Rattle.clru_through.specs.Steps.{Loads}
use Rattle.clru_through.proofs.Fronts.{front_loaded}
use Rattle.clru_through.proofs.store.Through.get.Goals as goal

pub returns-in-Err : goal.returns-in-Err
returns-in-Err g c = (
  (refl, λ _. tt, ((Err c.in-Err.error, search rules, search rules), search rules)),
  record { leaves = tt; step = (c.load.new.self, (Err c.in-Err.error, search rules, search rules)); value = tt },
)

pub returns-in-Ok-Passed : goal.returns-in-Ok-Passed
returns-in-Ok-Passed g c = (
  (refl, λ _. tt, ((Ok c.in-Ok-Passed.field-0, search rules, search rules), search rules)),
  record { leaves = tt; step = (c.load.new.self, (Ok c.in-Ok-Passed.field-0, search rules, search rules)); value = search rules },
)

pub returns-in-Some : goal.returns-in-Some
returns-in-Some g c =
    let eq = g.K.PartialEq.eq in let weight = g.W.WeightScale.weight in let fetches = g.R.Fetch.fetches in let key = c.args.key in
    let load = c.in-Ok-Held.ensures in let loaded = c.in-Ok-Held.field-0 in let new = c.load.new.self in
    let is = c.in-Ok-Held.field-0-is in let old = c.args.self.now in
    let step : Loads eq (weight old.cache.scale) fetches old key (Ok loaded) new = search rules in
    let held = subst (λ l. Loads eq (weight old.cache.scale) fetches old key (Ok l) new) is step in
    let shown = front_loaded eq g.met.K.Eq.laws (weight old.cache.scale) fetches old key new c.in-Ok-Held.field-0-0 held
    c.front.result (c.in-Some.field-0-0, c.in-Some.value) c.front.ensures.entry c.in-Some.is in (
      (refl, λ _. tt, ((Ok loaded, step, search (rules, shown)), search rules)),
      record { leaves = tt; step = (new, (Ok loaded, step, search (rules, shown))); value = search rules },
    )
