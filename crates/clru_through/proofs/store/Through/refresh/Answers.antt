use Rattle.std.proofs.Common.{rules, Ok, Err}
use Rattle.std.proofs.lemmas.Result.{err_from_is_err_and}
use Rattle.clru_through.proofs.Sourced.{AllKeep_promised, AllKeep-taken}
use Rattle.clru_through.proofs.store.Through.refresh.Goals as goal

pub returns-in_err-value-clause-step : goal.returns-in_err-value-clause-step
returns-in_err-value-clause-step g c =
    let p = err_from_is_err_and c.from_residual.result c.from_residual.ensures.1 in
    rw (p.1, ← c.self.view_is) (record { fetched = Err c.in_err-value.field-0.0; fetch = search rules; passes = (p.2, search rules) })

pub returns-clause-step : goal.returns-clause-step
returns-clause-step g c =
    rw (← c.self.view_is) (record { fetched = Ok c.in_ok-value.value; fetch = search rules; passes = c.taken.ensures.taken })

pub invariant_of-self-2 : goal.invariant_of-self-2
invariant_of-self-2 g c =
    let old = c.self.inside in let new = c.fetch.new.self in let keeps = g.R.Fetch.keeps in let promised = g.R.Fetch.promised in
    let kept = c.in_ok-value.ensures.kept in
    AllKeep-taken g.K.PartialEq.eq (g.W.WeightScale.weight old.cache.scale) keeps (promised new) old.cache c.taken.new.cache
    c.args.key c.in_ok-value.value c.taken.result (rw (kept c.args.key) c.in_ok-value.ensures.value) c.taken.ensures.taken
    (AllKeep_promised keeps (promised new) (promised old.source) kept old.cache.entries c.self.invariant)
