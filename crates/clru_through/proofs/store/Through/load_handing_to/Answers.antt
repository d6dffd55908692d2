use Rattle.std.proofs.Common.{rules, Ok, Err, sym, ◌∙◌, subst}
use Rattle.std.proofs.lemmas.Result.{err_from_is_err_and}
use Rattle.std.specs.Map.{lookup}
use Rattle.clru_through.specs.Steps.{Takes}
use Rattle.clru_through.proofs.Sourced.{AllKeep-lookup, AllKeep-taken, AllKeep-touch, AllKeep_promised, first-touch, lookup-touch}
use Rattle.clru_through.proofs.Looking.{is_there}
use Rattle.clru_through.proofs.store.Through.load_handing_to.Goals as goal

pub returns-then-move_to_front_if_held-clause-value : goal.returns-then-move_to_front_if_held-clause-value
returns-then-move_to_front_if_held-clause-value g c =
    let eq = g.K.PartialEq.eq in let es = c.self.inside.cache.entries in let source = c.self.inside.source in
    let step = c.move_to_front_if_held.ensures in let held = is_there (lookup (eq c.args.key) es) (sym step.found ∙ c.if-move_to_front_if_held.true) in
    rw (step.touches, lookup-touch eq c.args.key es held.0 held.1, ← c.self.view_is)
    (AllKeep-lookup g.met.K.Eq.laws c.args.key g.R.Fetch.keeps (g.met.R.Fetch.same source) es c.self.invariant held.0 held.1)

pub returns-then-move_to_front_if_held-clause-front : goal.returns-then-move_to_front_if_held-clause-front
returns-then-move_to_front_if_held-clause-front g c = λ _.
    let eq = g.K.PartialEq.eq in let es = c.self.inside.cache.entries in let source = c.self.inside.source in
    let step = c.move_to_front_if_held.ensures in let held = is_there (lookup (eq c.args.key) es) (sym step.found ∙ c.if-move_to_front_if_held.true) in
    rw (step.touches, ← c.self.view_is)
    (first-touch eq c.args.key es held.0 held.1 (g.R.Fetch.keeps (g.R.Fetch.promised source c.args.key))
    (AllKeep-lookup g.met.K.Eq.laws c.args.key g.R.Fetch.keeps (g.met.R.Fetch.same source) es c.self.invariant held.0 held.1))

pub invariant_of-self : goal.invariant_of-self
invariant_of-self g c =
    rw c.move_to_front_if_held.ensures.touches
    (AllKeep-touch g.K.PartialEq.eq c.args.key g.R.Fetch.keeps (g.R.Fetch.promised c.self.inside.source) c.self.inside.cache.entries c.self.invariant)

pub returns-in_err-value-clause-step : goal.returns-in_err-value-clause-step
returns-in_err-value-clause-step g c =
    let p = err_from_is_err_and c.from_residual.result c.from_residual.ensures.1 in let missed = c.move_to_front_if_held.ensures in
    let no = c.if-move_to_front_if_held.false in
    rw (p.1, missed.missed no, ← c.self.view_is, missed.absent no)
    (record { fetched = Err c.in_err-value.field-0.0; fetch = search rules; passes = (p.2, search rules) })

pub returns-clause-step : goal.returns-clause-step
returns-clause-step g c =
    let missed = c.move_to_front_if_held.ensures in let no = c.if-move_to_front_if_held.false in
    rw (← c.self.view_is, missed.absent no) (record {
      fetched = Ok c.in_ok-value.value;
      fetch = search rules;
      passes = subst
          (λ d. Takes g.K.PartialEq.eq (g.W.WeightScale.weight d.scale) d c.args.key c.in_ok-value.value c.taken_handing_to.result c.taken_handing_to.new.cache)
          (missed.missed no) c.taken_handing_to.ensures.taken;
    })

pub invariant_of-self-2 : goal.invariant_of-self-2
invariant_of-self-2 g c =
    let cache = c.move_to_front_if_held.new.cache in let new = c.fetch.new.self in let keeps = g.R.Fetch.keeps in let promised = g.R.Fetch.promised in
    let kept = c.in_ok-value.ensures.kept in
    AllKeep-taken g.K.PartialEq.eq (g.W.WeightScale.weight cache.scale) keeps (promised new) cache c.taken_handing_to.new.cache
    c.args.key c.in_ok-value.value c.taken_handing_to.result (rw (kept c.args.key) c.in_ok-value.ensures.value) c.taken_handing_to.ensures.taken
    (AllKeep_promised keeps (promised new) (promised c.self.inside.source) kept cache.entries
    (rw (c.move_to_front_if_held.ensures.missed c.if-move_to_front_if_held.false) c.self.invariant))
