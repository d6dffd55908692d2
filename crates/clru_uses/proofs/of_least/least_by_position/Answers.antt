use Rattle.std.proofs.Common.{[], ◌∷◌, ◌≤◌, ℕ, List, subst}
use Rattle.std.proofs.lemmas.Result.{IfOk-weaker}
use Rattle.std.specs.Int.NonZero.{non_zero_usize_get}
use Rattle.clru_model.specs.ByPosition.{IsCountOf, IsScheduleAt, IsScheduleMissAt}
use Rattle.clru_model.specs.Least.{IsLeast}
use Rattle.clru_model.specs.Schedule.{schedule_misses}
use Rattle.clru_uses.proofs.of_least.least_by_position.Goals as goal

pub returns : goal.returns
returns g c =
    let eq = g.K.PartialEq.eq in
    let h = non_zero_usize_get c.args.room in
    record {
      attained = IfOk-weaker c.least.result (λ n. IsLeast eq h c.args.keys.now n)
          (λ (n : ℕ). (schedule : List (List g.row.K.Denot)) × IsScheduleAt eq h ([] ∷ schedule) c.args.keys.now
          × IsCountOf (IsScheduleMissAt eq ([] ∷ schedule) c.args.keys.now) n)
          (λ n least.
          let a = least.attained in let held = [] ∷ a.schedule in let rs = c.args.keys.now in (
            a.schedule,
            (c.law_schedules_by_position.ensures.schedules h held rs).0 a.serves,
            subst (λ m. IsCountOf (IsScheduleMissAt eq held rs) m) a.misses (c.law_schedules_by_position.ensures.misses held rs),
          ))
          c.least.ensures.least;
      none_fewer = IfOk-weaker c.least.result (λ n. IsLeast eq h c.args.keys.now n)
          (λ (n : ℕ). (schedule : List (List g.row.K.Denot)) → IsScheduleAt eq h ([] ∷ schedule) c.args.keys.now
          → n ≤ schedule_misses eq ([] ∷ schedule) c.args.keys.now)
          (λ n least schedule serves. least.none_fewer schedule ((c.law_schedules_by_position.ensures.schedules h ([] ∷ schedule) c.args.keys.now).1 serves))
          c.least.ensures.least;
    }
