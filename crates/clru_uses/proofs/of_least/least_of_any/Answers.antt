use Rattle.std.proofs.Common.{[], ◌∷◌, ◌≡◌, ◌+◌, ◌≤◌, ℕ, List, reverse, sym, subst}
use Rattle.std.proofs.lemmas.Result.{IfOk-weaker}
use Rattle.std.specs.Int.NonZero.{non_zero_usize_get}
use Rattle.clru_model.specs.Bypass.{IsBypassSchedule}
use Rattle.clru_model.specs.Least.{IsLeast}
use Rattle.clru_model.specs.Requests.{distinct}
use Rattle.clru_model.specs.Schedule.{schedule_misses}
use Rattle.clru_uses.proofs.of_least.least_of_any.Goals as goal

pub returns-clause-floor : goal.returns-clause-floor
returns-clause-floor g c =
    let eq = g.K.PartialEq.eq in
    let h = non_zero_usize_get c.args.room in
    let rs = c.args.keys.now in
    let law = c.law_least.ensures in
    IfOk-weaker c.least.result (λ n. IsLeast eq h rs n) (λ (n : ℕ). distinct eq (reverse rs) ≤ n)
    (λ n least.
    let a = least.attained in
    subst (λ k. distinct eq (reverse rs) ≤ k) a.misses (law.floor h a.schedule rs (law.may_pass h ([] ∷ a.schedule) rs a.serves)))
    c.least.ensures.least

pub returns-clause-all_fit : goal.returns-clause-all_fit
returns-clause-all_fit g c room =
    let eq = g.K.PartialEq.eq in
    let h = non_zero_usize_get c.args.room in
    let rs = c.args.keys.now in
    let law = c.law_least.ensures in
    IfOk-weaker c.least.result (λ n. IsLeast eq h rs n) (λ (n : ℕ). n ≡ distinct eq (reverse rs))
    (λ n least. law.one h n (distinct eq (reverse rs)) rs least (law.room_for_all h rs c.args.room.ok room))
    c.least.ensures.least

pub returns-clause-may_pass : goal.returns-clause-may_pass
returns-clause-may_pass g c =
    let eq = g.K.PartialEq.eq in
    let rs = c.args.keys.now in
    IfOk-weaker c.least.result (λ n. IsLeast eq (non_zero_usize_get c.args.room) rs n)
    (λ (n : ℕ). (h : ℕ) (schedule : List (List g.row.K.Denot)) → h + 1 ≡ non_zero_usize_get c.args.room
    → IsBypassSchedule eq h ([] ∷ schedule) rs → n ≤ schedule_misses eq ([] ∷ schedule) rs)
    (λ n least h schedule size sched.
    c.law_least.ensures.one_key_more h n schedule rs sched (subst (λ l. IsLeast eq l rs n) (sym size) least))
    c.least.ensures.least
