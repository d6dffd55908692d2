use Rattle.std.proofs.Common.{◌≤◌, IfOk, reverse, ◌∙◌, subst}
use Rattle.std.specs.Int.NonZero.{non_zero_usize_get}
use Rattle.std.proofs.lemmas.List.{reverse-reverse}
use Rattle.clru_model.specs.Least.{IsLeast, IsNearFromAnyStart}
use Rattle.clru_model.specs.Requests.{misses}
use Rattle.clru_least.specs.Passes.{IsForesight}
use Rattle.clru_least.proofs.foresight.Foresight.least.Goals as goal

pub returns-clause-least : goal.returns-clause-least
returns-clause-least g c =
    let keys = c.self.inside.keys.now in
    subst (λ rs. IfOk c.least.result (IsLeast g.K.PartialEq.eq (non_zero_usize_get c.args.room) rs)) (reverse-reverse keys ∙ c.self.view_is)
    (c.least.ensures.least (reverse keys) c.self.invariant)

pub returns-clause-any_start : goal.returns-clause-any_start
returns-clause-any_start g c =
    let keys = c.self.inside.keys.now in
    subst (λ rs. IfOk c.least.result (IsNearFromAnyStart g.K.PartialEq.eq (non_zero_usize_get c.args.room) rs)) (reverse-reverse keys ∙ c.self.view_is)
    (c.least.ensures.any_start (reverse keys) c.self.invariant)

pub returns-clause-beside_lru : goal.returns-clause-beside_lru
returns-clause-beside_lru g c =
    let keys = c.self.inside.keys.now in
    subst (λ rs. IfOk c.least.result (λ n. n ≤ misses g.K.PartialEq.eq (non_zero_usize_get c.args.room) rs)) (reverse-reverse keys ∙ c.self.view_is)
    (c.least.ensures.beside_lru (reverse keys) c.self.invariant)

pub returns-clause-never_refused : goal.returns-clause-never_refused
returns-clause-never_refused g c none =
    c.least.ensures.never_refused
    (subst (λ ks. IsForesight g.K.PartialEq.eq (reverse ks) c.self.inside.pass) (c.self.view_is ∙ none) c.self.invariant)
