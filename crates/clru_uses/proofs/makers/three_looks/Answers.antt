use Rattle.std.proofs.Common.{nat_eq, ◌-◌, ◌^◌, [], ◌∙◌}
use Rattle.std.proofs.IntoIterSteps.{takes, All-taken}
use Rattle.clru.specs.Cache.{cache}
use Rattle.clru.proofs.Collecting.{entries-collected, capacity-collected}
use Rattle.clru_uses.proofs.makers.three_looks.Goals as goal

pub returns-clause-entries : goal.returns-clause-entries
returns-clause-entries g c =
    let made = c.from_iter.ensures in
    rw c.in-Ok.ensures.items at (entries-collected nat_eq takes made.0 c.in-Ok.looks.items (λ es all. All-taken made.0 es all ∙ made.1.0)
    (cache [] (2 ^ 64 - 1) (record {}) 0) c.from_iter.result made.2)

pub returns-clause-capacity : goal.returns-clause-capacity
returns-clause-capacity g c =
    let made = c.from_iter.ensures in
    rw c.in-Ok.ensures.items at (capacity-collected nat_eq takes made.0 c.in-Ok.looks.items (λ es all. All-taken made.0 es all ∙ made.1.0)
    (cache [] (2 ^ 64 - 1) (record {}) 0) c.from_iter.result made.2)
