use Rattle.std.proofs.Common.{◌≡◌, ◌+◌, ◌-◌, false, nat_lt, sym, ap, ◌∙◌}
use Rattle.std.specs.Prelude.{◌==◌, ◌||◌}
use Rattle.std.proofs.lemmas.Bool.{ne_eqb}
use Rattle.clru_report.specs.SizedAfterPasses.{misses_left}
use Rattle.clru_report.proofs.sized.behind.falls_behind.Goals as goal

pub returns : goal.returns
returns g c =
    let curve = c.args.curve.now in let head = c.args.head.now in let capacity = c.args.capacity in
    let here = misses_left curve head capacity in
    let off : (capacity == 1 + curve.greatest_weight) ≡ false =
    ne_eqb capacity (1 + curve.greatest_weight) (λ e. c.if-capacity-first.false (e ∙ sym c.requires)) in
    ap (λ n. nat_lt n c.misses_behind-2.result) c.misses_behind.ensures
    ∙ ap (nat_lt here) (c.misses_behind-2.ensures ∙ ap (misses_left curve head) c.saturating_sub.ensures)
    ∙ sym (ap (λ b. b || nat_lt here (misses_left curve head (capacity - 1))) off)
