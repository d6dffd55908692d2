use Rattle.std.proofs.Common.{nat_eq, ◌∙◌}
use Rattle.std.proofs.IntoIterSteps.{takes, All-taken}
use Rattle.clru.proofs.Collecting.{entries-extended}
use Rattle.clru_uses.proofs.makers.remember_all.Goals as goal

pub returns : goal.returns
returns c =
    let put = c.extend.ensures in
    let stored = entries-extended nat_eq takes put.0 c.args.pages.items (λ es all. All-taken put.0 es all ∙ put.1.0) c.args.sizes.now c.extend.result
    c.extend.new.self put.2 in
    record { stored = search stored }
