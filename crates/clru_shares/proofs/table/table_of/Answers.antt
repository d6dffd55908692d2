use Rattle.std.proofs.Common.{map, ap, ◌∙◌}
use Rattle.std.specs.Prelude.{codes}
use Rattle.clru_shares.specs.Passes.{part_of_all, part_of_row, parts_of_shares}
use Rattle.clru_shares.specs.Shares.{together}
use Rattle.clru_shares.proofs.PartLemmas.{rows_laid}
use Rattle.clru_shares.proofs.table.table_of.Goals as goal

pub returns-clause-rows : goal.returns-clause-rows
returns-clause-rows g c =
    let all = c.args.all.now in let shares = c.args.shares.now in
    rows_laid _ _ _ _ _ all.requests all.size (parts_of_shares shares c.args.capacities.now) _ (part_of_all shares all c.args.budget)
    c.in_ok-parts.ensures
    (c.in_ok-equal_parts.ensures ∙ ap (parts_of_shares shares) (c.deref.ensures.value ∙ c.in_ok-capacity_of_each.ensures))
    (c.in_ok-best.ensures ∙ ap (λ rs. together (codes "best split") all.requests all.size (map part_of_row rs)) c.deref-2.ensures.value)
    (c.in_ok-equal.ensures ∙ ap (λ rs. together (codes "equal parts") all.requests all.size (map part_of_row rs)) c.deref-3.ensures.value)
    c.in_ok-one.ensures
