use Rattle.std.proofs.Common.{◌-◌, ◌^◌, None, Some, sym, ap, ◌∙◌}
use Rattle.clru_shares.specs.Sampled.{told_of}
use Rattle.clru_shares.specs.ShareCurves.{sample_of}
use Rattle.clru_shares.specs.Shares.{part_with}
use Rattle.clru_shares.proofs.table.row_of.Goals as goal

pub returns-in-Some : goal.returns-in-Some
returns-in-Some g c =
    let share = c.args.share.now in let pair = Some (c.in-Some.misses, c.in-Some.missed_size) in
    ap (λ n. part_with n c.told_of.result share.requests share.size pair) (c.in_ok-name.ensures.items ∙ c.deref.ensures.value)
    ∙ ap (λ k. part_with share.name.items k share.requests share.size pair) c.told_of.ensures
    ∙ ap (part_with share.name.items (told_of (sample_of share) (2 ^ 64 - 1) c.args.capacity) share.requests share.size)
    (sym c.in-Some.is ∙ c.missed.ensures)

pub returns-in-None : goal.returns-in-None
returns-in-None g c =
    let share = c.args.share.now in let k = told_of (sample_of share) (2 ^ 64 - 1) c.args.capacity in
    ap (λ n. part_with n k share.requests share.size None) (c.in_ok-name.ensures.items ∙ c.deref.ensures.value)
    ∙ ap (part_with share.name.items k share.requests share.size) (sym c.in-None.is ∙ c.missed.ensures)
