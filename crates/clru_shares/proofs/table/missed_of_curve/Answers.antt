use Rattle.std.proofs.Common.{Some, refl, ap, ◌∙◌}
use Rattle.clru_curve.specs.SizedCurves.{misses_within, missed_size_within}
use Rattle.std.specs.Int.NonZero.{non_zero_usize_get}
use Rattle.clru_shares.specs.ShareCurves.{missed_pair}
use Rattle.clru_shares.proofs.PairLemmas.{answered, pair_sizes}
use Rattle.clru_shares.proofs.table.missed_of_curve.Goals as goal

pub returns-in_ok-missed_size-in-BySize : goal.returns-in_ok-missed_size-in-BySize
returns-in_ok-missed_size-in-BySize g c =
    let curve = c.in-BySize.curve in let k = non_zero_usize_get c.in_ok-capacity.capacity in
    let m = c.in_ok-misses-in-BySize.field-0 in let s = c.in_ok-missed_size-in-BySize.field-0 in
    let one = answered curve.greatest_weight k (misses_within curve k) m (Some m)
    c.in_ok-misses-in-BySize.ensures.refused c.in_ok-misses-in-BySize.ensures.answer refl in
    let two = answered curve.greatest_weight k (missed_size_within curve k) s (Some s)
    c.in_ok-missed_size-in-BySize.ensures.refused c.in_ok-missed_size-in-BySize.ensures.answer refl in
    ap (λ x. Some (x, s)) one.1 ∙ ap (λ x. Some (misses_within curve k, x)) two.1
    ∙ pair_sizes c.args.curve.now curve k c.in-BySize.is one.0 ∙ ap (missed_pair c.args.curve.now) c.in_ok-capacity.ensures
