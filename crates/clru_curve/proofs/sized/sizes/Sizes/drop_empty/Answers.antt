use Rattle.std.proofs.Common.{◌≡◌, ◌+◌, ◌*◌, ◌≤◌, length, ap, ◌∙◌, subst, arith}
use Rattle.std.proofs.lemmas.Nat.{mod_below, div-add-mod'}
use Rattle.std.specs.List.{filter}
use Rattle.clru_curve.specs.LatestSizes.{sizes_from, total_from, live_from, AreSums}
use Rattle.clru_curve.specs.Rising.{has_value}
use Rattle.clru_curve.proofs.Latests.{written_back}
use Rattle.clru_curve.proofs.LatestSizes.{total_zero, total_filter, live_filter, IsSummed-filter}
use Rattle.clru_curve.proofs.Rising.{length_filter}
use Rattle.clru_curve.proofs.sized.sizes.Sizes.drop_empty.Goals as goal

pub sum_anew-requires-clause-fits : goal.sum_anew-requires-clause-fits
sum_anew-requires-clause-fits g c =
    let ss = c.args.self.now.sizes.items in
    omega (arith, ap (λ l. sizes_from l 0) c.drop_empty.ensures.items, total_zero (filter has_value ss), total_filter ss 0, total_zero ss, c.requires.fits)

pub sum_anew-requires-clause-covers : goal.sum_anew-requires-clause-covers
sum_anew-requires-clause-covers g c =
    let self = c.args.self.now in let left = ap (λ l. length l) c.drop_empty.ensures.items in let n = c.len-sizes-2.result in
    omega (
      arith,
      c.deref_mut.ensures.len,
      c.truncate.ensures.len,
      c.len-sizes-2.ensures,
      left,
      length_filter self.sizes.items,
      c.requires.kept.covers,
      self.nodes.ok.0,
      div-add-mod' n 8,
      mod_below n 8 (omega arith),
    )

pub returns-clause-totals : goal.returns-clause-totals
returns-clause-totals g c t = ap (λ l. total_from l t) c.drop_empty.ensures.items ∙ total_filter c.args.self.now.sizes.items t

pub returns-clause-live : goal.returns-clause-live
returns-clause-live g c t = ap (λ l. live_from l t) c.drop_empty.ensures.items ∙ live_filter c.args.self.now.sizes.items t

pub returns-clause-kept : goal.returns-clause-kept
returns-clause-kept g c =
    let self = c.args.self.now in let ss = self.sizes.items in let left = c.drop_empty.ensures.items in
    let nodes = c.sum_anew.ensures.length ∙ c.deref_mut.ensures.len in
    let n = c.len-sizes-2.result in
    let all : n ≡ length (filter has_value ss) = omega (arith, c.len-sizes-2.ensures, ap (λ l. length l) left) in
    let fewer = length_filter ss in
    let covers : length (filter has_value ss) ≤ 8 * length c.sum_anew.new.nodes
    = omega (arith, nodes, c.truncate.ensures.len, all, fewer, c.requires.kept.covers, self.nodes.ok.0, div-add-mod' n 8, mod_below n 8 (omega arith)) in
    let tight : 8 * length c.sum_anew.new.nodes ≤ length (filter has_value ss) + 8
    = omega (arith, nodes, c.truncate.ensures.len, all, self.nodes.ok.0, div-add-mod' n 8, mod_below n 8 (omega arith)) in
    rw (written_back c.sum_anew.new.nodes c.truncate.new.self.items c.truncate.new.self.len nodes, left)
    (IsSummed-filter ss self.nodes.items self.requests c.requires.kept c.sum_anew.new.nodes
    (subst (λ l. AreSums l c.sum_anew.new.nodes) left c.sum_anew.ensures.sums) covers tight)
