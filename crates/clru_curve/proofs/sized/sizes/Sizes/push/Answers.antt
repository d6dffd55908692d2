use Rattle.std.proofs.Common.{sym, ap, length, ◌∙◌}
use Rattle.clru_curve.proofs.Latests.{written_back}
use Rattle.clru_curve.proofs.LatestSizes.{IsSummed-push}
use Rattle.clru_curve.proofs.sized.sizes.Sizes.push.Goals as goal

pub add_size-requires-clause-sums : goal.add_size-requires-clause-sums
add_size-requires-clause-sums g c =
    let self = c.args.self.now in
    (self.sizes.items, sym c.len-at.ensures, c.requires.fits, rw c.deref_mut.ensures.value c.requires.kept.sums)

pub returns-clause-kept : goal.returns-clause-kept
returns-clause-kept g c =
    let self = c.args.self.now in let ss = self.sizes.items in
    let sums = c.add_size.ensures.sums ss self.requests (sym c.len-at.ensures) (rw c.deref_mut.ensures.value c.requires.kept.sums) in
    rw (written_back c.add_size.new.nodes self.nodes.items self.nodes.len (c.add_size.ensures.length ∙ c.deref_mut.ensures.len), c.push_reserved.ensures.items)
    (IsSummed-push ss self.nodes.items self.requests c.requires.kept c.args.size c.add_size.new.nodes
    (c.add_size.ensures.length ∙ ap (λ l. length l) c.deref_mut.ensures.value) c.requires.node sums)
