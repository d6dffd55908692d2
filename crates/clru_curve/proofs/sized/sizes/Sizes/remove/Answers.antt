use Rattle.std.proofs.Common.{◌<◌, length, length-set, sym, ap, ◌∙◌, subst}
use Rattle.clru_curve.specs.LatestSizes.{total_from}
use Rattle.clru_curve.specs.Rising.{numbered, number_at, value_at}
use Rattle.clru_curve.proofs.Latests.{written_back}
use Rattle.clru_curve.proofs.LatestSizes.{is_live, same_place, total_at, IsSummed-clear}
use Rattle.clru_curve.proofs.sized.sizes.Sizes.remove.Goals as goal

pub place_near-at-requires-clause-there : goal.place_near-at-requires-clause-there
place_near-at-requires-clause-there g c =
    let l = is_live c.args.self.now.sizes.items c.args.request c.requires.live in (l.at, l.inside, l.number)

pub subtract_size-requires-clause-sums : goal.subtract_size-requires-clause-sums
subtract_size-requires-clause-sums g c =
    let self = c.args.self.now in let ss = self.sizes.items in let i = c.place_near-at.result in
    let count = c.len.ensures ∙ ap (λ l. length l) c.empty.ensures.items ∙ length-set ss i (numbered (number_at ss i) 0) in
    (ss, sym count, sym c.value-size.ensures, rw c.deref_mut.ensures.value c.requires.kept.sums)

pub returns-clause-total : goal.returns-clause-total
returns-clause-total g c =
    let self = c.args.self.now in let ss = self.sizes.items in let i = c.place_near-at.result in
    c.sum_from-total.ensures ∙ sym (total_at 0 ss self.requests i c.requires.kept.rising c.place_near-at.ensures.inside)
    ∙ ap (total_from ss) c.place_near-at.ensures.number

pub returns-clause-kept : goal.returns-clause-kept
returns-clause-kept g c =
    let self = c.args.self.now in let ss = self.sizes.items in let ns = self.nodes.items in let i = c.place_near-at.result in
    let count = c.len.ensures ∙ ap (λ l. length l) c.empty.ensures.items ∙ length-set ss i (numbered (number_at ss i) 0) in
    let sums = c.subtract_size.ensures.sums ss (number_at ss i) (sym count) (sym c.value-size.ensures)
    (rw c.deref_mut.ensures.value c.requires.kept.sums) in
    rw (written_back c.subtract_size.new.nodes ns self.nodes.len (c.subtract_size.ensures.length ∙ c.deref_mut.ensures.len), c.empty.ensures.items)
    (IsSummed-clear ss ns self.requests c.requires.kept i c.subtract_size.new.nodes
    (c.subtract_size.ensures.length ∙ ap (λ l. length l) c.deref_mut.ensures.value) sums)

pub returns-clause-removed : goal.returns-clause-removed
returns-clause-removed g c =
    let self = c.args.self.now in let ss = self.sizes.items in let i = c.place_near-at.result in
    let inside = c.place_near-at.ensures.inside in let number = c.place_near-at.ensures.number in
    let l = is_live ss c.args.request c.requires.live in
    let same = same_place ss self.requests l.at i c.requires.kept.rising l.inside inside (l.number ∙ sym number) in
    record { at = i; inside = inside; number = number; some = subst (λ k. 0 < value_at ss k) same l.some; is = c.empty.ensures.items }
