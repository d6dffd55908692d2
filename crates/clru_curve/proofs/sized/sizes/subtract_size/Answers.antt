use Rattle.std.proofs.Common.{◌+◌, ◌/◌, ◌<◌, ◌≤◌, length, set, sym, ap, ◌∙◌, subst, arith}
use Rattle.std.proofs.lemmas.List.{get_or-set_same}
use Rattle.clru_curve.specs.LatestSizes.{full_from}
use Rattle.clru_curve.specs.Rising.{numbered}
use Rattle.clru_curve.specs.Tree.{up_by}
use Rattle.clru_curve.proofs.Counted.{IsCounted-first, IsCounted-same}
use Rattle.clru_curve.proofs.LatestSizes.{full_fall, full_clear, full_kept, open_clear, open_kept}
use Rattle.clru_curve.proofs.sized.sizes.subtract_size.Goals as goal

pub subtract_at-requires-clause-counted : goal.subtract_at-requires-clause-counted
subtract_at-requires-clause-counted c =
    let ss = c.requires.sums.0 in let at = c.args.at in let is = c.requires.sums.1 in let value = c.requires.sums.2 in
    let full : at / 8 < length ss / 8 = subst (λ n. at / 8 < n / 8) (sym is) c.if-at-count.true in
    let left = set ss at (numbered 0 0) in (
      full_from left,
      (
        full_fall left,
        IsCounted-same _ _ c.args.nodes.now
            (λ j. full_clear ss at 0 (omega (arith, c.requires.inside, is)) full j ∙ ap (λ a. full_from left j + up_by a j (at / 8)) value)
            c.requires.sums.3.counted,
      ),
    )

pub overflow_sub-nodes : goal.overflow_sub-nodes
overflow_sub-nodes c =
    let ss = c.requires.sums.0 in let at = c.args.at in let is = c.requires.sums.1 in
    let behind : length ss / 8 ≤ at / 8 = omega (arith, c.if-at-count.false, ap (λ n. n / 8) is) in
    omega (arith, open_clear ss at 0 (omega (arith, c.requires.inside, is)) behind, c.requires.sums.2, c.requires.sums.3.first)

pub returns-then-at-count-clause-sums : goal.returns-then-at-count-clause-sums
returns-then-at-count-clause-sums c ss m is value sums =
    let at = c.args.at in let left = set ss at (numbered m 0) in
    let inside : at < length ss = omega (arith, c.requires.inside, is) in
    let full : at / 8 < length ss / 8 = subst (λ n. at / 8 < n / 8) (sym is) c.if-at-count.true in
    record {
      counted = c.subtract_at.ensures.counted (full_from left) (IsCounted-same _ _ c.args.nodes.now
          (λ j. full_clear ss at m inside full j ∙ ap (λ a. full_from left j + up_by a j (at / 8)) value) sums.counted);
      first = c.subtract_at.ensures.first ∙ sums.first ∙ sym (open_kept ss at m inside full);
    }

pub returns-else-at-count-clause-sums : goal.returns-else-at-count-clause-sums
returns-else-at-count-clause-sums c ss m is value sums =
    let at = c.args.at in let nodes = c.args.nodes.now in
    let inside : at < length ss = omega (arith, c.requires.inside, is) in
    let behind : length ss / 8 ≤ at / 8 = omega (arith, c.if-at-count.false, ap (λ n. n / 8) is) in
    record {
      counted = IsCounted-first _ nodes _ (IsCounted-same _ _ nodes (λ j. full_kept ss at m inside behind j) sums.counted);
      first = get_or-set_same nodes 0 _ 0 (omega (arith, c.requires.inside, c.requires.covers))
          ∙ omega (arith, sums.first, open_clear ss at m inside behind, value);
    }
