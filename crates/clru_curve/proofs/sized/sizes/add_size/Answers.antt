use Rattle.std.proofs.Common.{◌≡◌, ℕ, ◌+◌, ◌%◌, ◌/◌, ◌*◌, ◌<◌, length, sym, ap, ◌∙◌, arith}
use Rattle.std.proofs.lemmas.List.{get_or-set_same}
use Rattle.std.proofs.lemmas.Nat.{mod_below}
use Rattle.clru_curve.specs.LatestSizes.{full_from, open_in}
use Rattle.clru_curve.specs.Tree.{up_by}
use Rattle.clru_curve.proofs.Counted.{IsCounted-first, IsCounted-same}
use Rattle.clru_curve.proofs.LatestSizes.{sizes_few, full_few, full_push, full_fill, open_push, open_fill}
use Rattle.clru_curve.proofs.sized.sizes.add_size.Goals as goal

pub overflow_add-sum : goal.overflow_add-sum
overflow_add-sum c =
    let ss = c.requires.sums.0 in
    omega (arith, c.requires.sums.2, c.requires.sums.3.first, sizes_few ss (8 * (length ss / 8)))

pub add_at-requires-clause-counted : goal.add_at-requires-clause-counted
add_at-requires-clause-counted c =
    let ss = c.requires.sums.0 in let sums = c.requires.sums.3 in
    (full_from ss, (sums.counted, λ j. omega (arith, c.requires.sums.2, sums.first, full_few ss j)))

pub returns-then-at-clause-sums : goal.returns-then-at-clause-sums
returns-then-at-clause-sums c ss m is sums =
    let size = c.args.size in let nodes = c.args.nodes.now in
    let few : length ss % 8 < 7 = omega (arith, c.if-at.true, ap (λ n. n % 8) is) in
    record {
      counted = IsCounted-first _ nodes _ (IsCounted-same _ _ nodes (λ j. sym (full_push ss m size few j)) sums.counted);
      first = get_or-set_same nodes 0 _ 0 (omega (arith, c.requires.inside)) ∙ omega (arith, sums.first, open_push ss m size few);
    }

pub returns-else-at-clause-sums : goal.returns-else-at-clause-sums
returns-else-at-clause-sums c ss m is sums =
    let size = c.args.size in let nodes = c.args.nodes.now in let at = c.args.at in
    let full : length ss % 8 ≡ 7 = omega (arith, c.if-at.false, ap (λ n. n % 8) is, mod_below (length ss) 8 (omega arith)) in
    let same = λ (j : ℕ). ap (λ a. full_from ss j + up_by (a + size) j (at / 8)) sums.first
    ∙ ap (λ n. full_from ss j + up_by (open_in ss + size) j (n / 8)) (sym is) ∙ sym (full_fill ss m size full j) in
    record {
      counted = IsCounted-first _ c.add_at.new.nodes 0
          (IsCounted-same _ _ c.add_at.new.nodes same (c.add_at.ensures.counted (full_from ss) sums.counted));
      first = get_or-set_same c.add_at.new.nodes 0 0 0 (omega (arith, c.requires.inside, c.add_at.ensures.length))
          ∙ sym (open_fill ss m size full);
    }
