use Rattle.std.proofs.Common.{◌≡◌, ◌<◌, ◌+◌, ◌*◌, suc, arith, ap, sym, subst, ◌∙◌, get_or, length}
use Rattle.std.proofs.lemmas.List.{get_or_default}
use Rattle.clru_least.specs.Positions.{first_of}
use Rattle.clru_least.proofs.BitTrees.{IsHighest, IsLastOf, IsLastOf_below, first_of-below, in_words, none_in, last_in, last_greatest}
use Rattle.clru_least.proofs.positions.Positions.last.Given.{Over}
use Rattle.clru_least.proofs.positions.Positions.last.Goals as goal
use Rattle.clru_least.proofs.positions.Positions.last.Goals.{After-last_bit-bit, After-last_bit}

pub returns-then-index-eq0-clause-none : goal.returns-then-index-eq0-clause-none
returns-then-index-eq0-clause-none g c none p =
    let words = c.args.self.now.words.items in let tree = c.requires.tree in
    none_in c.args.self.now.leaves words tree.said p tree.ends
    (sym (c.index.ensures ∙ get_or_default words 0 c.index.result.now 0 tree.some) ∙ c.if-index-eq0.true)

-- a level below
module _ (g : Over) (c : After-last_bit-bit g) where
  highest : IsHighest (get_or c.args.self.now.words.items c.loop-level.node 0) c.last_bit-bit.result
  highest =
      let words = c.args.self.now.words.items in let l = c.loop-level in let found = c.last_bit-bit.ensures in
      let read = c.index-in-loop-level.ensures ∙ get_or_default words l.node c.index-in-loop-level.result.now 0 (in_words words l.node l.invariant.some) in
      subst (λ w. IsHighest w c.last_bit-bit.result) read (record { set = found.set; highest = found.highest })

  below : IsLastOf (64 * first_of c.loop-level._level + 1) (64 * c.loop-level.node + 1 + c.last_bit-bit.result) c.args.self.now.words.items
  below =
      let self = c.args.self.now in let tree = c.requires.tree in let l = c.loop-level in
      IsLastOf_below self.leaves self.words.items tree.said (first_of l._level) l.node c.last_bit-bit.result
      (rw tree.begins (first_of-below l._level self.levels c.loop-level-test.true)) l.invariant highest c.last_bit-bit.ensures.below

  within : 64 * c.loop-level.node + 1 + c.last_bit-bit.result < length c.args.self.now.words.items
  within = in_words c.args.self.now.words.items (64 * c.loop-level.node + 1 + c.last_bit-bit.result) below.some

pub loop-level-preserved : goal.loop-level-preserved
loop-level-preserved g c =
    let e : c.loop-level._level + 1 ≡ suc c.loop-level._level = omega arith in
    rw e (below g c)

pub overflow_mul-node : goal.overflow_mul-node
overflow_mul-node g c = omega (arith, within g c, c.requires.tree.few, c.requires.tree.small)

pub overflow_add-node : goal.overflow_add-node
overflow_add-node g c = omega (arith, within g c, c.requires.tree.few, c.requires.tree.small)

pub overflow_add-node-in-loop-level : goal.overflow_add-node-in-loop-level
overflow_add-node-in-loop-level g c = omega (arith, within g c, c.requires.tree.few, c.requires.tree.small)

-- at the leaves
module _ (g : Over) (c : After-last_bit g) where
  at_leaves : IsLastOf c.args.self.now.leaves c.loop-level.node c.args.self.now.words.items
  at_leaves =
      let self = c.args.self.now in let l = c.loop-level in
      let e : l._level ≡ self.levels = omega (arith, c.loop-level-test.false, l.auto._level-end) in
      subst (λ m. IsLastOf m l.node self.words.items) (ap first_of e ∙ sym c.requires.tree.begins) l.invariant

  leaf_highest : IsHighest (get_or c.args.self.now.words.items c.loop-level.node 0) c.last_bit.result
  leaf_highest =
      let words = c.args.self.now.words.items in let l = c.loop-level in let found = c.last_bit.ensures in
      let read = c.index-2.ensures ∙ get_or_default words l.node c.index-2.result.now 0 (in_words words l.node l.invariant.some) in
      subst (λ w. IsHighest w c.last_bit.result) read (record { set = found.set; highest = found.highest })

pub returns-clause-some : goal.returns-clause-some
returns-clause-some g c =
    last_in c.args.self.now.leaves c.loop-level.node c.last_bit.result c.args.self.now.words.items (at_leaves g c) (leaf_highest g c) c.last_bit.ensures.below

pub returns-clause-greatest : goal.returns-clause-greatest
returns-clause-greatest g c =
    last_greatest c.args.self.now.leaves c.loop-level.node c.last_bit.result c.args.self.now.words.items (at_leaves g c) (leaf_highest g c)
    c.last_bit.ensures.below c.requires.tree.ends

pub overflow_mul-result : goal.overflow_mul-result
overflow_mul-result g c =
    let within = in_words c.args.self.now.words.items c.loop-level.node c.loop-level.invariant.some in
    omega (arith, within, c.requires.tree.few)

pub overflow_add-result : goal.overflow_add-result
overflow_add-result g c =
    let within = in_words c.args.self.now.words.items c.loop-level.node c.loop-level.invariant.some in
    omega (arith, within, c.requires.tree.few, c.last_bit.ensures.below)
