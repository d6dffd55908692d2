use Rattle.std.proofs.Common.{◌≡◌, ◌∙◌, get_or, arith}
use Rattle.std.proofs.lemmas.List.{get_or_default}
use Rattle.std.proofs.lemmas.Nat.{one_shl}
use Rattle.clru_least.proofs.BitTrees.{IsSaid_flipped, IsSaid_root, IsSaidBut_flipped, one_is_0}
use Rattle.clru_least.proofs.positions.+flip_bit.Goals as goal

pub returns-then-node-eq0-clause-said : goal.returns-then-node-eq0-clause-said
returns-then-node-eq0-clause-said g t c leaves but =
    let words = c.args.words.now.items in
    let read : c.index-was.result.now ≡ get_or words c.args.node 0 = c.index-was.ensures ∙ get_or_default words c.args.node c.index-was.result.now 0 c.requires.node in
    rw (one_shl c.args.bit 64 c.requires.bit, read)
    (IsSaid_root leaves c.args.node c.args.bit words c.requires.node c.requires.bit but c.if-node-eq0.true)

pub returns-then-min-gt0-clause-said : goal.returns-then-min-gt0-clause-said
returns-then-min-gt0-clause-said g t c leaves but =
    let words = c.args.words.now.items in
    let read : c.index-was.result.now ≡ get_or words c.args.node 0 = c.index-was.ensures ∙ get_or_default words c.args.node c.index-was.result.now 0 c.requires.node in
    let both = rw (one_shl c.args.bit 64 c.requires.bit, read) at c.min.ensures in
    rw (one_shl c.args.bit 64 c.requires.bit, read)
    (IsSaid_flipped leaves c.args.node c.args.bit words c.requires.node c.requires.bit but
    (omega (arith, both, c.if-min-gt0.true)) (omega (arith, both, c.if-min-gt0.true)))

pub returns-clause-said : goal.returns-clause-said
returns-clause-said g t c leaves but =
    let words = c.args.words.now.items in
    let read : c.index-was.result.now ≡ get_or words c.args.node 0 = c.index-was.ensures ∙ get_or_default words c.args.node c.index-was.result.now 0 c.requires.node in
    let both = rw (one_shl c.args.bit 64 c.requires.bit, read) at c.min.ensures in
    c.flip_bit.ensures.said leaves (rw (one_shl c.args.bit 64 c.requires.bit, read)
    (IsSaidBut_flipped leaves c.args.node c.args.bit words c.requires.node c.requires.bit but (omega (arith, c.if-node-eq0.false))
    (one_is_0 _ _ (omega (arith, both, c.if-min-gt0.false)))))
