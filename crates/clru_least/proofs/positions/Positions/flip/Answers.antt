use Rattle.std.proofs.Common.{arith}
use Rattle.clru_least.proofs.BitTrees.{flipped_in}
use Rattle.clru_least.proofs.positions.Positions.flip.Goals as goal

pub returns-clause-tree : goal.returns-clause-tree
returns-clause-tree g c =
    let tree = c.requires.tree in let flipped = c.flip_bit.ensures in
    record {
      begins = tree.begins;
      some = omega (arith, flipped.length, tree.some);
      ends = omega (arith, flipped.length, tree.ends);
      few = omega (arith, flipped.length, tree.few);
      small = tree.small;
      said = flipped.said c.args.self.now.leaves (record {
        others = λ n some low other. tree.said n some low;
        wrong = λ low. absurd (omega (arith, low));
      });
    }

pub returns-clause-flipped : goal.returns-clause-flipped
returns-clause-flipped g c =
    flipped_in c.args.self.now.leaves c.args.self.now.words.items c.flip_bit.new.words.items c.args.position c.requires.room c.requires.tree.ends
    c.flip_bit.ensures.flipped c.flip_bit.ensures.others
