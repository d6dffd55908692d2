use Rattle.std.proofs.Common.{set, ap, ◌∙◌}
use Rattle.clru_c.specs.OneSize.{size_in}
use Rattle.clru_c.proofs.OneSize.{one_written}
use Rattle.clru_c.proofs.one_size.write_sizes.Goals as goal

pub loop-index-preserved : goal.loop-index-preserved
loop-index-preserved g c =
    let keys = c.args.keys.now in let i = c.loop-index.index in
    ap (set c.loop-index.sizes i) c.held_size.ensures
    ∙ one_written (size_in c.args.greatest.now) keys c.args.sizes.now c.loop-index.sizes i c.loop-index-test.true c.requires.equally_long
    c.loop-index.invariant
