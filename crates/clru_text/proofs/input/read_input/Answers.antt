use Rattle.clru_text.proofs.KnownLemmas.{Consumes-more}
use Rattle.clru_text.proofs.input.read_input.Goals as goal

pub reads-preserved : goal.reads-preserved
reads-preserved g c =
    let read = c.in_ok-count.ensures in
    let before = c.reads.invariant in
    (read.fits, Consumes-more _ _ _ c.reads.bytes.items c.read_chunk.new.bytes.items c.reads.filled c.in_ok-count.count read.kept before.1 read.bytes)
