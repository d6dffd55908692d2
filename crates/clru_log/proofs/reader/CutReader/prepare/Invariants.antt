use Rattle.std.specs.Io.KnownBytes.{Keeps}
use Rattle.clru_log.specs.Cutting.{cut_remaining}
use Rattle.clru_log.proofs.reader.CutReader.prepare.Given as goal

-- what is to come stays the same
abbrev pub invariant-reads : goal.invariant-reads
invariant-reads g l = Keeps (cut_remaining g.R.Read.remaining l.fn.self) (cut_remaining g.R.Read.remaining l.self)
