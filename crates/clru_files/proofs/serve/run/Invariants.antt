use Rattle.std.proofs.Common.{◌≡◌, ℕ, ◌+◌, ◌≤◌, List, [], ◌++◌, length, map, flat_map}
use Rattle.std.specs.List.{AllByRecursion}
use Rattle.std.specs.Io.KnownBytes.{Appends}
use Rattle.clru_text.specs.Lines.{lines_of}
use Rattle.clru_files.specs.Serving.{line_of, IsServed, AreCounted}
use Rattle.clru_files.specs.declared.served.Served.{Served}
use Rattle.clru_files.specs.declared.freshness.Freshness.TheVariants.{Within}
use Rattle.std.specs.declared.time.Duration.{Duration}
use Rattle.clru_files.proofs.Reading.{AreReadSoFar}
use Rattle.clru_files.proofs.serve.run.Given as goal

-- what became of the lines that were answered, which were written and counted, and what was read when, if pages answer for a time; a
-- line and its newline have a byte at least
abbrev pub invariant-lines : goal.invariant-lines
invariant-lines g l = record {
  served : (done : List (List ℕ × Served)) × (lines_of l.fn.input ≡ map (λ r. r.0) done ++ lines_of l.left)
      × AllByRecursion IsServed done × AreCounted done l.counts
      × Appends (g.W.Write.contents l.initial.output) (g.W.Write.contents l.output) (flat_map line_of done)
      × ((limit : Duration) → l.fn.freshness ≡ Within limit → l.initial.pages.cache.entries ≡ []
      → AreReadSoFar g.T.Timer.reads limit done l.initial.timer l.timer l.pages.cache.entries);
  few : l.counts.hits + l.counts.fetches + l.counts.no_text + l.counts.no_memory + length l.left ≤ length l.fn.input;
}

abbrev pub decreases-lines : goal.decreases-lines
decreases-lines g l = length l.left
