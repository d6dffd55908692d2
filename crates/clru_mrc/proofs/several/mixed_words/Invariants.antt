use Rattle.std.proofs.Common.{length}
use Rattle.clru_mrc.proofs.several.mixed_words.Given as goal

abbrev pub decreases-words : goal.decreases-words
decreases-words l = length l.left
