use Rattle.std.specs.Hash.DefaultHasher.{finish}
use Rattle.clru_text.proofs.hasher.SipHasher13Hasher.finish.Goals as goal

pub returns : goal.returns
unfolding finish
returns c = simp (c.round-3.ensures, c.round-2.ensures, c.round.ensures, c.write_word.ensures)
