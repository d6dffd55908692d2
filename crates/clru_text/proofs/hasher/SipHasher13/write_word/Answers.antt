use Rattle.std.specs.Hash.DefaultHasher.{write_word}
use Rattle.clru_text.proofs.hasher.SipHasher13.write_word.Goals as goal

pub returns : goal.returns
unfolding write_word
returns c = simp c.round.ensures
