use Rattle.clru_text.specs.Keys.{line_of}
use Rattle.clru_shares.proofs.PlaceLemmas.{noted_more}
use Rattle.clru_shares.proofs.latest.note_line.Goals as goal

pub returns-in-Ok-clause-latest : goal.returns-in-Ok-clause-latest
returns-in-Ok-clause-latest g c kept noted = rw (c.in-Ok.ensures.before, c.deref.ensures.value) (noted.each (line_of c.args.key.now))

pub returns-in-Ok-clause-noted : goal.returns-in-Ok-clause-noted
returns-in-Ok-clause-noted g c kept noted all own =
    rw (c.in-Ok.ensures.taken, c.deref.ensures.value) (noted_more kept (line_of c.args.key.now) c.args.latest.now c.args.here noted all own)
