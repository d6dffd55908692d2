use Rattle.clru_text.proofs.ResultLemmas.{err_map}
use Rattle.clru_shares.proofs.program.make_split.Goals as goal

pub returns-clause-no_room : goal.returns-clause-no_room
returns-clause-no_room g c =
    err_map c.split_text.result (λ fault of size is. let read = of size is in (read.0, read.1, read.2, (c.split_text.new.beginning.items, read.3)))
    c.split_text.ensures.no_room
