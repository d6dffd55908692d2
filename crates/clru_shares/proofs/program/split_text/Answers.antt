use Rattle.std.proofs.Common.{◌≡◌, true, false, sym, ◌∙◌}
use Rattle.clru_text.specs.Lines.{lines_of}
use Rattle.clru_text.proofs.ResultLemmas.{err_map, ok_map}
use Rattle.clru_shares.proofs.program.split_text.Goals as goal

pub returns-clause-table : goal.returns-clause-table
returns-clause-table g c =
    let read = c.in-Ok.ensures.taken in
    ok_map c.checked_text.result (λ text is. (read.0, read.1, read.2, is)) (c.checked_text.ensures.table (lines_of read.0) read.3)

pub returns-clause-refused : goal.returns-clause-refused
returns-clause-refused g c = err_map c.checked_text.result (λ fault no of. let e : false ≡ true = sym no ∙ of in absurd (cc)) c.checked_text.ensures.line

pub returns-clause-shown : goal.returns-clause-shown
returns-clause-shown g c = err_map c.checked_text.result (λ fault no of. let e : false ≡ true = sym no ∙ of in absurd (cc)) c.checked_text.ensures.line

pub returns-clause-no_room : goal.returns-clause-no_room
returns-clause-no_room g c =
    let read = c.in-Ok.ensures.taken in
    err_map c.checked_text.result (λ fault of size is. (read.0, read.1, read.2, of size is)) (c.checked_text.ensures.no_room (lines_of read.0) read.3)
