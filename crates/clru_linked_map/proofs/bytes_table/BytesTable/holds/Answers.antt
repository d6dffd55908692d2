use Rattle.std.proofs.Common.{sym, ap, ◌∙◌, arith}
use Rattle.std.specs.Prelude.{bytes_eq}
use Rattle.clru_linked_map.proofs.Strings.{found_apart}
use Rattle.clru_linked_map.proofs.bytes_table.BytesTable.holds.Goals as goal

pub returns-then-place-len-clause-found : goal.returns-then-place-len-clause-found
returns-then-place-len-clause-found g c = λ same.
    let t = c.args.self.now in
    found_apart t.buffer.items t.held.items c.args.place c.args.bytes.now (omega (arith, t.held.ok.0, c.len.ensures, c.if-place-len.true))
    (ap (bytes_eq c.args.bytes.now) (sym c.bytes_at.ensures) ∙ sym c.eq.ensures ∙ same) c.requires.apart
