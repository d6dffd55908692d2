use Rattle.std.proofs.Common.{arith}
use Rattle.clru_linked_map.proofs.Strings.{entry_at}
use Rattle.clru_linked_map.proofs.bytes_table.BytesTable.value_at.Goals as goal

pub returns : goal.returns
returns g c =
    let t = c.args.self.now in
    entry_at t.buffer.items t.held.items c.args.place c.index.result.now (omega (arith, t.held.ok.0, c.requires)) c.index.ensures
