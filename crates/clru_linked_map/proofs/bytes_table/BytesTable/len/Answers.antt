use Rattle.std.proofs.Common.{arith}
use Rattle.clru_linked_map.proofs.Strings.{length-entries}
use Rattle.clru_linked_map.proofs.bytes_table.BytesTable.len.Goals as goal

pub returns : goal.returns
returns g c =
    let t = c.args.self.now in let all = length-entries t.buffer.items t.held.items in
    omega (arith, all, t.held.ok.0, c.len.ensures)
