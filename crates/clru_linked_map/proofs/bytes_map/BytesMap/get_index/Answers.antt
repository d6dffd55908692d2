use Rattle.std.proofs.Common.{arith}
use Rattle.clru_linked_map.proofs.Strings.{length-entries}
use Rattle.clru_linked_map.proofs.bytes_map.BytesMap.get_index.Goals as goal

pub bytes_at-requires-clause-place : goal.bytes_at-requires-clause-place
bytes_at-requires-clause-place g c =
    let t = c.self.inside.table in
    omega (arith, t.held.ok.0, c.len.ensures, c.if-index-len.false, length-entries t.buffer.items t.held.items)

pub value_at-requires : goal.value_at-requires
value_at-requires g c =
    let t = c.self.inside.table in
    record { place = omega (arith, t.held.ok.0, c.len.ensures, c.if-index-len.false, length-entries t.buffer.items t.held.items) }
