use Rattle.clru_linked_map.proofs.KeyTables.{IsKeyed-none}
use Rattle.clru_linked_map.proofs.key_table.KeyTable.new.Goals as goal

pub invariant_of-result : goal.invariant_of-result
invariant_of-result g c = rw c.new.ensures (IsKeyed-none g.K.PartialEq.eq)
