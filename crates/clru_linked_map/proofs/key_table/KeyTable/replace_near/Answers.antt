use Rattle.clru_linked_map.proofs.KeyTables.{IsKeyed-replaced}
use Rattle.clru_linked_map.proofs.key_table.KeyTable.replace_near.Goals as goal
use Rattle.clru_linked_map.proofs.key_table.KeyTable.replace_near.Goals.{in-Some, in-None}

pub invariant_of-self : goal.invariant_of-self
invariant_of-self g c =
    elim c.match-get_mut_near.branch [
      | in-Some w ↦ rw w.self-inside-is
          (IsKeyed-replaced g.K.PartialEq.eq (g.Q.Equivalent.equivalent c.args.key) c.self.inside.map.entries w.replace.new.dest c.self.invariant)
      | in-None w ↦ rw w.self-inside-is c.self.invariant
    ]
