use Rattle.std.proofs.Common.{◌≡◌, None, sym, subst}
use Rattle.std.specs.Map.{lookup}
use Rattle.clru_linked_map.proofs.KeyTables.{IsKeyed-insert}
use Rattle.clru_linked_map.proofs.key_table.KeyTable.insert.Goals as goal

pub invariant_of-self-2 : goal.invariant_of-self-2
invariant_of-self-2 g c =
    let eq = g.K.PartialEq.eq in let es = c.self.inside.map.entries in
    let absent = subst (λ v. lookup (eq c.args.key) v.entries ≡ None) (sym c.self.view_is) c.requires.new in
    rw (c.push_front.ensures, c.in-Ok.ensures.same, c.double_if_full.ensures.entries)
    (IsKeyed-insert eq c.args.key c.args.value es absent c.self.invariant)
