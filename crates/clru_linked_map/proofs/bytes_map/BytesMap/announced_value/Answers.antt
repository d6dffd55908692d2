use Rattle.std.proofs.Common.{◌≡◌, Some, reverse, subst, arith}
use Rattle.std.specs.List.{slice_get}
use Rattle.clru_linked_map.proofs.Strings.{length-entries}
use Rattle.clru_linked_map.specs.BytesTable.{string_at}
use Rattle.clru_linked_map.proofs.bytes_map.BytesMap.announced_value.Goals as goal

pub value_at-requires : goal.value_at-requires
value_at-requires g c =
    let t = c.self.inside.table in
    record { place = omega (arith, t.held.ok.0, c.len.ensures, c.if-place-len.false, length-entries t.buffer.items t.held.items) }

pub returns : goal.returns
returns g c =
    let t = c.self.inside.table in let place = c.place-place.result in let string = string_at t.buffer.items 0 t.held.items place in
    (place, string, subst (λ es. slice_get (reverse es) place ≡ Some (string, c.value_at.result)) c.self.view_is c.value_at.ensures)
