use Rattle.std.proofs.Common.{sym, ◌∙◌}
use Rattle.clru_linked_map.proofs.indexed_list.IndexedList.is_there.Goals as goal

pub returns-in-Some-clause-found : goal.returns-in-Some-clause-found
returns-in-Some-clause-found g c = λ h. record { item = c.in-Some.item.now; held = sym c.in-Some.ensures.value; same = sym c.equivalent.ensures ∙ h }
