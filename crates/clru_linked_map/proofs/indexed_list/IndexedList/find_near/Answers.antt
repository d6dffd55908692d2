use Rattle.clru_linked_map.proofs.indexed_list.IndexedList.find_near.Goals as goal

pub returns-then-is_there-clause-found : goal.returns-then-is_there-clause-found
returns-then-is_there-clause-found g c = c.is_there.ensures.found c.if-is_there.true
