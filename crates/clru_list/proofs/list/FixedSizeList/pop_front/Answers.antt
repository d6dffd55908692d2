use Rattle.std.proofs.Common.{ap, ◌∙◌}
use Rattle.clru_list.specs.PlaceList.{with_entries, without}
use Rattle.clru_list.proofs.EntryLists.{without-first}
use Rattle.clru_list.proofs.Views.{seen_item, seen_front, front_place}
use Rattle.clru_list.proofs.list.FixedSizeList.pop_front.Goals as goal

pub returns-clause-value : goal.returns-clause-value
returns-clause-value g c = cc (
  c.remove.ensures.value,
  c.front-front.ensures,
  seen_item _ _ _ _ _ c.self.invariant.0 _ c.self.view_is c.front-front.result,
  seen_front _ _ _ _ _ c.self.invariant.0 _ c.self.view_is,
)

pub returns-clause-entries : goal.returns-clause-entries
returns-clause-entries g c =
    let es = c.args.self.now.entries in
    c.remove.ensures.entries ∙ ap (with_entries c.args.self.now) (ap (λ p. without p es) (c.front-front.ensures ∙ front_place _ _ _ _ _ c.self.invariant.0 _ c.self.view_is) ∙ without-first es)
