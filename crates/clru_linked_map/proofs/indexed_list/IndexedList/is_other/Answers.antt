use Rattle.std.proofs.Common.{sym, ap, ◌∙◌, inl, inr}
use Rattle.std.proofs.lemmas.Bool.{cases_Bool}
use Rattle.clru_list.specs.PlaceList.{item_at}
use Rattle.clru_linked_map.proofs.indexed_list.IndexedList.is_other.Goals as goal

pub returns-clause-found : goal.returns-clause-found
returns-clause-found g c = λ h. record {
  item = c.item-item.result.now;
  held = ap (λ q. item_at q c.args.self.now.list.entries) (sym c.place-place.ensures) ∙ c.item-item.ensures.value;
  same = elim (cases_Bool c.equivalent.result) [
    | inl t ↦ sym c.equivalent.ensures ∙ t
    | inr f ↦ let wrong = rw f at h in cc
  ];
}
