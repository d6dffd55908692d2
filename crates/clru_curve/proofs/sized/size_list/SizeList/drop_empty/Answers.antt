use Rattle.std.proofs.Common.{◌≡◌, map, sym, ap, ◌∙◌, rules}
use Rattle.std.proofs.lemmas.Fn.{filter_same}
use Rattle.std.specs.List.{filter}
use Rattle.clru_curve.specs.Rising.{has_value}
use Rattle.clru_curve.specs.SizeLists.{widened, size_items}
use Rattle.clru_curve.proofs.SizeLists.{filter-map}
use Rattle.clru_curve.proofs.sized.size_list.SizeList.drop_empty.Goals as goal
use Rattle.clru_curve.proofs.sized.size_list.SizeList.drop_empty.Goals.{in-Narrow, in-Wide}

pub returns-clause-items : goal.returns-clause-items
returns-clause-items g c =
    let here = ap (λ v. v.items) c.self.view_is in
    elim c.match-self.branch [
      | in-Narrow w ↦
          let old : map widened w.in-Narrow.sizes.items ≡ c.args.self.now.items = ap (λ f. (size_items f).items) (sym w.in-Narrow.is) ∙ here in
          let left = filter_same _ (λ s. has_value (widened s)) _ (λ x b f' k. search rules) _ _ w.retain.ensures.filtered in
          ap (λ i. (size_items i.form).items) w.self-inside-is ∙ ap (map widened) left ∙ filter-map has_value widened w.in-Narrow.sizes.items
          ∙ ap (filter has_value) old
      | in-Wide w ↦
          let old : w.in-Wide.sizes.items ≡ c.args.self.now.items = ap (λ f. (size_items f).items) (sym w.in-Wide.is) ∙ here in
          let left = filter_same _ has_value _ (λ x b f' k. search rules) _ _ w.retain-in-Wide.ensures.filtered in
          ap (λ i. (size_items i.form).items) w.self-inside-is ∙ left ∙ ap (filter has_value) old
    ]
