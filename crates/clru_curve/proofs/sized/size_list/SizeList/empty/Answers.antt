use Rattle.std.proofs.Common.{◌≡◌, ◌<◌, length, map, set, refl, sym, ap, ◌∙◌, arith}
use Rattle.std.proofs.lemmas.List.{get_or_read, length-map}
use Rattle.clru_curve.specs.Rising.{numbered, number_at}
use Rattle.clru_curve.specs.SizeLists.{widened, size_items}
use Rattle.clru_curve.proofs.SizeLists.{emptied}
use Rattle.clru_curve.proofs.sized.size_list.SizeList.empty.Goals as goal
use Rattle.clru_curve.proofs.sized.size_list.SizeList.empty.Goals.{in-Narrow, in-Wide}

pub returns-clause-items : goal.returns-clause-items
returns-clause-items g c =
    let at = c.args.at in let here = ap (λ v. v.items) c.self.view_is in
    elim c.match-self.branch [
      | in-Narrow w ↦
          let ss = w.in-Narrow.sizes.items in let s = w.index_mut.result.now in
          let old : map widened ss ≡ c.args.self.now.items = ap (λ f. (size_items f).items) (sym w.in-Narrow.is) ∙ here in
          let inside : at < length ss = omega (arith, c.requires, ap length old, length-map ss widened) in
          ap (λ i. (size_items i.form).items) w.self-inside-is ∙ emptied widened ss at s inside w.index_mut.ensures.value _ refl
          ∙ ap (λ l. set l at (numbered (number_at l at) 0)) old
      | in-Wide w ↦
          let ss = w.in-Wide.sizes.items in let s = w.index_mut-in-Wide.result.now in
          let old : ss ≡ c.args.self.now.items = ap (λ f. (size_items f).items) (sym w.in-Wide.is) ∙ here in
          let inside : at < length ss = omega (arith, c.requires, ap length old) in
          let number = ap (λ b. b.number) (get_or_read ss at s inside w.index_mut-in-Wide.ensures.value (numbered 0 0)) in
          ap (λ i. (size_items i.form).items) w.self-inside-is ∙ ap (λ n. set ss at (numbered n 0)) number
          ∙ ap (λ l. set l at (numbered (number_at l at) 0)) old
    ]
