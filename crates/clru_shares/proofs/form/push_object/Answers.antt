use Rattle.std.proofs.Common.{◌++◌, codes, ap, ◌∙◌}
use Rattle.clru_shares.specs.Forms.{key_members, size_members}
use Rattle.clru_shares.specs.Passes.{part_of_row}
use Rattle.clru_shares.proofs.PartLemmas.{six_laid}
use Rattle.clru_shares.proofs.form.push_object.Goals as goal

pub returns : goal.returns
returns g c =
    let p = part_of_row c.args.row.now in let text = c.args.text.now.items in let named = c.extend_from_slice.new.self.items in
    six_laid text (codes "{\"class\":\"") p.name (codes "\"") (key_members p) (size_members c.args.by_size p) (codes "}\n")
    c.in_ok-extend_from_slice.ensures.items
    (c.in_ok-extend_from_slice-2.ensures.items ∙ ap (λ bs. named ++ bs) c.deref.ensures.value)
    c.in_ok-extend_from_slice-3.ensures.items c.in_ok-push_key_members.ensures c.in_ok-push_size_members.ensures
    c.in_ok-extend_from_slice-4.ensures.items
