use Rattle.std.proofs.Common.{rules, ◌≡◌, nat_eq, refl, ◌∙◌}
use Rattle.std.specs.Prelude.{None}
use Rattle.std.specs.Cmp.{nat_eq_equiv}
use Rattle.clru_model.specs.Entries.{plain_drop}
use Rattle.clru.proofs.CallerLemmas.{lookup-put_beside}
use Rattle.clru_uses.proofs.lookups.remember_beside.Goals as goal

pub returns-in-Ok : goal.returns-in-Ok
returns-in-Ok c = record {
  others = λ other none apart.
      let es = c.args.sizes.now.entries in let size = c.args.sizes.now.capacity in
      let stays : plain_drop nat_eq size c.args.page es ≡ None = search (rules, none) in
      rw c.in-Ok.ensures.entries (lookup-put_beside nat_eq_equiv c.args.page other es c.len.ensures.valid.distinct size c.args.size stays
      ∙ rw apart refl);
}
