use Rattle.std.proofs.Common.{map, length, sym, ap, ◌∙◌, subst}
use Rattle.clru_shares.specs.Passes.{IsPlaceOf, name_of}
use Rattle.clru_shares.proofs.TakenClasses.{lines_held, new_class}
use Rattle.clru_shares.proofs.classes.kept_at.Goals as goal

pub returns-in-Ok : goal.returns-in-Ok
returns-in-Ok g c sizes limit lines kept name taken place =
    ap (λ k. k.kept) (sym c.index-classes-at.is) ∙ lines_held sizes limit lines kept c.args.classes.now name c.in-Ok.at c.index-classes-at.result taken
    (subst (IsPlaceOf (map name_of c.args.classes.now) name) c.in-Ok.is place) (sym c.index-classes-at.is)

pub returns-in-Err : goal.returns-in-Err
returns-in-Err g c sizes limit lines kept name taken place =
    let classes = c.args.classes.now in
    let belongs = subst (IsPlaceOf (map name_of classes) name) c.in-Err.is place in
    sym (ap length (new_class sizes limit lines kept classes name c.in-Err.field-0 taken belongs).1)
