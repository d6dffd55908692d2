use Rattle.std.proofs.Common.{◌≡◌, ◌<◌, ◌≤◌, true, ◌++◌, ◌∷◌, [], length, map, sym, ap, ◌∙◌, subst, arith}
use Rattle.std.proofs.lemmas.List.{get_or-map, length-map}
use Rattle.std.proofs.lemmas.List.Edits.{length-insert}
use Rattle.std.proofs.lemmas.List.Elements.{All-get_or}
use Rattle.clru_text.specs.Keys.{line_of}
use Rattle.clru_text.specs.TakenRequests.{shown_of}
use Rattle.clru_shares.specs.Classes.{of_class}
use Rattle.clru_shares.specs.Passes.{BelongsAt, HasTaken, HaveTaken, IsHeldAt, IsPlaceOf, name_of, next_kept}
use Rattle.clru_shares.specs.Places.{IsAskedOf}
use Rattle.clru_shares.proofs.TakenClasses.{new_class, taken_at, taken_new}
use Rattle.clru_shares.proofs.classes.take_classed.Goals as goal
use Rattle.clru_shares.proofs.classes.take_classed.Goals.{in-Ok-insert, in-Err-insert}

pub index_mut-requires : goal.index_mut-requires
index_mut-requires g c =
    let classes = c.args.classes.now.items in
    let held = subst (IsPlaceOf (map name_of classes) c.args.name.now) c.in-Ok.is c.requires.place in
    omega (arith, held.within, length-map classes name_of)

pub take_line-requires : goal.take_line-requires
take_line-requires g c =
    let classes = c.args.classes.now.items in let class = c.index_mut.result.now in
    let limit = c.requires.taken.0 in let lines = c.requires.taken.1 in let kept = c.requires.taken.2 in let request = c.requires.taken.3 in
    let sizes = c.args.sizes in let name = c.args.name.now in let at = c.in-Ok.at in
    let held = subst (IsPlaceOf (map name_of classes) name) c.in-Ok.is c.requires.place in
    let low : at < length classes = omega (arith, held.within, length-map classes name_of) in
    let named = ap name_of c.index_mut.ensures.value ∙ sym (get_or-map name_of classes at class [] low) ∙ held.is in (
      sizes,
      limit,
      lines,
      kept,
      request,
      subst (HasTaken sizes limit lines kept) (sym c.index_mut.ensures.value)
          (All-get_or (HasTaken sizes limit lines kept) classes at class low c.requires.taken.4.each),
      c.requires.taken.5,
      λ is. subst (λ n. IsAskedOf limit (of_class n kept) (shown_of request) c.args.asked) (sym named) (c.requires.taken.6 is),
    )

pub class_with-requires : goal.class_with-requires
class_with-requires g c =
    let classes = c.args.classes.now.items in let name = c.args.name.now in
    let limit = c.requires.taken.0 in let kept = c.requires.taken.2 in let request = c.requires.taken.3 in
    let belongs = subst (IsPlaceOf (map name_of classes) name) c.in-Err.is c.requires.place in
    let none = new_class c.args.sizes limit c.requires.taken.1 kept classes name c.in-Err.at c.requires.taken.4 belongs in (
      limit,
      request,
      c.requires.taken.5,
      λ is. subst (λ ls. IsAskedOf limit ls (shown_of request) c.args.asked) none.1 (c.requires.taken.6 is),
    )

pub returns-then-len-ge-MOST_CLASSES-clause-full : goal.returns-then-len-ge-MOST_CLASSES-clause-full
returns-then-len-ge-MOST_CLASSES-clause-full g c same =
    let classes = c.args.classes.now.items in (
      omega (arith, c.if-len-ge-MOST_CLASSES.true, c.len.ensures),
      (c.in-Err.at, subst (IsPlaceOf (map name_of classes) c.args.name.now) c.in-Err.is c.requires.place),
    )

pub insert-requires : goal.insert-requires
insert-requires g c =
    let classes = c.args.classes.now.items in
    let belongs = subst (IsPlaceOf (map name_of classes) c.args.name.now) c.in-Err.is c.requires.place in
    omega (arith, belongs.within, length-map classes name_of)

pub returns-in_ok-take_line-in-Ok-clause-taken : goal.returns-in_ok-take_line-in-Ok-clause-taken
returns-in_ok-take_line-in-Ok-clause-taken g c limit lines kept request is sized asked own same =
    let classes = c.args.classes.now.items in let class = c.index_mut.result.now in let at = c.in-Ok.at in let line = line_of request.0 in
    let sizes = c.args.sizes in
    let held = subst (IsPlaceOf (map name_of classes) c.args.name.now) c.in-Ok.is c.requires.place in
    let low : at < length classes = omega (arith, held.within, length-map classes name_of) in
    let here = ap name_of c.index_mut.ensures.value ∙ sym (get_or-map name_of classes at class [] low) ∙ held.is in
    let named = here ∙ own in
    let taken = c.in_ok-take_line-in-Ok.ensures.taken sizes limit lines kept request
    (subst (HasTaken sizes limit lines kept) (sym c.index_mut.ensures.value) (All-get_or (HasTaken sizes limit lines kept) classes at class low is.each))
    sized (λ so. subst (λ n. IsAskedOf limit (of_class n kept) (shown_of request) c.args.asked) (sym here) (asked so)) named in
    taken_at sizes limit lines kept c.args.is_kept line request.1 classes is at c.take_line.new.class (c.in_ok-take_line-in-Ok.ensures.name ∙ named) taken c.in_ok-take_line-in-Ok.ensures.some
    (subst (λ n. IsHeldAt (map name_of classes) n at) own held)

pub returns-after-insert-clause-taken : goal.returns-after-insert-clause-taken
returns-after-insert-clause-taken g c limit lines kept request is sized asked own =
    let classes = c.args.classes.now.items in let at = c.in-Err.at in let line = line_of request.0 in
    let sizes = c.args.sizes in
    let made = c.in_ok-class-in-Err.ensures in
    let belongs = subst (IsPlaceOf (map name_of classes) c.args.name.now) c.in-Err.is c.requires.place in
    let new = new_class sizes limit lines kept classes c.args.name.now at is belongs in
    let first = λ (so : c.args.is_kept ≡ true). subst (λ ls. IsAskedOf limit ls (shown_of request) c.args.asked) new.1 (asked so) in
    elim c.match-insert.branch [
      | in-Ok-insert w ↦ rw w.result-is (λ same. subst (HaveTaken sizes limit (lines ++ line ∷ []) (next_kept c.args.is_kept kept (shown_of request))) (sym w.in-Ok-insert.ensures.items)
          (taken_new sizes limit lines kept c.args.is_kept line request.1 classes is at c.in_ok-class-in-Err.class (made.name ∙ own)
          (made.taken limit lines kept request new.0 new.1 sized first own) made.some
          (subst (λ n. BelongsAt (map name_of classes) n at) own belongs)))
      | in-Err-insert w ↦ rw w.result-is tt
    ]

pub returns-after-insert-clause-few : goal.returns-after-insert-clause-few
returns-after-insert-clause-few g c =
    let classes = c.args.classes.now.items in let at = c.in-Err.at in
    let belongs = subst (IsPlaceOf (map name_of classes) c.args.name.now) c.in-Err.is c.requires.place in
    let within : at ≤ length classes = omega (arith, belongs.within, length-map classes name_of) in
    elim c.match-insert.branch [
      | in-Ok-insert w ↦ rw w.result-is (λ same few. omega (
        arith,
        ap length w.in-Ok-insert.ensures.items,
        length-insert classes at c.in_ok-class-in-Err.class within,
        c.if-len-ge-MOST_CLASSES.false,
        c.len.ensures,
      ))
      | in-Err-insert w ↦ rw w.result-is tt
    ]
