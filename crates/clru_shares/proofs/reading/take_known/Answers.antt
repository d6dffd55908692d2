use Rattle.std.proofs.Common.{ℕ, List, length, map, sym, ap, ◌∙◌, subst, arith}
use Rattle.std.proofs.lemmas.List.{length-map}
use Rattle.clru_text.specs.Keys.{line_of}
use Rattle.clru_text.proofs.ResultLemmas.{ok_map}
use Rattle.clru_shares.specs.Classes.{AreAscending, of_class}
use Rattle.clru_shares.specs.Passes.{HaveTaken, IsPlaceOf, name_of}
use Rattle.clru_shares.specs.Places.{IsAskedOf}
use Rattle.clru_shares.specs.declared.pass.Asked.{Asked}
use Rattle.clru_shares.proofs.ClassLemmas.{place_of_each}
use Rattle.clru_shares.proofs.PlaceLemmas.{asked_all, asked_own}
use Rattle.clru_shares.proofs.reading.take_known.Goals as goal

pub place_of-place-requires : goal.place_of-place-requires
place_of-place-requires g c = subst (λ cs. AreAscending (map name_of cs)) (sym c.deref.ensures.value) c.requires.taken.2.classes.ascending

pub kept_at-own-requires : goal.kept_at-own-requires
kept_at-own-requires g c =
    ok_map c.place_of-place.result (λ at held. omega (arith, held.within, length-map c.deref.result.now name_of, c.deref.ensures.len, c.deref-2.ensures.len))
    c.place_of-place.ensures.held

pub take_classed-requires-clause-place : goal.take_classed-requires-clause-place
take_classed-requires-clause-place g c =
    subst (λ cs. IsPlaceOf (map name_of cs) c.args.name.now c.place_of-place.result) c.deref.ensures.value
    (place_of_each (map name_of c.deref.result.now) c.args.name.now c.place_of-place.result c.place_of-place.ensures.held c.place_of-place.ensures.missing)

pub take_classed-requires-clause-taken : goal.take_classed-requires-clause-taken
take_classed-requires-clause-taken g c =
    let kept = c.requires.taken.1 in let taken = c.requires.taken.2 in let key = c.args.key.now in let r : List ℕ × ℕ = (line_of key, c.args.time) in
    let asked : Asked = record { latest = c.own_of.result; soon = c.soon_of-soon.result; size = c.args.size } in (
      c.args.limit,
      c.requires.taken.0,
      kept,
      (key, c.args.time),
      taken.classes,
      c.requires.size,
      λ is. subst (λ n. IsAskedOf c.args.limit (of_class n kept) r asked) (sym c.requires.name)
          (asked_own c.args.limit kept r c.in_ok-places.places asked c.soon_of-soon.ensures (c.in_ok-places.ensures.latest kept taken.latest is) c.own_of.ensures),
    )

pub take_kept-requires : goal.take_kept-requires
take_kept-requires g c =
    let kept = c.requires.taken.1 in let taken = c.requires.taken.2 in let key = c.args.key.now in let r : List ℕ × ℕ = (line_of key, c.args.time) in
    let asked : Asked = record { latest = c.all_of.result; soon = c.soon_of-soon.result; size = c.args.size } in (
      c.args.sizes,
      c.args.limit,
      kept,
      (key, c.args.time),
      taken.all,
      c.requires.size,
      λ is. asked_all c.args.limit kept r c.in_ok-places.places asked c.soon_of-soon.ensures
          (c.in_ok-places.ensures.latest kept taken.latest is) c.all_of.ensures,
    )

pub returns-in_ok-take_kept-clause-classes : goal.returns-in_ok-take_kept-clause-classes
returns-in_ok-take_kept-clause-classes g c lines kept taken room =
    let key = c.args.key.now in let r : List ℕ × ℕ = (line_of key, c.args.time) in
    let asked : Asked = record { latest = c.own_of.result; soon = c.soon_of-soon.result; size = c.args.size } in
    c.in_ok-has_room.ensures.taken c.args.limit lines kept (key, c.args.time) taken.classes c.requires.size
    (λ is. subst (λ n. IsAskedOf c.args.limit (of_class n kept) r asked) (sym c.requires.name)
    (asked_own c.args.limit kept r c.in_ok-places.places asked c.soon_of-soon.ensures (c.in_ok-places.ensures.latest kept taken.latest is) c.own_of.ensures))
    c.requires.name room

pub returns-in_ok-take_kept-clause-all : goal.returns-in_ok-take_kept-clause-all
returns-in_ok-take_kept-clause-all g c lines kept taken room =
    let key = c.args.key.now in let r : List ℕ × ℕ = (line_of key, c.args.time) in
    let asked : Asked = record { latest = c.all_of.result; soon = c.soon_of-soon.result; size = c.args.size } in
    c.in_ok-take_kept.ensures c.args.sizes c.args.limit kept (key, c.args.time) taken.all c.requires.size
    (λ is. asked_all c.args.limit kept r c.in_ok-places.places asked c.soon_of-soon.ensures
    (c.in_ok-places.ensures.latest kept taken.latest is) c.all_of.ensures)

pub returns-in_ok-take_kept-clause-latest : goal.returns-in_ok-take_kept-clause-latest
returns-in_ok-take_kept-clause-latest g c lines kept taken room =
    let classes = c.args.passes.now.classes.items in
    let place = place_of_each (map name_of c.deref.result.now) c.args.name.now c.place_of-place.result c.place_of-place.ensures.held
    c.place_of-place.ensures.missing in
    let own = c.kept_at-own.ensures c.args.sizes c.args.limit lines kept c.args.name.now
    (subst (HaveTaken c.args.sizes c.args.limit lines kept) (sym c.deref-2.ensures.value) taken.classes)
    (subst (λ cs. IsPlaceOf (map name_of cs) c.args.name.now c.place_of-place.result) (c.deref.ensures.value ∙ sym c.deref-2.ensures.value) place) in
    c.in_ok-places.ensures.noted kept taken.latest taken.numbered (own ∙ ap (λ n. length (of_class n kept)) c.requires.name)
