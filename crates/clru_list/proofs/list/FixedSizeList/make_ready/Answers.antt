use Rattle.std.proofs.Common.{refl, sym, ap, ◌∙◌, arith}
use Rattle.clru_list.proofs.Soundness.{walk-is, view-is, valid_view}
use Rattle.clru_list.proofs.Steps.{sound-grow}
use Rattle.clru_list.proofs.Views.{seen, seen_entries, seen_length, seen_valid, sound-at}
use Rattle.clru_list.proofs.Pointing.{pointed-still}
use Rattle.clru_list.proofs.list.FixedSizeList.make_ready.Goals as goal

pub returns-then-self-clause-valid : goal.returns-then-self-clause-valid
returns-then-self-clause-valid g c = seen_valid _ _ _ _ _ c.self.invariant.0 _ c.self.view_is

pub returns-then-self-2-clause-ready : goal.returns-then-self-2-clause-ready
returns-then-self-2-clause-ready g c = λ _.
    omega (arith, c.if-self-2.true, seen_length _ _ _ _ _ c.self.invariant.0 _ c.self.view_is, ap (λ l. l.places) (seen _ _ _ _ _ c.self.invariant.0 _ c.self.view_is))

pub returns-then-self-2-clause-valid : goal.returns-then-self-2-clause-valid
returns-then-self-2-clause-valid g c = seen_valid _ _ _ _ _ c.self.invariant.0 _ c.self.view_is

abbrev pub invariant_of-self : goal.invariant_of-self
invariant_of-self g c =
    let e = c.reserve.ensures in let i = c.self.invariant.0 in
    let new = sound-at _ _ _ _ _ _ _ _ e.links refl
    (sound-grow _ _ _ _ _ i c.self.inside.places _ (omega arith) (omega (arith, i.1.reserved, e.grows)) (omega (arith, c.reserve.new.self.nodes.small))) in
    ((i.0, new), pointed-still _ _ _ _ _ _ _ _ _ _ _ _ _ i.1 new refl c.self.invariant.1)

pub returns-in_default-clause-entries : goal.returns-in_default-clause-entries
returns-in_default-clause-entries g c = walk-is _ _ _ _ _ _ (invariant_of-self g c).0.1 ∙ sym (seen_entries _ _ _ _ _ c.self.invariant.0 _ c.self.view_is)

pub returns-in_default-clause-refused : goal.returns-in_default-clause-refused
returns-in_default-clause-refused g c =
    let i = c.self.invariant.0.1 in let sees = seen _ _ _ _ _ c.self.invariant.0 _ c.self.view_is in let len = seen_length _ _ _ _ _ c.self.invariant.0 _ c.self.view_is in (
      (omega (arith, i.fits, c.if-self.false, len, ap (λ l. l.capacity) sees), omega (arith, c.if-self-2.false, i.counted, i.held.total, i.within, len, ap (λ l. l.places) sees)),
      view-is _ _ _ _ _ _ (invariant_of-self g c).0.1 ∙ sym sees,
    )

pub returns-in_default-clause-valid : goal.returns-in_default-clause-valid
returns-in_default-clause-valid g c = valid_view _ _ _ _ _ _ (invariant_of-self g c).0.1

abbrev pub invariant_of-self-2 : goal.invariant_of-self-2
invariant_of-self-2 g c =
    let e = c.reserve.ensures in let i = c.self.invariant.0 in let sees = seen _ _ _ _ _ c.self.invariant.0 _ c.self.view_is in
    let new = sound-at _ _ _ _ _ _ _ _ e.links refl
    (sound-grow _ _ _ _ _ i c.grown_places-places.result _
    (omega (arith, c.grown_places-places.ensures.grown, ap (λ l. l.places) sees, ap (λ l. l.capacity) sees, c.if-self.false, c.if-self-2.false, i.1.fits))
    c.in-Ok.ensures.ready (omega (arith, c.reserve.new.self.nodes.small))) in
    ((i.0, new), pointed-still _ _ _ _ _ _ _ _ _ _ _ _ _ i.1 new refl c.self.invariant.1)

pub returns-clause-entries : goal.returns-clause-entries
returns-clause-entries g c = walk-is _ _ _ _ _ _ (invariant_of-self-2 g c).0.1 ∙ sym (seen_entries _ _ _ _ _ c.self.invariant.0 _ c.self.view_is)

pub returns-clause-ready : goal.returns-clause-ready
returns-clause-ready g c = λ lt.
    let i = c.self.invariant.0.1 in let sees = seen _ _ _ _ _ c.self.invariant.0 _ c.self.view_is in
    omega (
      arith,
      c.grown_places-places.ensures.grown,
      i.held.total,
      i.within,
      i.counted,
      seen_length _ _ _ _ _ c.self.invariant.0 _ c.self.view_is,
      ap (λ l. l.capacity) sees,
      c.if-self.false,
      c.if-self-2.false,
    )

pub returns-clause-places : goal.returns-clause-places
returns-clause-places g c =
    let i = c.self.invariant.0.1 in let sees = seen _ _ _ _ _ c.self.invariant.0 _ c.self.view_is in let len = seen_length _ _ _ _ _ c.self.invariant.0 _ c.self.view_is in
    record {
      capacity = sym (ap (λ l. l.capacity) sees);
      never_falls = omega (arith, c.grown_places-places.ensures.grown, ap (λ l. l.places) sees, ap (λ l. l.capacity) sees, c.if-self.false, c.if-self-2.false, i.fits);
      stays = λ h. absurd (h (
        omega (arith, i.fits, c.if-self.false, len, ap (λ l. l.capacity) sees),
        omega (arith, c.if-self-2.false, i.counted, i.held.total, i.within, len, ap (λ l. l.places) sees),
      ));
      bounded = λ _. omega (arith, c.grown_places-places.ensures.grown, ap (λ l. l.capacity) sees);
    }

pub returns-clause-valid : goal.returns-clause-valid
returns-clause-valid g c = valid_view _ _ _ _ _ _ (invariant_of-self-2 g c).0.1
