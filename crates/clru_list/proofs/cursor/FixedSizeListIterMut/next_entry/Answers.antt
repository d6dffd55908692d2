use Rattle.std.proofs.Common.{◌≡◌, ◌<◌, Some, None, refl, sym, ap, ◌∙◌, subst, arith}
use Rattle.std.specs.Option.{option_copied_mut}
use Rattle.clru_list.specs.PlaceList.{IsApart, item_at, first_entry}
use Rattle.clru_list.specs.Cursors.{Passes, stepped}
use Rattle.clru_list.proofs.Windows.{front_entry}
use Rattle.clru_list.proofs.CursorSteps.{stepped-is, passes, length-stretch}
use Rattle.clru_list.proofs.cursor.FixedSizeListIterMut.next_entry.Goals as goal

pub unreachable-requires : goal.unreachable-requires
unreachable-requires g c =
    let s = c.args.self.now in
    let same = ap (λ d. d.list.now.entries) c.pass_front-place.ensures.passed in
    let some : 0 < s.left = omega (arith, length-stretch s.list.now.entries s.done s.left c.requires.can.fits) in
    let e = front_entry s.list.now.entries s.done s.left s.front s.back (subst IsApart same c.get_mut.ensures.valid.apart) c.requires.can some in
    let place : c.pass_front-place.result ≡ e.place = cc in
    let wrong : None ≡ Some e.item =
    ap option_copied_mut (sym c.in-None.is) ∙ c.get_mut.ensures.value ∙ (λ i. item_at (place i) (same i)) ∙ e.held in
    absurd (cc)

pub returns : goal.returns
returns g c =
    let s = c.args.self.now in
    let same = ap (λ d. d.list.now.entries) c.pass_front-place.ensures.passed in
    let some : 0 < s.left = omega (arith, length-stretch s.list.now.entries s.done s.left c.requires.can.fits) in
    let apart = subst IsApart same c.get_mut.ensures.valid.apart in
    let e = front_entry s.list.now.entries s.done s.left s.front s.back apart c.requires.can some in
    let place : c.pass_front-place.result ≡ e.place = cc in
    let shown : Some c.in-Some.item.now ≡ Some e.item =
    ap option_copied_mut (sym c.in-Some.is) ∙ c.get_mut.ensures.value ∙ (λ i. item_at (place i) (same i)) ∙ e.held in
    let item : e.item ≡ c.in-Some.item.now = cc in (
      (refl, λ w. let moved = stepped-is s c.pass_front-place.new.self c.pass_front-place.result w c.pass_front-place.ensures.place c.pass_front-place.ensures.passed in cc),
      record {
        lends = tt;
        entry = ap first_entry e.yields ∙ (λ i. Some (sym place i, item i));
        passes = λ w. subst (λ x. Passes s x w (stepped s w)) item (passes s w apart e some);
      },
    )
