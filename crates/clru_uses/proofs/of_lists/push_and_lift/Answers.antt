use Rattle.std.proofs.Common.{◌≡◌, ℕ, List, [], ◌∷◌, ◌++◌, Some, None, sym, ap, ◌∙◌, subst, append_assoc, arith}
use Rattle.std.specs.Option.{option_copied_mut}
use Rattle.clru_list.specs.PlaceList.{item_at, without, IsApart}
use Rattle.clru_list.proofs.CallerLemmas.{item_at-between, without-between}
use Rattle.clru_uses.proofs.of_lists.push_and_lift.Goals as goal

-- the two items that were pushed behind the others, once the first is looked up and once it is taken out
found : (es now new : List (ℕ × ℕ)) (p q x y : ℕ) → now ≡ es ++ (p, x) ∷ [] → new ≡ now ++ (q, y) ∷ [] → IsApart new
    → (item_at p new ≡ Some x) × (without p new ≡ es ++ (q, y) ∷ [])
found es now new p q x y first second apart =
    let is : new ≡ es ++ (p, x) ∷ ((q, y) ∷ []) = second ∙ ap (λ l. l ++ (q, y) ∷ []) first ∙ append_assoc es ((p, x) ∷ []) ((q, y) ∷ []) in
    let apart' = subst IsApart is apart in (
      ap (item_at p) is ∙ item_at-between es ((q, y) ∷ []) p x apart',
      ap (without p) is ∙ without-between es ((q, y) ∷ []) p x apart',
    )

pub overflow_add-lifted : goal.overflow_add-lifted
overflow_add-lifted c =
    let f = found _ _ _ _ _ _ _ c.in_ok-place.ensures.entries c.in_ok-behind.ensures.entries c.move_front.ensures.valid.apart in
    let shown = ap option_copied_mut (sym c.in-Some.is) ∙ c.move_front.ensures.value ∙ f.0 in
    let item : c.in-Some.lifted.now ≡ c.args.item = cc in
    omega arith

pub unreachable-requires : goal.unreachable-requires
unreachable-requires c =
    let f = found _ _ _ _ _ _ _ c.in_ok-place.ensures.entries c.in_ok-behind.ensures.entries c.move_front.ensures.valid.apart in
    let wrong : None ≡ Some c.args.item = ap option_copied_mut (sym c.in-None.is) ∙ c.move_front.ensures.value ∙ f.0 in
    absurd (cc)

pub returns : goal.returns
returns c =
    let f = found _ _ _ _ _ _ _ c.in_ok-place.ensures.entries c.in_ok-behind.ensures.entries c.move_front.ensures.valid.apart in
    let shown = ap option_copied_mut (sym c.in-Some.is) ∙ c.move_front.ensures.value ∙ f.0 in
    let item : c.in-Some.lifted.now ≡ c.args.item = cc in
    cc (item, f.1)
