-- The choices lead to a best split.
use Rattle.std.proofs.Common.{◌≡◌, ℕ, zero, suc, ◌+◌, ◌-◌, ◌*◌, ◌<◌, ◌≤◌, List, [], ◌∷◌, length, get_or, take, drop, Option, refl, sym, ap, ◌∙◌, subst, arith}
use Rattle.std.proofs.lemmas.List.{length-append, length-take-le, get_or-append-add, get_or-take, take_at, take-take}
use Rattle.std.proofs.lemmas.Nat.{mul-le}
use Rattle.std.proofs.Math.Nat.{add-mul}
use Rattle.clru_curve.specs.Rows.{Leads, AreChoices}

drop_some : {X : Type 0} (xs : List X) (i : ℕ) → i < length xs → (x : X) × (drop i xs ≡ x ∷ drop (suc i) xs)
drop_some [] i inside = absurd (omega (arith, inside))
drop_some (x ∷ xs) zero inside = (x, refl)
drop_some (x ∷ xs) (suc i) inside = drop_some xs i (omega (arith, inside))

-- a part of at most so many units fits
pub part_fits : (s w n b : ℕ) → n < w → w * s < b + s → n * s < b
part_fits s w n b low fits =
    let more : (n + 1) * s ≤ w * s = mul-le (n + 1) s w s (omega (arith, low)) (omega arith) in
    let one : (n + 1) * s ≡ n * s + 1 * s = add-mul n 1 s in omega (arith, more, one, fits)

module _ {C : Type 0} (all : C → ℕ) (missed : C → ℕ → Option ℕ) (step : ℕ) where
  -- the choices of the next curve are the last ones
  pub record IsNext (curves : List C) (ys : List ℕ) (w done end left : ℕ) : Type 0 where
    pub curve : C
    pub first : drop done curves ≡ curve ∷ drop (done + 1) curves
    pub room : w ≤ end
    pub chosen : AreChoices all missed step w (drop (done + 1) curves) (take (end - w) ys)
    pub leads : Leads all missed step curve (drop (done + 1) curves) left (get_or ys (end - w + left) 0)

  pub is_next : (curves : List C) (ys : List ℕ) (w done end left : ℕ) → done < length curves → end ≤ length ys → left < w
      → AreChoices all missed step w (drop done curves) (take end ys) → IsNext curves ys w done end left
  is_next curves ys w done end left more inside low chosen =
      let at = drop_some curves done more in
      let one : suc done ≡ done + 1 = omega arith in
      let first : drop done curves ≡ at.0 ∷ drop (done + 1) curves = subst (λ k. drop done curves ≡ at.0 ∷ drop k curves) one at.1 in
      let here = subst (λ cs. AreChoices all missed step w cs (take end ys)) first chosen in
      let before = here.0 in let row = here.1 in
      let long : length before + w ≡ end =
      omega (arith, length-append before row, ap (λ l. length l) here.2, here.3, length-take-le end ys inside) in
      let front : take (end - w) ys ≡ before =
      sym (take-take (end - w) end ys (omega arith)) ∙ ap (λ l. take (end - w) l) here.2 ∙ take_at before row (end - w) (omega (arith, long)) in
      let place : end - w + left ≡ length before + left = omega (arith, long) in
      let read : get_or row left 0 ≡ get_or ys (end - w + left) 0 =
      sym (get_or-append-add before row left 0) ∙ ap (λ l. get_or l (length before + left) 0) (sym here.2)
      ∙ ap (λ i. get_or (take end ys) i 0) (sym place) ∙ get_or-take end ys (end - w + left) 0 (omega (arith, long, low)) in
      record {
        curve = at.0;
        first = first;
        room = omega (arith, long);
        chosen = subst (λ l. AreChoices all missed step w (drop (done + 1) curves) l) (sym front) here.4;
        leads = subst (λ x. Leads all missed step at.0 (drop (done + 1) curves) left x) read (here.5 left low);
      }
