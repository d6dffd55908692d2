-- A cache by size, as a schedule, takes all requests in where it has room for each requested key.
use Rattle.std.proofs.Common.{◌≡◌, ℕ, ◌+◌, ◌<◌, Bool, true, leb, List, [], ◌∷◌, refl, ap, ◌∙◌, arith}
use Rattle.std.proofs.lemmas.Bool.{and_from, or_left, or_right, le-leb}
use Rattle.std.specs.Cmp.{IsEquivalence}
use Rattle.clru_model.specs.Requests.{holds, since}
use Rattle.clru_model.specs.SizedSchedule.{IsScheduleBySize}
use Rattle.clru_model.specs.Sizes.{SameWeights, total}
use Rattle.clru_model.proofs.Distinct.{since-cons}
use Rattle.clru_model.proofs.ReplaySchedules.{all_held}
use Rattle.clru_model.proofs.SizedReplaySchedules.{spanned, holds_spanned, spanned_fits, spanned_serves, replayed}

module _ {K : Type 0} (eq : K → K → Bool) (laws : IsEquivalence eq) (weight : K → ℕ) (same : SameWeights eq weight) (c : ℕ) where
  pub replayed_takes : (past rs : List K) → ((x : K) → holds eq x rs ≡ true → weight x < c)
      → IsScheduleBySize eq weight c (spanned eq laws weight same c past ∷ replayed eq laws weight same c past rs) rs
  replayed_takes past [] room = (spanned_fits eq laws weight same c past, refl)
  replayed_takes past (x ∷ rs) room =
      let since_is : since eq x (x ∷ past) ≡ [] = rw (since-cons eq x x past, laws.refl x) refl in
      let fits = le-leb (1 + weight x + total eq weight (since eq x (x ∷ past))) c
      (omega (arith, ap (total eq weight) since_is, room x (or_left (eq x x) (holds eq x rs) (laws.refl x)))) in
      let here : holds eq x (x ∷ past) ≡ true = or_left (eq x x) (holds eq x past) (laws.refl x) in (
        spanned_fits eq laws weight same c past,
        (
          all_held eq (spanned eq laws weight same c (x ∷ past)) (x ∷ spanned eq laws weight same c past) (spanned_serves eq laws weight same c past x) laws,
          holds_spanned eq laws weight same c (x ∷ past) x
              ∙ and_from (holds eq x (x ∷ past)) (leb (1 + weight x + total eq weight (since eq x (x ∷ past))) c) here fits,
        ),
        replayed_takes (x ∷ past) rs (λ y h. room y (or_right (eq y x) (holds eq y rs) h)),
      )
