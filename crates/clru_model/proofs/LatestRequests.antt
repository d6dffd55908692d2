-- Where the latest request of each key is, after one more, and by views of the keys.
use Rattle.std.proofs.Common.{◌≡◌, ℕ, suc, ◌||◌, Bool, true, false, cond, List, ◌∷◌, length, map, Option, None, Some, refl, sym, ap, ◌∙◌, subst, arith}
use Rattle.std.proofs.lemmas.List.{length-map}
use Rattle.clru_model.specs.Requests.{IsLatestOf, holds, since}
use Rattle.clru_model.proofs.Cases.{split}
use Rattle.clru_model.proofs.Distinct.{since-cons}
use Rattle.clru_model.proofs.Views.{same, holds-map, since-map}

module _ {K : Type 0} (eq : K → K → Bool) (past : List K) (x y : K) where
  -- that of the key that is requested is where the requests so far end
  pub latest_here : eq y x ≡ true → (p : ℕ) → p ≡ length past → IsLatestOf eq (x ∷ past) y (Some p)
  latest_here same p here = record {
    known = rw same refl;
    position =
        let none : length (since eq y (x ∷ past)) ≡ 0 = rw (since-cons eq y x past, same) refl in
        omega (arith, here, none);
  }

  -- that of another key stays where it was
  pub latest_there : eq y x ≡ false → (latest : Option ℕ) → IsLatestOf eq past y latest → IsLatestOf eq (x ∷ past) y latest
  latest_there other None is = record { known = is.known ∙ sym (ap (λ b. b || holds eq y past) other); position = tt }
  latest_there other (Some p) is = record {
    known = is.known ∙ sym (ap (λ b. b || holds eq y past) other);
    position =
        let more : length (since eq y (x ∷ past)) ≡ suc (length (since eq y past)) = rw (since-cons eq y x past, other) refl in
        omega (arith, more, is.position);
  }

  -- that of each key, once p is noted for the keys that are the same as x
  pub latest_more : (p : ℕ) → p ≡ length past → (before after : Option ℕ) → IsLatestOf eq past y before → after ≡ cond (eq y x) (Some p) before
      → IsLatestOf eq (x ∷ past) y after
  latest_more p here before after is noted = split (eq y x)
      (λ t. subst (IsLatestOf eq (x ∷ past) y) (sym (rw t at noted)) (latest_here t p here))
      (λ f. subst (IsLatestOf eq (x ∷ past) y) (sym (rw f at noted)) (latest_there f before is))

-- where keys are compared by a view of them, the latest request of a key is at the position of the latest one of its view
pub latest_view : {X Y : Type 0} (eq : Y → Y → Bool) (view : X → Y) (past : List X) (key : X) (latest : Option ℕ)
    → IsLatestOf eq (map view past) (view key) latest → IsLatestOf (same eq view) past key latest
latest_view eq view past key None is = record { known = is.known ∙ holds-map eq view key past; position = tt }
latest_view eq view past key (Some p) is = record {
  known = is.known ∙ holds-map eq view key past;
  position = omega (
    arith,
    is.position,
    ap length (since-map eq view key past),
    length-map (since (same eq view) key past) view,
    length-map past view,
  );
}
