-- To drop the key whose next request is the furthest loses what is wanted latest.
use Rattle.std.proofs.Common.{◌≡◌, ℕ, ◌+◌, ◌≤◌, Bool, true, false, cond, not}
use Rattle.std.proofs.Common.{List, [], ◌∷◌, length, take, refl, ◌∙◌, arith, inl, inr}
use Rattle.std.proofs.lemmas.Bool.{and_parts, or_left, or_right}
use Rattle.std.specs.Cmp.{IsEquivalence}
use Rattle.std.specs.List.{list_all}
use Rattle.clru_model.specs.Requests.{holds}
use Rattle.clru_model.proofs.Cases.{split}
use Rattle.clru_model.proofs.Distinct.{others, holds-others, holds_same}
use Rattle.clru_model.proofs.Optimum.{IsBest, IsBest_cons}
use Rattle.clru_model.proofs.Wanted.{LosesLatest}
use Rattle.clru_least.specs.Next.{until}
use Rattle.clru_least.proofs.Due.{AreApart, AreApart_first, AreApart_others, length-others}
use Rattle.clru_least.proofs.Until.{until-cons, until_within, until_requested, requested_within}

module _ {K : Type 0} (eq : K → K → Bool) where
  -- each key of the list passes a test of being held
  all_held : (ks ls : List K) → ((k : K) → eq k k ≡ true) → ((z : K) → holds eq z ks ≡ true → holds eq z ls ≡ true)
      → list_all (λ q. holds eq q ls) ks ≡ true
  all_held [] ls same within = refl
  all_held (k ∷ ks) ls same within =
      let here : holds eq k ls ≡ true = within k (or_left (eq k k) (holds eq k ks) (same k)) in
      rw here (all_held ks ls same (λ z h. within z (or_right (eq z k) (holds eq z ks) h)))

module _ {K : Type 0} (eq : K → K → Bool) (laws : IsEquivalence eq) where
  -- a key among the others of x is not the same as x, and is held
  others_parts : (x z : K) (ks : List K) → holds eq z (others eq x ks) ≡ true → (eq x z ≡ false) × (holds eq z ks ≡ true)
  others_parts x z ks h =
      let p = and_parts (not (eq x z)) (holds eq z ks) (rw (holds-others eq laws z x ks) at h) in
      (split (eq x z) (λ t. cc (rw t at p.0)) (λ f. f), p.1)

  -- what is held but for x is held with x in front
  first_held : (x z : K) (ks : List K) → holds eq z ks ≡ true → holds eq z (x ∷ others eq x ks) ≡ true
  first_held x z ks held = split (eq z x)
      (λ t. rw t refl)
      (λ f. let apart : eq x z ≡ false = laws.symm x z ∙ f in
      rw f (holds-others eq laws z x ks ∙ rw (apart, held) refl))

  -- x is held in front of others, none of which came in
  first_served : (x : K) (ks ls : List K) → ((z : K) → holds eq z ls ≡ true → holds eq z ks ≡ true)
      → list_all (λ q. holds eq q (x ∷ ks)) (x ∷ others eq x ls) ≡ true
  first_served x ks ls within = all_held eq (x ∷ others eq x ls) (x ∷ ks) laws.refl (λ z h. split (eq z x)
      (λ t. rw t refl)
      (λ f. rw f (within z (others_parts x z ls (rw f at h)).1)))

  -- a step that drops nothing
  pub best_keeps : (h n : ℕ) (x : K) (ks rs : List K) → length ks ≤ h → IsBest eq h (x ∷ others eq x ks) rs n
      → IsBest eq h ks (x ∷ rs) (cond (holds eq x ks) 0 1 + n)
  best_keeps h n x ks rs short best =
      let here : holds eq x (x ∷ others eq x ks) ≡ true = or_left (eq x x) (holds eq x (others eq x ks)) (laws.refl x) in
      IsBest_cons eq laws h n x ks (x ∷ others eq x ks) rs short (first_served x ks ks (λ z held. held)) here
      (λ d. inl (λ z held wanted. first_held x z ks held)) best

  -- what a step keeps that drops z, the key requested latest
  drops_latest : (h : ℕ) (x z : K) (ks rs : List K) → AreApart eq ks → length ks ≡ h → holds eq x ks ≡ false → holds eq z ks ≡ true
      → ((y : K) → holds eq y ks ≡ true → until eq y (x ∷ rs) ≤ until eq z (x ∷ rs))
      → LosesLatest eq h ks x rs (x ∷ others eq x (others eq z ks))
  drops_latest h x z ks rs apart full new held latest d =
      let next = x ∷ others eq x (others eq z ks) in
      let not_x : eq z x ≡ false = split (eq z x) (λ t. cc (holds_same eq laws z x ks t)) (λ f. f) in
      let later = until-cons eq z x rs not_x in
      split (holds eq z (take d rs))
      (λ wanted.
      let less = until_within eq z d rs wanted in
      let some = until_requested eq z d rs wanted in
      let kept = AreApart_first eq laws x (others eq z ks) (AreApart_others eq laws z ks apart) in
      let gone = length-others eq laws z ks apart in
      let none : holds eq x (others eq z ks) ≡ false = holds-others eq laws x z ks ∙ rw new (split (eq z x) (λ t. rw t refl) (λ f. rw f refl)) in
      let stay = length-others eq laws x (others eq z ks) (AreApart_others eq laws z ks apart) in
      inr (
        omega (arith, kept, rw held at gone, rw none at stay),
        λ y here apart_x.
            let back : eq y x ≡ false = laws.symm y x ∙ apart_x in
            let among = others_parts x y (others eq z ks) (rw back at here) in
            let was = others_parts z y ks among.1 in
            let sooner = latest y was.1 in
            let soon : until eq y rs ≤ until eq z rs = omega (arith, sooner, later, until-cons eq y x rs back) in
            requested_within eq y d rs (omega arith) (omega arith),
      ))
      (λ unwanted. inl (λ y was wanted.
      let apart_z : eq z y ≡ false = split (eq z y) (λ t. cc (holds_same eq laws z y (take d rs) t)) (λ f. f) in
      first_held x y (others eq z ks) (holds-others eq laws y z ks ∙ rw (apart_z, was) refl)))

  -- a step that misses with no room, and drops the key requested latest
  pub best_drops : (h n : ℕ) (x z : K) (ks rs : List K) → AreApart eq ks → length ks ≡ h → holds eq x ks ≡ false → holds eq z ks ≡ true
      → ((y : K) → holds eq y ks ≡ true → until eq y (x ∷ rs) ≤ until eq z (x ∷ rs))
      → IsBest eq h (x ∷ others eq x (others eq z ks)) rs n → IsBest eq h ks (x ∷ rs) (1 + n)
  best_drops h n x z ks rs apart full new held latest best =
      let here : holds eq x (x ∷ others eq x (others eq z ks)) ≡ true =
      or_left (eq x x) (holds eq x (others eq x (others eq z ks))) (laws.refl x) in
      let step = IsBest_cons eq laws h n x ks (x ∷ others eq x (others eq z ks)) rs (omega arith)
      (first_served x ks (others eq z ks) (λ y held. (others_parts z y ks held).1)) here (drops_latest h x z ks rs apart full new held latest) best in
      rw new at step
