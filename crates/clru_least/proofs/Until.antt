-- How long until a key is requested, and what a request changes of it.
use Rattle.std.proofs.Common.{◌≡◌, ℕ, zero, suc, ◌+◌, ◌<◌, ◌≤◌, Bool, true, false}
use Rattle.std.proofs.Common.{List, [], ◌∷◌, length, take, drop, refl, ap, ◌∙◌, arith}
use Rattle.std.proofs.lemmas.Bool.{or_parts}
use Rattle.std.specs.Cmp.{IsEquivalence}
use Rattle.clru_model.specs.Requests.{holds}
use Rattle.clru_model.proofs.Cases.{split}
use Rattle.clru_least.specs.Next.{until, next_from}

module _ {K : Type 0} (eq : K → K → Bool) where
  -- at another key it is one longer with a request in front
  pub until-cons : (z x : K) (rs : List K) → eq z x ≡ false → until eq z (x ∷ rs) ≡ suc (until eq z rs)
  until-cons z x rs f = rw f refl

  -- it is no longer than the requests are
  pub until-le-length : (z : K) (rs : List K) → until eq z rs ≤ length rs
  until-le-length z [] = omega arith
  until-le-length z (x ∷ rs) = let ih = until-le-length z rs in split (eq z x) (λ t. rw t (omega arith)) (λ f. rw f (omega arith))

  -- a key that is requested within n requests comes before them
  pub until_within : (z : K) (n : ℕ) (rs : List K) → holds eq z (take n rs) ≡ true → until eq z rs < n
  until_within z zero rs h = cc
  until_within z (suc n) [] h = cc
  until_within z (suc n) (x ∷ rs) h =
      split (eq z x) (λ t. rw t (omega arith)) (λ f. let ih = until_within z n rs (rw f at h) in rw f (omega arith))

  -- and it is requested at all
  pub until_requested : (z : K) (n : ℕ) (rs : List K) → holds eq z (take n rs) ≡ true → until eq z rs < length rs
  until_requested z zero rs h = cc
  until_requested z (suc n) [] h = cc
  until_requested z (suc n) (x ∷ rs) h =
      split (eq z x) (λ t. rw t (omega arith)) (λ f. let ih = until_requested z n rs (rw f at h) in rw f (omega arith))

  -- a key that comes before n requests is requested within them
  pub requested_within : (z : K) (n : ℕ) (rs : List K) → until eq z rs < n → until eq z rs < length rs → holds eq z (take n rs) ≡ true
  requested_within z zero rs h g = absurd (omega arith)
  requested_within z (suc n) [] h g = absurd (omega arith)
  requested_within z (suc n) (x ∷ rs) h g =
      split (eq z x) (λ t. rw t refl) (λ f. rw f (requested_within z n rs (omega (arith, rw f at h)) (omega (arith, rw f at g))))

  -- a key that is not requested is not within the requests
  pub until_not_held : (z : K) (rs : List K) → holds eq z rs ≡ false → until eq z rs ≡ length rs
  until_not_held z [] h = refl
  until_not_held z (x ∷ rs) h =
      let parts = or_parts (eq z x) (holds eq z rs) h in
      rw parts.0 (ap suc (until_not_held z rs parts.1))

  -- the positions of the next requests, one by one
  pub length-next_from : (i : ℕ) (rs : List K) → length (next_from eq i rs) ≡ length rs
  length-next_from i [] = refl
  length-next_from i (x ∷ rs) = ap suc (length-next_from (i + 1) rs)

  pub drop-next_from : (i j : ℕ) (rs : List K) → drop j (next_from eq i rs) ≡ next_from eq (i + j) (drop j rs)
  drop-next_from i zero rs = let e : i + 0 ≡ i = omega arith in rw e refl
  drop-next_from i (suc j) [] = refl
  drop-next_from i (suc j) (x ∷ rs) = let e : (i + 1) + j ≡ i + suc j = omega arith in drop-next_from (i + 1) j rs ∙ ap (λ n. next_from eq n (drop j rs)) e

module _ {K : Type 0} (eq : K → K → Bool) (laws : IsEquivalence eq) where
  -- keys that are the same are requested at the same time
  pub until_same : (x y : K) (rs : List K) → eq x y ≡ true → until eq x rs ≡ until eq y rs
  until_same x y [] e = refl
  until_same x y (z ∷ rs) e =
      let c = laws.congr x y z e in
      let ih = until_same x y rs e in
      split (eq y z) (λ t. rw (c, t) refl) (λ f. rw (c, f) (ap suc ih))

  -- keys that are requested at the same time are the same
  pub same_until : (x y : K) (rs : List K) → until eq x rs ≡ until eq y rs → until eq x rs < length rs → eq x y ≡ true
  same_until x y [] e h = absurd (omega arith)
  same_until x y (z ∷ rs) e h =
      split (eq x z)
      (λ t. split (eq y z)
      (λ u. laws.congr x z y t ∙ laws.symm z y ∙ u)
      (λ v. absurd (omega (arith, rw (t, v) at e))))
      (λ f. split (eq y z)
      (λ u. absurd (omega (arith, rw (f, u) at e)))
      (λ v. same_until x y rs (omega (arith, rw (f, v) at e)) (omega (arith, rw f at h))))
