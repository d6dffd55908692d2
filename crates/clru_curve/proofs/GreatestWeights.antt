-- The greatest weight of requests and the size of their keys.
use Rattle.std.proofs.Common.{◌≡◌, ℕ, ◌+◌, ◌-◌, ◌≤◌, Bool, true, nat_lt, List, [], ◌∷◌, arith}
use Rattle.std.specs.Cmp.{IsEquivalence}
use Rattle.clru_model.proofs.Cases.{split}
use Rattle.clru_model.proofs.Distinct.{sum_by_key}
use Rattle.clru_model.specs.Requests.{holds}
use Rattle.clru_model.specs.Sizes.{SameWeights, total}
use Rattle.clru_curve.specs.SizedCurves.{greatest_of}

module _ {K : Type 0} (eq : K → K → Bool) (laws : IsEquivalence eq) (weight : K → ℕ) (same : SameWeights eq weight) where
  -- a key that is held has its size among all
  held_within : (x : K) (ks : List K) → holds eq x ks ≡ true → 1 + weight x ≤ total eq weight ks
  held_within x ks h = let all = rw h at (sum_by_key eq laws (λ y. 1 + weight y) (λ a b e. omega (arith, same a b e)) x ks) in omega (arith, all)

  -- the greatest weight is below the size of the distinct keys
  pub greatest_below : (ks : List K) → greatest_of weight ks ≤ total eq weight ks - 1
  greatest_below [] = omega arith
  greatest_below (x ∷ ks) =
      let ih = greatest_below ks in
      split (nat_lt (greatest_of weight ks) (weight x))
      (λ u. split (holds eq x ks)
      (λ t. let own = held_within x ks t in rw (u, t) (omega (arith, own)))
      (λ f. rw (u, f) (omega arith)))
      (λ v. split (holds eq x ks)
      (λ t. rw (v, t) ih)
      (λ f. rw (v, f) (omega (arith, ih))))
