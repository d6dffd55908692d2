-- What two lists of requests in a row miss, by any test of hits that looks at the latest request of a key and at the keys since then.
use Rattle.std.proofs.Common.{◌≡◌, ℕ, ◌+◌, Bool, true, false, ◌||◌, List, [], ◌∷◌, ◌++◌, reverse, refl, sym, ap, ◌∙◌, append-nil, arith}
use Rattle.std.proofs.lemmas.Bool.{or_left, or_right}
use Rattle.std.specs.Cmp.{IsEquivalence}
use Rattle.std.specs.List.{find}
use Rattle.clru_model.specs.Parts.{missed_cost, missed_cost_after, firsts, lasts, IsByLatest, TestedPartsMiss}
use Rattle.clru_model.specs.Requests.{holds, since, sum_distinct}
use Rattle.clru_model.proofs.Cases.{split}
use Rattle.clru_model.proofs.Distinct.{others, holds-append, holds_same, same_right, since-append}
use Rattle.clru_model.proofs.Marks.{reverse-cons-append}
use Rattle.clru_model.proofs.Parts.{firsts_beyond, firsts_beyond-none, since_beyond, reverse-lasts, holds_since-firsts}

module _ {K : Type 0} (hits : K → List K → Bool) (cost : K → ℕ) where
  -- the cost of two lists in a row
  missed_cost_after-append : (past xs ys : List K) → missed_cost_after hits cost past (xs ++ ys)
      ≡ missed_cost_after hits cost past xs + missed_cost_after hits cost (reverse xs ++ past) ys
  missed_cost_after-append past [] ys = omega arith
  missed_cost_after-append past (x ∷ xs) ys =
      let ih = missed_cost_after-append (x ∷ past) xs ys in
      let turned = ap (λ l. missed_cost_after hits cost l ys) (reverse-cons-append (λ x y. true) x xs past) in
      omega (arith, ih, turned)

  missed_cost-append : (xs ys : List K)
      → missed_cost hits cost (xs ++ ys) ≡ missed_cost hits cost xs + missed_cost_after hits cost (reverse xs) ys
  missed_cost-append xs ys = missed_cost_after-append [] xs ys
      ∙ ap (λ l. missed_cost hits cost xs + missed_cost_after hits cost l ys) (append-nil (reverse xs))

module _ {K : Type 0} (eq : K → K → Bool) where
  -- the latest request of a key is in the list that holds it
  find_held : (x : K) (c older : List K) → holds eq x c ≡ true → find (eq x) (c ++ older) ≡ find (eq x) c
  find_held x [] older held = cc
  find_held x (y ∷ c) older held = split (eq x y) (λ t. rw t refl) (λ f. rw f (find_held x c older (rw f at held)))

  find_new : (x : K) (c older : List K) → holds eq x c ≡ false → find (eq x) (c ++ older) ≡ find (eq x) older
  find_new x [] older new = refl
  find_new x (y ∷ c) older new = split (eq x y) (λ t. cc (rw t at new)) (λ f. rw f (find_new x c older (rw f at new)))

module _ {K : Type 0} (eq : K → K → Bool) (laws : IsEquivalence eq) where
  find-others : (x y : K) (ks : List K) → eq x y ≡ false → find (eq x) (others eq y ks) ≡ find (eq x) ks
  find-others x y [] apart = refl
  find-others x y (k ∷ ks) apart =
      let ih = find-others x y ks apart in
      split (eq y k)
      (λ t. let w : eq x k ≡ false = sym (same_right eq laws y k x t) ∙ apart in rw (t, w) ih)
      (λ f. rw f (split (eq x k) (λ u. rw u refl) (λ v. rw v ih)))

  -- the first one for a key is the first of the first ones
  find-firsts : (x : K) (rs : List K) → find (eq x) (firsts eq rs) ≡ find (eq x) rs
  find-firsts x [] = refl
  find-firsts x (y ∷ rs) =
      split (eq x y) (λ t. rw t refl) (λ f. rw f (find-others x y (firsts eq rs) f ∙ find-firsts x rs))

  module _ (hits : K → List K → Bool) (cost : K → ℕ) (by_latest : IsByLatest eq hits) where
    module _ (p q : List K) (same_latest : (x : K) → find (eq x) p ≡ find (eq x) q)
        (behind : (x z : K) → holds eq z (since eq x p) ≡ holds eq z (since eq x q)) where
      -- a key that is new since the past hits alike behind pasts that hold the same keys since each
      hits_alike : (x : K) (c d : List K) → holds eq x c ≡ false → ((z : K) → holds eq z c ≡ holds eq z d)
          → hits x (c ++ p) ≡ hits x (d ++ q)
      hits_alike x c d new same =
          let new_too : holds eq x d ≡ false = sym (same x) ∙ new in
          by_latest.alike x (c ++ p) (d ++ q)
          (find_new eq x c p new ∙ same_latest x ∙ sym (find_new eq x d q new_too))
          (λ z. rw (
            since_beyond eq laws x c p new,
            since_beyond eq laws x d q new_too,
            holds-append eq z c (since eq x p),
            holds-append eq z d (since eq x q),
            same z,
            behind x z,
          ) refl)

      -- requests behind a past miss less than by themselves by what the first ones for keys, all of which miss there, miss less
      missed_beyond : (c d rs : List K) → ((z : K) → holds eq z c ≡ holds eq z d)
          → missed_cost_after hits cost (c ++ p) rs + sum_distinct eq cost (reverse rs ++ c)
          ≡ missed_cost_after hits cost c rs + missed_cost_after hits cost (d ++ q) (firsts_beyond eq c rs) + sum_distinct eq cost c
      missed_beyond c d [] same = omega arith
      missed_beyond c d (x ∷ rs) same =
          rw (reverse-cons-append eq x rs c) (split (holds eq x c)
          (λ t. let alike : hits x (c ++ p) ≡ hits x c =
          by_latest.alike x (c ++ p) c (find_held eq x c p t) (λ z. ap (holds eq z) (since-append eq laws x c p t)) in
          let more : (z : K) → holds eq z (x ∷ c) ≡ holds eq z d =
          λ z. split (eq z x) (λ u. rw u (sym (sym (same z) ∙ holds_same eq laws z x c u ∙ t))) (λ v. rw v (same z)) in
          let ih = rw t at (missed_beyond (x ∷ c) d rs more) in
          rw (alike, t) (omega (arith, ih)))
          (λ f. let alike = hits_alike x c d f same in
          let ih = rw f at (missed_beyond (x ∷ c) (x ∷ d) rs (λ z. ap (λ b. eq z x || b) (same z))) in
          let missed : hits x c ≡ false = by_latest.first x c f in
          rw (alike, missed, f) (omega (arith, ih))))

    -- requests that differ all miss
    missed_lasts : (past rs : List K) → ((z : K) → holds eq z past ≡ true → holds eq z rs ≡ false)
        → missed_cost_after hits cost past (lasts eq rs) ≡ sum_distinct eq cost rs
    missed_lasts past [] apart = refl
    missed_lasts past (x ∷ rs) apart =
        let more : (z : K) → holds eq z past ≡ true → holds eq z rs ≡ false =
        λ z h. split (holds eq z rs) (λ t. cc (sym (or_right (eq z x) (holds eq z rs) t) ∙ apart z h)) (λ f. f) in
        split (holds eq x rs)
        (λ t. rw t (missed_lasts past rs more))
        (λ f. let new : holds eq x past ≡ false =
        split (holds eq x past) (λ u. cc (sym (or_left (eq x x) (holds eq x rs) (laws.refl x)) ∙ apart x u)) (λ v. v) in
        let missed : hits x past ≡ false = by_latest.first x past new in
        let ih = missed_lasts (x ∷ past) rs (λ z h. split (eq z x) (λ u. holds_same eq laws z x rs u ∙ f) (λ v. more z (rw v at h))) in
        rw f (rw missed (omega (arith, ih))))

  pub tested_parts_miss : TestedPartsMiss eq
  tested_parts_miss hits cost one two by_latest =
      let p = reverse one in
      let q = reverse (lasts eq one) in
      let turned : q ≡ firsts eq p = reverse-lasts eq laws one in
      let same_latest : (x : K) → find (eq x) p ≡ find (eq x) q = λ x. sym (ap (find (eq x)) turned ∙ find-firsts x p) in
      let behind : (x z : K) → holds eq z (since eq x p) ≡ holds eq z (since eq x q) =
      λ x z. sym (ap (λ l. holds eq z (since eq x l)) turned ∙ holds_since-firsts eq laws x z p) in
      let whole = missed_beyond hits cost by_latest p q same_latest behind [] [] two (λ z. refl) in
      let parts = rw (firsts_beyond-none eq laws two, append-nil (reverse two)) at whole in
      let ends = missed_lasts hits cost by_latest [] one (λ z h. cc) in
      rw (missed_cost-append hits cost one two, missed_cost-append hits cost (lasts eq one) (firsts eq two)) (omega (arith, parts, ends))
