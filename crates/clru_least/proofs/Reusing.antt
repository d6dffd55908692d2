-- The requests whose keys came before: after one more request, and the sums over them that a floor takes.
use Rattle.std.proofs.Common.{◌≡◌, ℕ, ◌+◌, ◌-◌, ◌*◌, ◌^◌, ◌<◌, ◌≤◌, Bool, true, false, List, [], ◌∷◌, ◌++◌, length, map, reverse, append-nil, Option, Some, None, IfSome, refl, sym, ap, ◌∙◌, subst, arith, mul-le-mul_left, mul-le-mul_right}
use Rattle.std.proofs.Math.Nat.{mul-le-mul}
use Rattle.std.proofs.lemmas.List.{length-append, reverse-append, reverse-reverse}
use Rattle.std.proofs.lemmas.List.Sums.{sum_by-cons, sum_by_push}
use Rattle.std.proofs.lemmas.List.Elements.{All-head, All-tail}
use Rattle.std.specs.List.{All, AllByRecursion, sum_by}
use Rattle.clru_model.proofs.Cases.{split}
use Rattle.clru_model.proofs.Marks.{reverse-cons-append}
use Rattle.clru_model.specs.Floor.{gap, gaps_after, volume, volumes_after, spared_after}
use Rattle.clru_model.specs.Requests.{IsLatestOf, holds, distinct}
use Rattle.clru_model.specs.Sizes.{total}
use Rattle.clru_least.proofs.Prices.{spared}
use Rattle.clru_least.specs.declared.reuse.Reuse.{Reuse}
use Rattle.clru_least.specs.Reuses.{Reused, reuse, reused, reuses_after, volume_of, IsFloorPass, IsSoundFloor}

module _ {K : Type 0} (eq : K → K → Bool) (weight : K → ℕ) where
  reuses_push : (past xs : List K) (x : K) → reuses_after eq weight past (xs ++ x ∷ [])
      ≡ reuses_after eq weight past xs ++ reuses_after eq weight (reverse xs ++ past) (x ∷ [])
  reuses_push past [] x = refl
  reuses_push past (y ∷ ys) x =
      let rest = reuses_push (y ∷ past) ys x
      ∙ ap (λ l. reuses_after eq weight (y ∷ past) ys ++ reuses_after eq weight l (x ∷ [])) (sym (reverse-cons-append eq y ys past)) in
      split (holds eq y past) (λ t. rw t (ap (λ l. reuse (gap eq y past) (1 + weight y) ∷ l) rest)) (λ f. rw f rest)

  reuses-cons : (x : K) (past : List K) → reuses_after eq weight [] (reverse (x ∷ past))
      ≡ reuses_after eq weight [] (reverse past) ++ reuses_after eq weight past (x ∷ [])
  reuses-cons x past =
      ap (reuses_after eq weight []) (reverse-append (x ∷ []) past) ∙ reuses_push [] (reverse past) x
      ∙ ap (λ l. reuses_after eq weight [] (reverse past) ++ reuses_after eq weight l (x ∷ []))
      (append-nil (reverse (reverse past)) ∙ reverse-reverse past)

  reuses-new : (x : K) (past : List K) → holds eq x past ≡ false
      → reuses_after eq weight [] (reverse (x ∷ past)) ≡ reuses_after eq weight [] (reverse past)
  reuses-new x past f =
      let one : reuses_after eq weight past (x ∷ []) ≡ [] = rw f refl in
      reuses-cons x past ∙ ap (λ l. reuses_after eq weight [] (reverse past) ++ l) one ∙ append-nil (reuses_after eq weight [] (reverse past))

  reuses-again : (x : K) (past : List K) → holds eq x past ≡ true → reuses_after eq weight [] (reverse (x ∷ past))
      ≡ reuses_after eq weight [] (reverse past) ++ reuse (gap eq x past) (1 + weight x) ∷ []
  reuses-again x past t =
      let one : reuses_after eq weight past (x ∷ []) ≡ reuse (gap eq x past) (1 + weight x) ∷ [] = rw t refl in
      reuses-cons x past ∙ ap (λ l. reuses_after eq weight [] (reverse past) ++ l) one

  pub IsFloorPass-none : IsFloorPass eq weight [] (reused [] 0 0)
  IsFloorPass-none = record { reuses = refl; requests = refl; size = refl }

  -- a key that was not requested before
  pub IsFloorPass-new : (past : List K) (p q : Reused) (x : K) → IsFloorPass eq weight past p → holds eq x past ≡ false
      → q.reuses ≡ p.reuses → q.requests ≡ p.requests + 1 → q.size ≡ p.size + (1 + weight x) → IsFloorPass eq weight (x ∷ past) q
  IsFloorPass-new past p q x is absent same more size = record {
    reuses = same ∙ is.reuses ∙ sym (reuses-new x past absent);
    requests = omega (arith, more, is.requests);
    size = omega (arith, size, is.size, sum_by-cons (λ y. 1 + weight y) x past);
  }

  -- a key that was requested before
  pub IsFloorPass-again : (past : List K) (p q : Reused) (x : K) (r : Reuse) → IsFloorPass eq weight past p → holds eq x past ≡ true
      → r ≡ reuse (gap eq x past) (1 + weight x) → q.reuses ≡ p.reuses ++ r ∷ [] → q.requests ≡ p.requests + 1
      → q.size ≡ p.size + (1 + weight x) → IsFloorPass eq weight (x ∷ past) q
  IsFloorPass-again past p q x r is held own pushed more size = record {
    reuses = pushed ∙ ap (λ l. l ++ r ∷ []) is.reuses ∙ ap (λ e. reuses_after eq weight [] (reverse past) ++ e ∷ []) own
        ∙ sym (reuses-again x past held);
    requests = omega (arith, more, is.requests);
    size = omega (arith, size, is.size, sum_by-cons (λ y. 1 + weight y) x past);
  }

  pub reuses_many : (past : List K) → length (reuses_after eq weight [] (reverse past)) + distinct eq past ≡ length past
  reuses_many [] = refl
  reuses_many (x ∷ past) =
      let rest = reuses_many past in
      split (holds eq x past)
      (λ t. let longer = ap (λ l. length l) (reuses-again x past t)
      ∙ length-append (reuses_after eq weight [] (reverse past)) (reuse (gap eq x past) (1 + weight x) ∷ []) in
      let same : distinct eq (x ∷ past) ≡ distinct eq past = rw t refl in omega (arith, rest, longer, same))
      (λ f. let longer = ap (λ l. length l) (reuses-new x past f) in
      let more : distinct eq (x ∷ past) ≡ 1 + distinct eq past = rw f refl in omega (arith, rest, longer, more))

  pub reuses_size : (past : List K) → sum_by (λ r. r.size) (reuses_after eq weight [] (reverse past)) + total eq weight past
      ≡ sum_by (λ x. 1 + weight x) past
  reuses_size [] = refl
  reuses_size (x ∷ past) =
      let rest = reuses_size past in
      let all = sum_by-cons (λ y. 1 + weight y) x past in
      split (holds eq x past)
      (λ t. let longer = ap (λ l. sum_by (λ r. r.size) l) (reuses-again x past t)
      ∙ sum_by_push (λ r. r.size) (reuses_after eq weight [] (reverse past)) (reuse (gap eq x past) (1 + weight x)) in
      let same : total eq weight (x ∷ past) ≡ total eq weight past = rw t refl in omega (arith, rest, longer, same, all))
      (λ f. let longer = ap (λ l. sum_by (λ r. r.size) l) (reuses-new x past f) in
      let more : total eq weight (x ∷ past) ≡ (1 + weight x) + total eq weight past = rw f refl in omega (arith, rest, longer, more, all))

  pub volumes_are : (past rs : List K) → volumes_after eq weight past rs ≡ map volume_of (reuses_after eq weight past rs)
  volumes_are past [] = refl
  volumes_are past (x ∷ rs) =
      let rest = volumes_are (x ∷ past) rs in
      split (holds eq x past) (λ t. rw t (ap (λ l. volume eq weight x past ∷ l) rest)) (λ f. rw f rest)

  pub gaps_are : (past rs : List K) → gaps_after eq past rs ≡ map (λ r. r.gap) (reuses_after eq weight past rs)
  gaps_are past [] = refl
  gaps_are past (x ∷ rs) =
      let rest = gaps_are (x ∷ past) rs in
      split (holds eq x past) (λ t. rw t (ap (λ l. gap eq x past ∷ l) rest)) (λ f. rw f rest)

  pub spared_volumes : (g : ℕ) (past rs : List K)
      → spared_after eq weight (λ _. g * 1) past rs ≡ spared (λ v. v) (λ _. 1) g (volumes_after eq weight past rs)
  spared_volumes g past [] = refl
  spared_volumes g past (x ∷ rs) =
      let rest = spared_volumes g (x ∷ past) rs in
      split (holds eq x past)
      (λ t. rw t (omega (arith, rest, sum_by-cons (λ v. g * 1 - v * 1) (volume eq weight x past) (volumes_after eq weight (x ∷ past) rs))))
      (λ f. rw f (omega (arith, rest)))

  pub spared_sizes : (g : ℕ) (past rs : List K) → spared_after eq weight (λ x. g * (1 + weight x)) past rs
      ≡ spared (λ r. r.gap) (λ r. r.size) g (reuses_after eq weight past rs)
  spared_sizes g past [] = refl
  spared_sizes g past (x ∷ rs) =
      let rest = spared_sizes g (x ∷ past) rs in
      split (holds eq x past)
      (λ t. rw t (omega (
        arith,
        rest,
        sum_by-cons (λ r. g * r.size - r.gap * r.size) (reuse (gap eq x past) (1 + weight x)) (reuses_after eq weight (x ∷ past) rs),
      )))
      (λ f. rw f (omega (arith, rest)))

  -- each gap is one at least
  pub each_gap : (past rs : List K) → AllByRecursion (λ g. 1 ≤ g) (gaps_after eq past rs)
  each_gap past [] = tt
  each_gap past (x ∷ rs) =
      let rest = each_gap (x ∷ past) rs in
      let some : 1 ≤ gap eq x past = omega arith in
      split (holds eq x past) (λ t. rw t (some, rest)) (λ f. rw f rest)

  -- and each volume
  pub each_volume : (past rs : List K) → AllByRecursion (λ v. 1 ≤ v) (volumes_after eq weight past rs)
  each_volume past [] = tt
  each_volume past (x ∷ rs) =
      let rest = each_volume (x ∷ past) rs in
      let le : gap eq x past * 1 ≤ volume eq weight x past = mul-le-mul_left (gap eq x past) (omega arith) in
      let some : 1 ≤ volume eq weight x past = omega (arith, le) in
      split (holds eq x past) (λ t. rw t (some, rest)) (λ f. rw f rest)

-- the position of the latest request tells the gap
pub latest_known : {K : Type 0} (eq : K → K → Bool) (past : List K) (x : K) (latest : Option ℕ) (p : ℕ) → IsLatestOf eq past x latest → latest ≡ Some p
    → (holds eq x past ≡ true) × (p + gap eq x past ≡ length past)
latest_known eq past x latest p of is =
    let at = subst (λ o. IsLatestOf eq past x o) is of in (sym at.known, omega (arith, at.position))

pub latest_none : {K : Type 0} (eq : K → K → Bool) (past : List K) (x : K) (latest : Option ℕ) → IsLatestOf eq past x latest → latest ≡ None
    → holds eq x past ≡ false
latest_none eq past x latest of is = let at = subst (λ o. IsLatestOf eq past x o) is of in sym at.known

-- the sum of all volumes is no more than the requests times their size
pub volumes_within : (rs : List Reuse) (n : ℕ) → All (λ r. r.gap ≤ n) rs
    → sum_by (λ v. v) (map volume_of rs) ≤ n * sum_by (λ r. r.size) rs
volumes_within [] n near = omega arith
volumes_within (r ∷ rs) n near =
    let rest = volumes_within rs n (All-tail (λ r. r.gap ≤ n) r rs near) in
    let le : r.gap * r.size ≤ n * r.size = mul-le-mul_right r.size (All-head (λ r. r.gap ≤ n) r rs near) in
    let whole : n * sum_by (λ r. r.size) (r ∷ rs) ≡ n * (r.size + sum_by (λ r. r.size) rs) = ap (λ m. n * m) (sum_by-cons (λ r. r.size) r rs) in
    omega (arith, rest, le, whole, sum_by-cons (λ v. v) (volume_of r) (map volume_of rs))

-- so it fits 128 bits
pub volumes_fit : (p : Reused) → IsSoundFloor p → sum_by (λ v. v) (map volume_of p.reuses) < 2 ^ 128
volumes_fit p sound =
    let few : p.requests ≤ 2 ^ 64 - 1 = omega (arith, sound.many, sound.fits) in
    let small : sum_by (λ r. r.size) p.reuses ≤ 2 ^ 64 - 1 = omega (arith, sound.sizes, sound.fits) in
    let within : p.requests * sum_by (λ r. r.size) p.reuses ≤ (2 ^ 64 - 1) * (2 ^ 64 - 1) = mul-le-mul few small in
    let all = volumes_within p.reuses p.requests sound.near in
    omega (arith, within, all)

pub empty_of_length : {X : Type 0} (xs : List X) → length xs ≡ 0 → xs ≡ []
empty_of_length [] e = refl
empty_of_length (x ∷ xs) e = absurd (omega (arith, e))

-- and it is before the end
pub latest_before : {K : Type 0} (eq : K → K → Bool) (past : List K) (x : K) (n : ℕ) (latest : Option ℕ) → n ≡ length past → IsLatestOf eq past x latest
    → IfSome latest (λ p. p < n)
latest_before eq past x n None many of = tt
latest_before eq past x n (Some p) many of = omega (arith, many, of.position)
