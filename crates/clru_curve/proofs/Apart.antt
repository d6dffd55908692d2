-- One cache beside a cache for each class: by size, and so by keys.
use Rattle.std.proofs.Common.{◌≡◌, ℕ, zero, suc, ◌+◌, ◌-◌, ◌*◌, ◌<◌, ◌≤◌, get_or, mul-le-mul_left, Bool, true, false, cond, not, List, [], ◌∷◌, length, refl, sym, ap, ◌∙◌, subst, arith}
use Rattle.std.proofs.lemmas.Bool.{and_parts, or_left, or_right}
use Rattle.std.proofs.lemmas.Bool.Decides.{nat_tests}
use Rattle.std.specs.Prelude.{nat_eq, nat_le, sum}
use Rattle.std.specs.Cmp.{IsEquivalence}
use Rattle.std.specs.List.{filter}
use Rattle.clru_model.specs.Bypass.{ServesOrPasses}
use Rattle.clru_model.specs.Requests.{holds}
use Rattle.clru_model.specs.Schedule.{Serves}
use Rattle.clru_model.specs.SizedSchedule.{schedule_missed_size}
use Rattle.clru_model.specs.Sizes.{missed_size, total}
use Rattle.clru_model.proofs.Cases.{split}
use Rattle.clru_model.proofs.Bound.{competitive_by_size}
use Rattle.clru_curve.proofs.SizedCaches.{replayed_takes}
use Rattle.clru_model.proofs.Spans.{missed_weightless}
use Rattle.clru_model.proofs.SizedReplaySchedules.{holds-filter, replayed, replayed_misses, replayed_serves}
use Rattle.clru_model.proofs.Taking.{takes_all, takes_all_misses, with_latest}
use Rattle.clru_curve.specs.Apart.{of_class, misses_apart, missed_size_apart, RespectsKeys, OneIsNearMany, OneIsNearerMany, OneSizeIsNearMany, OneSizeIsNearerMany}
use Rattle.clru_curve.proofs.Merged.{IsServing, IsFrom, takes_each, may_bypass, merged_reached}
use Rattle.clru_curve.proofs.Rows.{sum-cons}

-- a filter of a filter
module _ {K : Type 0} (eq : K → K → Bool) (laws : IsEquivalence eq) (test : K → Bool) where
  filter_none : (rs : List K) → ((x : K) → holds eq x rs ≡ true → test x ≡ false) → filter test rs ≡ []
  filter_none [] out = refl
  filter_none (x ∷ rs) out =
      rw (out x (or_left (eq x x) (holds eq x rs) (laws.refl x))) (filter_none rs (λ z h. out z (or_right (eq z x) (holds eq z rs) h)))

filter_both : {K : Type 0} (p q r : K → Bool) → ((x : K) → cond (q x) (p x) false ≡ r x) → (rs : List K) → filter p (filter q rs) ≡ filter r rs
filter_both p q r is [] = refl
filter_both p q r is (x ∷ rs) =
    let ih = filter_both p q r is rs in
    split (q x)
    (λ t. let w = rw t at (is x) in rw (t, ← w) (split (p x) (λ u. rw u (ap (λ l. x ∷ l) ih)) (λ v. rw v ih)))
    (λ f. let w = rw f at (is x) in rw (f, ← w) ih)

filter_all : {K : Type 0} (p : K → Bool) → ((x : K) → p x ≡ true) → (rs : List K) → filter p rs ≡ rs
filter_all p is [] = refl
filter_all p is (x ∷ rs) = rw (is x) (ap (λ l. x ∷ l) (filter_all p is rs))

-- the class i among those from i on, and the others
this_class : (i j : ℕ) → cond (nat_le i j) (nat_eq j i) false ≡ nat_eq j i
this_class i j = grind (arith, nat_tests)

later_class : (i j : ℕ) → cond (nat_le i j) (not (nat_eq j i)) false ≡ nat_le (suc i) j
later_class i j = grind (arith, nat_tests)

from_zero : (j : ℕ) → nat_le 0 j ≡ true
from_zero j = grind (arith, nat_tests)

before_class : (i j n : ℕ) → n ≡ 0 → j < i + n → nat_le i j ≡ false
before_class i j n none low = grind (arith, nat_tests)

is_class : (i j : ℕ) → nat_eq j i ≡ true → j ≡ i
is_class i j same = grind (arith, nat_tests)

module _ {K : Type 0} (eq : K → K → Bool) (weight : K → ℕ) (laws : IsEquivalence eq) (serves : List K → K → List (List K) → Type 0)
    (serving : IsServing eq serves) (class : K → ℕ) (respects : RespectsKeys eq class) where
  -- the requests of the classes from i on
  abbrev from_class : ℕ → List K → List K
  from_class i rs = filter (λ x. nat_le i (class x)) rs

  -- a cache of the size c is a schedule for the requests
  abbrev IsOne : ℕ → List K → Type 0
  IsOne c us = IsFrom eq weight serves c [] us (missed_size eq weight c us)

  -- caches for the classes from i on are one schedule, if each is one
  reached_apart : (cs : List ℕ) (i : ℕ) (rs : List K)
      → ((j d : ℕ) → j < length cs → IsOne (get_or cs j d) (of_class eq class (i + j) rs))
      → ((x : K) → holds eq x rs ≡ true → class x < i + length cs)
      → IsFrom eq weight serves (sum cs) [] (from_class i rs) (missed_size_apart eq weight class i cs rs)
  reached_apart [] i rs each inside =
      let none = filter_none eq laws (λ x. nat_le i (class x)) rs (λ x h. before_class i (class x) 0 refl (inside x h)) in
      rw none (record { later = []; sched = (omega arith, refl); misses = refl })
  reached_apart (c ∷ cs) i rs each inside =
      let mine = λ (x : K). nat_eq (class x) i in let from = λ (x : K). nat_le i (class x) in
      let first : i + 0 ≡ i = omega arith in
      let here : IsOne c (of_class eq class i rs) = subst (λ n. IsOne c (of_class eq class n rs)) first (each 0 0 (omega arith)) in
      let rest = reached_apart cs (suc i) rs (λ j d low. let next : i + suc j ≡ suc i + j = omega arith in
      subst (λ n. IsOne (get_or cs j d) (of_class eq class n rs)) next (each (suc j) d (omega (arith, low))))
      (λ x h. let low = inside x h in omega (arith, low)) in
      let one : filter mine (from_class i rs) ≡ of_class eq class i rs = filter_both mine from mine (λ x. this_class i (class x)) rs in
      let more : filter (λ x. not (mine x)) (from_class i rs) ≡ from_class (suc i) rs =
      filter_both (λ x. not (mine x)) from (λ x. nat_le (suc i) (class x)) (λ x. later_class i (class x)) rs in
      let size = missed_size eq weight c (of_class eq class i rs) in let others = missed_size_apart eq weight class (suc i) cs rs in
      subst (λ h. IsFrom eq weight serves h [] (from_class i rs) (size + others)) (sym (sum-cons c cs))
      (merged_reached eq weight laws serves serving mine (λ x y e. ap (λ j. nat_eq j i) (respects x y e)) c (sum cs) size others (from_class i rs)
      (subst (λ l. IsFrom eq weight serves c [] l size) (sym one) here)
      (subst (λ l. IsFrom eq weight serves (sum cs) [] l others) (sym more) rest))

  reached_all : (cs : List ℕ) (rs : List K) → ((j d : ℕ) → j < length cs → IsOne (get_or cs j d) (of_class eq class j rs))
      → ((x : K) → holds eq x rs ≡ true → class x < length cs)
      → IsFrom eq weight serves (sum cs) [] rs (missed_size_apart eq weight class 0 cs rs)
  reached_all cs rs each inside =
      subst (λ l. IsFrom eq weight serves (sum cs) [] l (missed_size_apart eq weight class 0 cs rs))
      (filter_all (λ x. nat_le 0 (class x)) (λ x. from_zero (class x)) rs)
      (reached_apart cs 0 rs (λ j d low. let same : j ≡ 0 + j = omega arith in
      subst (λ n. IsOne (get_or cs j d) (of_class eq class n rs)) same (each j d low)) (λ x h. let low = inside x h in omega (arith, low)))

-- a number of a list is at most their sum, and below a number of it only inside
in_sum : (cs : List ℕ) (j : ℕ) → get_or cs j 0 ≤ sum cs
in_sum [] j = omega arith
in_sum (c ∷ cs) zero = omega (arith, sum-cons c cs)
in_sum (c ∷ cs) (suc j) = omega (arith, sum-cons c cs, in_sum cs j)

within_list : (cs : List ℕ) (j w : ℕ) → w < get_or cs j 0 → j < length cs
within_list [] j w low = absurd (omega (arith, low))
within_list (c ∷ cs) zero w low = omega arith
within_list (c ∷ cs) (suc j) w low = omega (arith, within_list cs j w low)

inside_or : (cs : List ℕ) (j d : ℕ) → j < length cs → get_or cs j d ≡ get_or cs j 0
inside_or [] j d low = absurd (omega (arith, low))
inside_or (c ∷ cs) zero d low = refl
inside_or (c ∷ cs) (suc j) d low = inside_or cs j d (omega (arith, low))

module _ {K : Type 0} (eq : K → K → Bool) (laws : IsEquivalence eq) where
  pub one_size_is_near_many : OneSizeIsNearMany eq
  one_size_is_near_many weight class cs k g rs same respects inside light fits =
      let at = reached_all eq weight laws (ServesOrPasses eq) (may_bypass eq) class respects cs rs (λ j d low.
      let c = get_or cs j d in let us = of_class eq class j rs in record {
        later = replayed eq laws weight same c [] us;
        sched = replayed_serves eq laws weight same c [] us;
        misses = replayed_misses eq laws weight same c [] us;
      }) inside in
      let h = sum cs in
      let empty : total eq weight [] ≤ h + g + 1 = omega arith in
      let room_for_one : (x : K) (next : List K) → holds eq x rs ≡ true → total eq weight next ≤ h → total eq weight (x ∷ next) ≤ h + g + 1 =
      λ x next held few. let low = light x held in
      split (holds eq x next) (λ t. rw t (omega (arith, few))) (λ f. rw f (omega (arith, few, low))) in
      let taken = takes_all eq laws (λ ks. total eq weight ks ≤ h) (λ ks. total eq weight ks ≤ h + g + 1) [] [] at.later rs empty room_for_one
      (λ z p. p) at.sched in
      let fewer = takes_all_misses eq laws weight (λ ks. total eq weight ks ≤ h) [] [] at.later rs (λ z p. p) at.sched in
      let near = competitive_by_size eq laws weight same k rs (h + g + 1) (with_latest eq rs at.later) (omega arith) (omega (arith, fits)) taken in
      let apart = missed_size_apart eq weight class 0 cs rs in
      let few : schedule_missed_size eq weight ([] ∷ with_latest eq rs at.later) rs ≤ apart = omega (arith, fewer, at.misses) in
      let more = mul-le-mul_left k few in
      let room : k - (h + g + 1) + 1 ≡ k - (h + g) = omega (arith, fits) in
      subst (λ n. n * missed_size eq weight k rs ≤ k * apart) room (omega (arith, near, more))

  pub one_size_is_nearer_many : OneSizeIsNearerMany eq
  one_size_is_nearer_many weight class cs k [] same respects room fits = omega arith
  one_size_is_nearer_many weight class cs k (r ∷ rs) same respects room fits =
      let us = r ∷ rs in
      let first = room r (or_left (eq r r) (holds eq r rs) (laws.refl r)) in
      let at = reached_all eq weight laws (Serves eq) (takes_each eq) class respects cs us (λ j d low.
      let c = get_or cs j d in let vs = of_class eq class j us in record {
        later = replayed eq laws weight same c [] vs;
        sched = replayed_takes eq laws weight same c [] vs (λ x h.
            let parts = and_parts (nat_eq (class x) j) (holds eq x us) (sym (holds-filter eq laws (λ y. nat_eq (class y) j)
            (λ y z e. ap (λ n. nat_eq n j) (respects y z e)) x us) ∙ h) in
            let fit = room x parts.1 in let is = is_class j (class x) parts.0 in
            omega (arith, fit, ap (λ n. get_or cs n 0) is, inside_or cs j d low));
        misses = replayed_misses eq laws weight same c [] vs;
      }) (λ x h. within_list cs (class x) (weight x) (room x h)) in
      let near = competitive_by_size eq laws weight same k us (sum cs) at.later (omega (arith, first, in_sum cs (class r))) fits at.sched in
      rw at.misses at near

  -- classes by keys are those whose requests weigh nothing
  apart_weightless : (class : K → ℕ) (i : ℕ) (cs : List ℕ) (rs : List K) → missed_size_apart eq (λ _. 0) class i cs rs ≡ misses_apart eq class i cs rs
  apart_weightless class i [] rs = refl
  apart_weightless class i (c ∷ cs) rs =
      omega (arith, missed_weightless eq (λ _. 0) (λ _. refl) c [] (of_class eq class i rs), apart_weightless class (suc i) cs rs)

  pub one_is_near_many : OneIsNearMany eq
  one_is_near_many class cs k rs respects inside fits =
      let all = one_size_is_near_many (λ _. 0) class cs k 0 rs (λ _ _ _. refl) respects inside (λ x h. omega arith) (omega (arith, fits)) in
      let none : sum cs + 0 ≡ sum cs = omega arith in
      rw (missed_weightless eq (λ _. 0) (λ _. refl) k [] rs, apart_weightless class 0 cs rs, none) at all

  pub one_is_nearer_many : OneIsNearerMany eq
  one_is_nearer_many class cs k rs respects inside some long fits =
      let all = one_size_is_nearer_many (λ _. 0) class cs k rs (λ _ _ _. refl) respects (λ x h. some (class x) 0 (inside x h)) fits in
      rw (missed_weightless eq (λ _. 0) (λ _. refl) k [] rs, apart_weightless class 0 cs rs) at all
