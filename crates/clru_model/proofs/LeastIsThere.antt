-- There is a least number of misses: that of dropping the key that is requested again last.
use Rattle.std.proofs.Common.{◌≡◌, ℕ, zero, suc, ◌+◌, ◌≤◌, Bool, true, false, cond, not, ◌⊎◌, inl, inr}
use Rattle.std.proofs.Common.{List, [], ◌∷◌, length, take, refl, ◌∙◌, subst, arith}
use Rattle.std.proofs.lemmas.Bool.{or_left, or_right, and_parts, cases_lt}
use Rattle.std.proofs.lemmas.List.Sums.{length-filter, count_by-le-length}
use Rattle.std.specs.Cmp.{IsEquivalence}
use Rattle.std.specs.List.{list_all}
use Rattle.clru_model.specs.Least.{IsNearFromAnyStart, LeastIsThere, LeastIsNearFromAnyStart}
use Rattle.clru_model.specs.Requests.{holds, distinct}
use Rattle.clru_model.proofs.Distinct.{distinct-le-length}
use Rattle.clru_model.proofs.Cases.{split}
use Rattle.clru_model.proofs.Distinct.{others, holds_same, holds-others, distinct_by_key}
use Rattle.clru_model.proofs.Least.{least_is_one}
use Rattle.clru_model.proofs.Optimum.{IsBest, IsBest_none, IsBest_cons, IsLeast_from_best, IsNear_from_best}
use Rattle.clru_model.proofs.ReplaySchedules.{all_held}
use Rattle.clru_model.proofs.Wanted.{LosesLatest}

module _ {K : Type 0} (eq : K → K → Bool) where
  -- however far one looks ahead, where y is requested x is
  abbrev Precedes : K → K → List K → Type 0
  Precedes x y rs = (d : ℕ) → holds eq y (take d rs) ≡ true → holds eq x (take d rs) ≡ true

  precedes_none : (x y : K) → Precedes x y []
  precedes_none x y zero h = cc
  precedes_none x y (suc d) h = cc

  -- the key that is requested next precedes each
  precedes_next : (x y r : K) (rs : List K) → eq x r ≡ true → Precedes x y (r ∷ rs)
  precedes_next x y r rs same zero h = cc
  precedes_next x y r rs same (suc d) h = rw same refl

  precedes_later : (x y r : K) (rs : List K) → eq y r ≡ false → Precedes x y rs → Precedes x y (r ∷ rs)
  precedes_later x y r rs apart p zero h = cc
  precedes_later x y r rs apart p (suc d) h = split (eq x r) (λ t. rw t refl) (λ f. rw f (p d (rw apart at h)))

  one_precedes : (x y : K) (rs : List K) → Precedes x y rs ⊎ Precedes y x rs
  one_precedes x y [] = inl (precedes_none x y)
  one_precedes x y (r ∷ rs) =
      split (eq x r) (λ t. inl (precedes_next x y r rs t))
      (λ f. split (eq y r) (λ u. inr (precedes_next y x r rs u))
      (λ g. elim (one_precedes x y rs) [
        | inl a ↦ inl (precedes_later x y r rs g a)
        | inr b ↦ inr (precedes_later y x r rs f b)
      ]))

  -- of the keys the one that each precedes
  record HasLast (ks rs : List K) : Type 0 where
    key : K
    held : holds eq key ks ≡ true
    last : (z : K) → holds eq z ks ≡ true → Precedes z key rs

  -- the keys to hold after a request of x in place of ms
  record HasStep (h : ℕ) (ms : List K) (x : K) (rs : List K) : Type 0 where
    next : List K
    short : length next ≤ h
    apart : distinct eq next ≡ length next
    all : list_all (λ q. holds eq q (x ∷ ms)) next ≡ true
    served : holds eq x next ≡ true
    latest : LosesLatest eq h ms x rs next

module _ {K : Type 0} (eq : K → K → Bool) (laws : IsEquivalence eq) where
  holds_first : (x : K) (ks : List K) → holds eq x (x ∷ ks) ≡ true
  holds_first x ks = or_left (eq x x) (holds eq x ks) (laws.refl x)

  has_last : (k : K) (ks rs : List K) → HasLast eq (k ∷ ks) rs
  has_last k [] rs = record {
    key = k;
    held = holds_first k [];
    last = λ z h. split (eq z k) (λ t d g. holds_same eq laws z k (take d rs) t ∙ g) (λ f. cc (rw f at h));
  }
  has_last k (j ∷ ks) rs =
      let l = has_last j ks rs in
      elim (one_precedes eq k l.key rs) [
        | inl first ↦ record {
          key = l.key;
          held = or_right (eq l.key k) (holds eq l.key (j ∷ ks)) l.held;
          last = λ z h. split (eq z k)
              (λ t d g. holds_same eq laws z k (take d rs) t ∙ first d g)
              (λ f. l.last z (rw f at h));
        }
        | inr later ↦ record {
          key = k;
          held = holds_first k (j ∷ ks);
          last = λ z h. split (eq z k)
              (λ t d g. holds_same eq laws z k (take d rs) t ∙ g)
              (λ f d g. l.last z (rw f at h) d (later d g));
        }
      ]

  -- fewer keys are not the same as one that is held
  length-others : (x : K) (ks : List K) → holds eq x ks ≡ true → suc (length (others eq x ks)) ≤ length ks
  length-others x [] h = cc
  length-others x (y ∷ ks) h =
      split (eq x y)
      (λ t. rw t (omega (arith, length-filter (λ z. not (eq x z)) ks, count_by-le-length (λ z. not (eq x z)) ks)))
      (λ f. rw f (omega (arith, length-others x ks (rw f at h))))

  -- with no room the last one goes
  step_full : (h : ℕ) (ms : List K) (x : K) (rs : List K) → 1 ≤ h → length ms ≤ h → distinct eq ms ≡ length ms → holds eq x ms ≡ false
      → h ≤ length ms → HasStep eq h ms x rs
  step_full h [] x rs pos short apart new full = absurd (omega arith)
  step_full h (k ∷ ks) x rs pos short apart new full =
      let ms = k ∷ ks in
      let l = has_last k ks rs in
      let left = others eq l.key ms in
      let counted : distinct eq ms ≡ suc (distinct eq left) = rw l.held at (distinct_by_key eq laws l.key ms) in
      let fewer = length-others l.key ms l.held in
      let without_x : holds eq x left ≡ false = rw (holds-others eq laws x l.key ms, new) (split (eq l.key x) (λ t. rw t refl) (λ f. rw f refl)) in
      let within : (z : K) → holds eq z left ≡ true → holds eq z ms ≡ true = λ z g.
      (and_parts (not (eq l.key z)) (holds eq z ms) (rw (holds-others eq laws z l.key ms) at g)).1 in
      let many : distinct eq (x ∷ left) ≡ 1 + distinct eq left = rw without_x refl in
      record {
        next = x ∷ left;
        short = omega arith;
        apart = omega (arith, distinct-le-length eq left);
        all = all_held eq (x ∷ left) (x ∷ ms) (λ z g. split (eq z x) (λ t. rw t refl) (λ f. rw f (within z (rw f at g)))) laws;
        served = holds_first x left;
        latest = λ d. split (holds eq l.key (take d rs))
            (λ t. inr (
              omega arith,
              λ z g other.
                  let back : eq z x ≡ false = laws.symm z x ∙ other in
                  l.last z (within z (rw back at g)) d t,
            ))
            (λ f. inl (λ z held want.
            let other : eq l.key z ≡ false = split (eq l.key z) (λ u. cc (holds_same eq laws l.key z (take d rs) u)) (λ v. v) in
            or_right (eq z x) (holds eq z left) (rw (holds-others eq laws z l.key ms, other) held)));
      }

  step : (h : ℕ) (ms : List K) (x : K) (rs : List K) → 1 ≤ h → length ms ≤ h → distinct eq ms ≡ length ms → HasStep eq h ms x rs
  step h ms x rs pos short apart = split (holds eq x ms)
      (λ here. record {
        next = ms;
        short = short;
        apart = apart;
        all = all_held eq ms (x ∷ ms) (λ z g. or_right (eq z x) (holds eq z ms) g) laws;
        served = here;
        latest = λ d. inl (λ z held want. held);
      })
      (λ new. elim (cases_lt (length ms) h) [
        | inl room ↦ record {
          next = x ∷ ms;
          short = omega arith;
          apart = rw new (omega (arith, apart));
          all = all_held eq (x ∷ ms) (x ∷ ms) (λ z g. g) laws;
          served = holds_first x ms;
          latest = λ d. inl (λ z held want. or_right (eq z x) (holds eq z ms) held);
        }
        | inr full ↦ step_full h ms x rs pos short apart new (omega arith)
      ])

  -- dropping the last one is best
  best : (h : ℕ) (ms rs : List K) → 1 ≤ h → length ms ≤ h → distinct eq ms ≡ length ms → (n : ℕ) × IsBest eq h ms rs n
  best h ms [] pos short apart = (0, IsBest_none eq h ms short)
  best h ms (x ∷ rs) pos short apart =
      let s = step h ms x rs pos short apart in
      let (n, b) = best h s.next rs pos s.short s.apart in
      (cond (holds eq x ms) 0 1 + n, IsBest_cons eq laws h n x ms s.next rs short s.all s.served s.latest b)

  pub least_is_there : LeastIsThere eq
  least_is_there h rs pos =
      let (n, b) = best h [] rs pos (omega arith) refl in
      (n, IsLeast_from_best eq laws h n rs b)

  pub least_near_from_any_start : LeastIsNearFromAnyStart eq
  least_near_from_any_start h n rs pos least =
      let (m, b) = best h [] rs pos (omega arith) refl in
      let same : m ≡ n = least_is_one eq h m n rs (IsLeast_from_best eq laws h m rs b) least in
      subst (λ (l : ℕ). IsNearFromAnyStart eq h rs l) same (IsNear_from_best eq laws h m rs b)
