-- Schedules for the requests of two classes are together one schedule.
use Rattle.std.proofs.Common.{◌≡◌, ℕ, ◌+◌, ◌≤◌, Bool, true, false, not, ◌||◌, List, [], ◌∷◌, ◌++◌, refl, sym, ◌∙◌, subst, arith}
use Rattle.std.proofs.lemmas.Bool.{or_left, or_right}
use Rattle.std.specs.Cmp.{IsEquivalence}
use Rattle.std.specs.List.{filter, list_all}
use Rattle.clru_model.specs.Bypass.{ServesOrPasses}
use Rattle.clru_model.specs.Requests.{holds}
use Rattle.clru_model.specs.Schedule.{Schedules, Serves}
use Rattle.clru_model.specs.SizedSchedule.{schedule_missed_size}
use Rattle.clru_model.specs.Sizes.{total}
use Rattle.clru_model.proofs.Cases.{split}
use Rattle.clru_model.proofs.Distinct.{holds-append, held_of_all}
use Rattle.clru_model.proofs.ReplaySchedules.{all_held}

module _ {K : Type 0} (eq : K → K → Bool) where
  -- what schedules that take in each key and those that may bypass it have in common
  pub record IsServing (serves : List K → K → List (List K) → Type 0) : Type 0 where
    pub goes_on : (ks : List K) (x : K) → serves ks x [] → ⊥
    pub takes : (ks : List K) (x : K) (next : List K) (later : List (List K)) → serves ks x (next ∷ later)
        → list_all (λ q. holds eq q (x ∷ ks)) next ≡ true
    pub beside : (ks : List K) (x : K) (next : List K) (later : List (List K)) (m ls : List K) (more : List (List K))
        → list_all (λ q. holds eq q (x ∷ m)) (next ++ ls) ≡ true → serves ks x (next ∷ later) → serves m x ((next ++ ls) ∷ more)

  pub takes_each : IsServing (Serves eq)
  takes_each = record {
    goes_on = λ ks x s. s;
    takes = λ ks x next later s. s.0;
    beside = λ ks x next later m ls more all s. (all, rw (holds-append eq x next ls) (or_left (holds eq x next) (holds eq x ls) s.1));
  }

  pub may_bypass : IsServing (ServesOrPasses eq)
  may_bypass = record { goes_on = λ ks x s. s; takes = λ ks x next later s. s; beside = λ ks x next later m ls more all s. all }

module _ {K : Type 0} (eq : K → K → Bool) (weight : K → ℕ) where
  -- schedules of the size h, that serve each request so
  abbrev pub Sched : (List K → K → List (List K) → Type 0) → ℕ → List (List K) → List K → Type 0
  Sched serves h held rs = Schedules (λ ks. total eq weight ks ≤ h) serves held rs

  -- two lists in a row are of no greater size than both
  total-append : (ks ls : List K) → total eq weight (ks ++ ls) ≤ total eq weight ks + total eq weight ls
  total-append [] ls = omega arith
  total-append (k ∷ ks) ls =
      let rest = total-append ks ls in
      split (holds eq k ks)
      (λ t. rw (holds-append eq k ks ls, t) rest)
      (λ f. rw (holds-append eq k ks ls, f) (split (holds eq k ls) (λ u. rw u (omega (arith, rest))) (λ v. rw v (omega (arith, rest)))))

  -- a list holds what two lists hold, and is no greater
  pub record IsBoth (m ks ls : List K) : Type 0 where
    small : total eq weight m ≤ total eq weight ks + total eq weight ls
    holds_both : (z : K) → holds eq z m ≡ (holds eq z ks || holds eq z ls)

  both : (ks ls : List K) → IsBoth (ks ++ ls) ks ls
  both ks ls = record { small = total-append ks ls; holds_both = λ z. holds-append eq z ks ls }

  both_turned : (m ks ls : List K) → IsBoth m ks ls → IsBoth m ls ks
  both_turned m ks ls b = record {
    small = omega (arith, b.small);
    holds_both = λ z. b.holds_both z ∙ split (holds eq z ks) (λ t. split (holds eq z ls) (λ u. rw (t, u) refl) (λ v. rw (t, v) refl))
        (λ f. split (holds eq z ls) (λ u. rw (f, u) refl) (λ v. rw (f, v) refl));
  }

  module _ (serves : List K → K → List (List K) → Type 0) where
    -- a schedule from the keys m on misses the size n
    pub record IsFrom (h : ℕ) (m : List K) (rs : List K) (n : ℕ) : Type 0 where
      pub later : List (List K)
      pub sched : Sched serves h (m ∷ later) rs
      pub misses : schedule_missed_size eq weight (m ∷ later) rs ≡ n

    first_fits : (h : ℕ) (ks : List K) (later : List (List K)) (rs : List K) → Sched serves h (ks ∷ later) rs → total eq weight ks ≤ h
    first_fits h ks later [] s = s.0
    first_fits h ks later (x ∷ rs) s = s.0

    -- the order of two sums
    from_turned : (a b : ℕ) (m rs : List K) (n k : ℕ) → IsFrom (a + b) m rs (n + k) → IsFrom (b + a) m rs (k + n)
    from_turned a b m rs n k is =
        let h : a + b ≡ b + a = omega arith in
        record { later = is.later; sched = subst (λ j. Sched serves j (m ∷ is.later) rs) h is.sched; misses = omega (arith, is.misses) }

module _ {K : Type 0} (eq : K → K → Bool) (weight : K → ℕ) (laws : IsEquivalence eq) (serves : List K → K → List (List K) → Type 0)
    (serving : IsServing eq serves) (mine theirs : K → Type 0)
    (apart : (z : K) → mine z → theirs z → ⊥) (same : (x y : K) → eq x y ≡ true → mine y → mine x) where
  -- a request of one of two classes: that class's schedule goes on, the other one waits
  step : (a b n : ℕ) (x : K) (m ks ls : List K) (later : List (List K)) (us rs : List K) → mine x
      → ((z : K) → holds eq z ks ≡ true → mine z) → ((z : K) → holds eq z ls ≡ true → theirs z)
      → IsBoth eq weight m ks ls → Sched eq weight serves a (ks ∷ later) (x ∷ us) → total eq weight ls ≤ b
      → ((next : List K) (after : List (List K)) → ((z : K) → holds eq z next ≡ true → mine z) → Sched eq weight serves a (next ∷ after) us
      → IsFrom eq weight serves (a + b) (next ++ ls) rs (schedule_missed_size eq weight (next ∷ after) us + n))
      → IsFrom eq weight serves (a + b) m (x ∷ rs) (schedule_missed_size eq weight (ks ∷ later) (x ∷ us) + n)
  step a b n x m ks ls [] us rs is all_mine all_theirs b2 sched few rest = absurd (serving.goes_on ks x sched.1)
  step a b n x m ks ls (next ∷ after) us rs is all_mine all_theirs b2 sched few rest =
      let all = serving.takes ks x next after sched.1 in
      let next_mine : (z : K) → holds eq z next ≡ true → mine z =
      λ z h. let w = held_of_all eq laws next (x ∷ ks) all z h in
      split (eq z x) (λ t. same z x t is) (λ f. all_mine z (rw f at w)) in
      let on = rest next after next_mine sched.2 in
      let absent : holds eq x ls ≡ false = split (holds eq x ls) (λ t. absurd (apart x is (all_theirs x t))) (λ f. f) in
      let mark : holds eq x m ≡ holds eq x ks =
      b2.holds_both x ∙ rw absent (split (holds eq x ks) (λ t. rw t refl) (λ f. rw f refl)) in
      let within : (z : K) → holds eq z (next ++ ls) ≡ true → holds eq z (x ∷ m) ≡ true =
      λ z h. split (eq z x) (λ t. rw t refl) (λ f. rw (f, b2.holds_both z)
      (split (holds eq z next)
      (λ u. let w = held_of_all eq laws next (x ∷ ks) all z u in or_left (holds eq z ks) (holds eq z ls) (rw f at w))
      (λ v. or_right (holds eq z ks) (holds eq z ls) (rw v at (rw (holds-append eq z next ls) at h))))) in
      record {
        later = (next ++ ls) ∷ on.later;
        sched = (
          omega (arith, b2.small, sched.0, few),
          serving.beside ks x next after m ls on.later (all_held eq (next ++ ls) (x ∷ m) within laws) sched.1,
          on.sched,
        );
        misses = rw mark (omega (arith, on.misses));
      }

module _ {K : Type 0} (eq : K → K → Bool) (weight : K → ℕ) (laws : IsEquivalence eq) (serves : List K → K → List (List K) → Type 0)
    (serving : IsServing eq serves) (test : K → Bool)
    (alike : (x y : K) → eq x y ≡ true → test x ≡ test y) where
  abbrev Passes : K → Type 0
  Passes z = test z ≡ true

  abbrev Fails : K → Type 0
  Fails z = test z ≡ false

  abbrev fails : K → Bool
  fails x = not (test x)

  abbrev size : List (List K) → List K → ℕ
  size held rs = schedule_missed_size eq weight held rs

  never : (z : K) → Passes z → Fails z → ⊥
  never z t f = let bad : true ≡ false = sym t ∙ f in cc

  -- a schedule for each of two classes is one for both
  merged : (a b : ℕ) (rs m ks ls : List K) (before after : List (List K)) → ((z : K) → holds eq z ks ≡ true → Passes z)
      → ((z : K) → holds eq z ls ≡ true → Fails z) → IsBoth eq weight m ks ls
      → Sched eq weight serves a (ks ∷ before) (filter test rs) → Sched eq weight serves b (ls ∷ after) (filter fails rs)
      → IsFrom eq weight serves (a + b) m rs (size (ks ∷ before) (filter test rs) + size (ls ∷ after) (filter fails rs))
  merged a b [] m ks ls before after ps fs b2 s t = record { later = []; sched = (omega (arith, b2.small, s.0, t.0), refl); misses = refl }
  merged a b (x ∷ rs) m ks ls before after ps fs b2 s t =
      split (test x)
      (λ is. rw is (step eq weight laws serves serving Passes Fails never (λ y z e p. alike y z e ∙ p) a b
      (size (ls ∷ after) (filter fails rs)) x m ks ls before (filter test rs) rs is ps fs b2 (rw is at s)
      (first_fits eq weight serves b ls after (filter fails rs) (rw is at t))
      (λ next later mine sched. merged a b rs (next ++ ls) next ls later after mine fs (both eq weight next ls) sched (rw is at t))))
      (λ is. rw is (from_turned eq weight serves b a m (x ∷ rs) (size (ls ∷ after) (x ∷ filter fails rs)) (size (ks ∷ before) (filter test rs))
      (step eq weight laws serves serving Fails Passes (λ z p q. never z q p) (λ y z e p. alike y z e ∙ p) b a
      (size (ks ∷ before) (filter test rs)) x m ls ks after (filter fails rs) rs is fs ps (both_turned eq weight m ks ls b2) (rw is at t)
      (first_fits eq weight serves a ks before (filter test rs) (rw is at s))
      (λ next later mine sched. from_turned eq weight serves a b (next ++ ks) rs (size (ks ∷ before) (filter test rs))
      (size (next ∷ later) (filter fails rs))
      (merged a b rs (next ++ ks) ks next before later ps mine (both_turned eq weight (next ++ ks) next ks (both eq weight next ks))
      (rw is at s) sched)))))

  pub merged_reached : (a b n k : ℕ) (rs : List K) → IsFrom eq weight serves a [] (filter test rs) n
      → IsFrom eq weight serves b [] (filter fails rs) k → IsFrom eq weight serves (a + b) [] rs (n + k)
  merged_reached a b n k rs s t =
      let on = merged a b rs [] [] [] s.later t.later (λ z h. let bad : false ≡ true = h in cc) (λ z h. let bad : false ≡ true = h in cc)
      (both eq weight [] []) s.sched t.sched in
      record { later = on.later; sched = on.sched; misses = omega (arith, on.misses, s.misses, t.misses) }
