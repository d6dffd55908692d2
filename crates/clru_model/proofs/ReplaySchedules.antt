-- A replay is a schedule: it holds the keys requested last.
use Rattle.std.proofs.Common.{◌≡◌, ℕ, zero, suc, ◌≤◌, Bool, true, false, cond}
use Rattle.std.proofs.Common.{List, [], ◌∷◌, length, take, refl, sym, ap, not, ◌∙◌, arith, take_all, take-take, length-take}
use Rattle.std.proofs.lemmas.Bool.{or_left, or_right}
use Rattle.std.specs.Cmp.{IsEquivalence}
use Rattle.std.specs.List.{list_all, count_by}
use Rattle.clru_model.specs.Least.{IsAttained}
use Rattle.clru_model.specs.Requests.{holds, hit, marks_after, misses}
use Rattle.clru_model.specs.Schedule.{IsSchedule, schedule_marks}
use Rattle.clru_model.proofs.Cases.{split}
use Rattle.clru_model.proofs.Distinct.{same_right, hit-cons}
use Rattle.clru_model.proofs.Hits.{hit-zero, hit-cons_same}

module _ {K : Type 0} (eq : K → K → Bool) where
  -- the keys without the first that is the same as x
  abbrev without : K → List K → List K
  without x [] = []
  without x (y ∷ ks) = cond (eq x y) ks (y ∷ without x ks)

  -- the keys held after a request of x, the latest first
  abbrev touched : ℕ → K → List K → List K
  touched k x ks = take k (x ∷ without x ks)

  -- the keys held after each request
  abbrev recent : ℕ → List K → List K → List (List K)
  recent k ks [] = []
  recent k ks (x ∷ rs) = touched k x ks ∷ recent k (touched k x ks) rs

  -- each key of the list is held in another one
  pub all_held : (ks ls : List K) → ((z : K) → holds eq z ks ≡ true → holds eq z ls ≡ true) → IsEquivalence eq
      → list_all (λ q. holds eq q ls) ks ≡ true
  all_held [] ls within laws = refl
  all_held (k ∷ ks) ls within laws =
      let here : holds eq k ls ≡ true = within k (or_left (eq k k) (holds eq k ks) (laws.refl k)) in
      rw here (all_held ks ls (λ z h. within z (or_right (eq z k) (holds eq z ks) h)) laws)

  -- what is held among the first keys is held
  holds_take : (z : K) (n : ℕ) (ks : List K) → holds eq z (take n ks) ≡ true → holds eq z ks ≡ true
  holds_take z zero ks h = cc
  holds_take z (suc n) [] h = h
  holds_take z (suc n) (k ∷ ks) h = split (eq z k) (λ t. rw t refl) (λ f. rw f (holds_take z n ks (rw f at h)))

  -- what is held without x is held
  holds_without : (x z : K) (ks : List K) → holds eq z (without x ks) ≡ true → holds eq z ks ≡ true
  holds_without x z [] h = h
  holds_without x z (k ∷ ks) h =
      split (eq z k) (λ t. rw t refl)
      (λ f. rw f (split (eq x k) (λ u. rw u at h) (λ v. holds_without x z ks (rw f at (rw v at h)))))

  -- up to k keys, the first j of them are the hits at capacity j
  abbrev AreRecent : ℕ → List K → List K → Type 0
  AreRecent k past ks = (j : ℕ) (y : K) → j ≤ k → holds eq y (take j ks) ≡ hit eq j y past

module _ {K : Type 0} (eq : K → K → Bool) (laws : IsEquivalence eq) where
  -- the first keys without x, at another key
  holds-take-without : (x y : K) (j : ℕ) (ks : List K) → eq x y ≡ false → holds eq y (take j (without eq x ks))
      ≡ cond (holds eq x (take j ks)) (holds eq y (take (suc j) ks)) (holds eq y (take j ks))
  holds-take-without x y zero ks apart = refl
  holds-take-without x y (suc j) [] apart = refl
  holds-take-without x y (suc j) (k ∷ ks) apart =
      split (eq x k)
      (λ t. let w : eq y k ≡ false = sym (same_right eq laws x k y t) ∙ laws.symm y x ∙ apart in rw (t, w) refl)
      (λ f. let ih = holds-take-without x y j ks apart in
      rw (f, ih) (split (holds eq x (take j ks)) (λ t. rw t refl) (λ g. rw g refl)))

  -- the first keys are still the hits after a request of x
  AreRecent_touched : (k : ℕ) (x : K) (past ks : List K) → AreRecent eq (suc k) past ks → AreRecent eq (suc k) (x ∷ past) (touched eq (suc k) x ks)
  AreRecent_touched k x past ks keeps j y within = rw (take-take j (suc k) (x ∷ without eq x ks) within) (at j within)
    where
      at : (j : ℕ) → j ≤ suc k → holds eq y (take j (x ∷ without eq x ks)) ≡ hit eq j y (x ∷ past)
      at zero within = sym (hit-zero eq (x ∷ past) y)
      at (suc i) within =
          split (eq x y)
          (λ t. let w : eq y x ≡ true = laws.symm y x ∙ t in
          let here : holds eq y (x ∷ take i (without eq x ks)) ≡ true = rw w refl in
          here ∙ sym (hit-cons_same eq i x y past w))
          (λ f. let w : eq y x ≡ false = laws.symm y x ∙ f in
          let here : i ≤ suc k = omega arith in
          let l : holds eq y (x ∷ take i (without eq x ks)) ≡ cond (hit eq i x past) (hit eq (suc i) y past) (hit eq i y past)
          = rw w (holds-take-without x y i ks f ∙ rw (keeps i x here, keeps (suc i) y within, keeps i y here) refl) in
          l ∙ sym (hit-cons eq laws i x y past f))

  -- a request of x is served
  touched_serves : (k : ℕ) (x : K) (ks : List K) → list_all (λ q. holds eq q (x ∷ ks)) (touched eq (suc k) x ks) ≡ true
  touched_serves k x ks = all_held eq (touched eq (suc k) x ks) (x ∷ ks) (λ z h.
      let in_front = holds_take eq z (suc k) (x ∷ without eq x ks) h in
      split (eq z x) (λ t. rw t refl) (λ f. rw f (holds_without eq x z ks (rw f at in_front)))) laws

  -- the keys held are a schedule
  recent_serves : (k : ℕ) (ks rs : List K) → length ks ≤ suc k → IsSchedule eq (suc k) (ks ∷ recent eq (suc k) ks rs) rs
  recent_serves k ks [] short = (short, refl)
  recent_serves k ks (x ∷ rs) short =
      let next = touched eq (suc k) x ks in
      let few : length next ≤ suc k = omega (arith, length-take k (without eq x ks)) in
      (short, (touched_serves k x ks, or_left (eq x x) (holds eq x (take k (without eq x ks))) (laws.refl x)), recent_serves k next rs few)

  -- which hits where the replay does
  recent_marks : (k : ℕ) (past ks rs : List K) → length ks ≤ suc k → AreRecent eq (suc k) past ks
      → schedule_marks eq (ks ∷ recent eq (suc k) ks rs) rs ≡ marks_after eq (suc k) past rs
  recent_marks k past ks [] short keeps = refl
  recent_marks k past ks (x ∷ rs) short keeps =
      let next = touched eq (suc k) x ks in
      let few : length next ≤ suc k = omega (arith, length-take k (without eq x ks)) in
      let here : holds eq x ks ≡ hit eq (suc k) x past = rw (take_all (suc k) ks short) at (keeps (suc k) x (omega arith)) in
      cc (here, recent_marks k (x ∷ past) next rs few (AreRecent_touched k x past ks keeps))

  -- before the first request nothing is held
  AreRecent_none : (k : ℕ) → AreRecent eq k [] []
  AreRecent_none k zero y within = refl
  AreRecent_none k (suc j) y within = refl

  -- a replay's misses are those of a schedule
  pub replay_attained : (k : ℕ) (rs : List K) → 1 ≤ k → IsAttained eq k rs (misses eq k rs)
  replay_attained zero rs pos = absurd (omega arith)
  replay_attained (suc k) rs pos = record {
    schedule = recent eq (suc k) [] rs;
    serves = recent_serves k [] rs (omega arith);
    misses = ap (count_by not) (recent_marks k [] [] rs (omega arith) (AreRecent_none (suc k)));
  }
