-- The state of the walk from the first request to the last: the keys held, and the queue of the positions at which they are requested
-- next, as how often each position stands in it.
use Rattle.std.proofs.Common.{◌≡◌, ℕ, ◌+◌, ◌-◌, ◌<◌, ◌≤◌, Bool, true, false, cond, eqb, ltb}
use Rattle.std.proofs.Common.{List, [], ◌∷◌, length, drop, refl, inl, inr, sym, ap, ◌∙◌, arith}
use Rattle.std.proofs.lemmas.Bool.{eq-eqb, eqb-true, lt-ltb, le-ltb, cases_lt}
use Rattle.std.specs.Cmp.{IsEquivalence}
use Rattle.clru_model.specs.Requests.{holds}
use Rattle.clru_model.proofs.Cases.{split}
use Rattle.clru_model.proofs.Distinct.{others, holds_same}
use Rattle.clru_model.proofs.Optimum.{IsBest}
use Rattle.clru_least.specs.Next.{until}
use Rattle.clru_least.proofs.Until.{until-le-length}
use Rattle.clru_least.proofs.Due.{count_by-cons, is_due, due, AreApart, AreApart_first, AreApart_others, length-others, due_key, due_by_key, due_alone, due_after}

module _ {K : Type 0} (eq : K → K → Bool) where
  -- The keys held, where the requests rs begin at the position i: as many as were counted. The queue has their next positions, from i
  -- on.
  pub record IsHeld (i : ℕ) (rs keys : List K) (queue : ℕ → ℕ) (held : ℕ) : Type 0 where
    pub apart : AreApart eq keys
    pub counted : held ≡ length keys
    pub queued : (p : ℕ) → i ≤ p → queue p ≡ due eq i rs keys p

  -- with it, so many misses so far are the least where the rest goes on as well as it can
  pub record IsOnTheWay (h i : ℕ) (requests : List K) (queue : ℕ → ℕ) (held misses : ℕ) : Type 0 where
    pub keys : List K
    pub state : IsHeld i (drop i requests) keys queue held
    pub short : length keys ≤ h
    pub rest : (n : ℕ) → IsBest eq h keys (drop i requests) n → IsBest eq h [] requests (misses + n)

module _ {K : Type 0} (eq : K → K → Bool) (laws : IsEquivalence eq) where
  -- the queue says whether the key of the request is held
  pub queued_held : (i : ℕ) (x : K) (rs keys : List K) (queue : ℕ → ℕ) (held : ℕ)
      → IsHeld eq i (x ∷ rs) keys queue held → ltb 0 (queue i) ≡ holds eq x keys
  queued_held i x rs keys queue held s =
      let here : is_due eq i (x ∷ rs) i x ≡ true = rw (laws.refl x) (eq-eqb (i + 0) i (omega arith)) in
      ap (λ m. ltb 0 m) (s.queued i (omega arith)) ∙ split (holds eq x keys)
      (λ t. let e = due_by_key eq laws i (x ∷ rs) i x keys s.apart t in
      let some : 0 < due eq i (x ∷ rs) keys i = e_some e here in
      rw t (lt-ltb 0 (due eq i (x ∷ rs) keys i) some))
      (λ f. rw f (le-ltb 0 (due eq i (x ∷ rs) keys i) (none f)))
    where
      e_some : due eq i (x ∷ rs) keys i ≡ cond (is_due eq i (x ∷ rs) i x) 1 0 + due eq i (x ∷ rs) (others eq x keys) i
          → is_due eq i (x ∷ rs) i x ≡ true → 0 < due eq i (x ∷ rs) keys i
      e_some e here =
          let one : cond (is_due eq i (x ∷ rs) i x) 1 0 + due eq i (x ∷ rs) (others eq x keys) i
          ≡ 1 + due eq i (x ∷ rs) (others eq x keys) i = ap (λ b. cond b 1 0 + due eq i (x ∷ rs) (others eq x keys) i) here in
          omega (arith, e, one)

      none : holds eq x keys ≡ false → due eq i (x ∷ rs) keys i ≤ 0
      none f = elim (cases_lt 0 (due eq i (x ∷ rs) keys i)) [
        | inl some ↦
            let (z, held, at) = due_key eq laws (is_due eq i (x ∷ rs) i) keys some in
            let same : eq z x ≡ true = split (eq z x) (λ t. t) (λ g.
            let e = eqb-true (i + until eq z (x ∷ rs)) i at in
            absurd (omega (arith, rw g at e))) in
            cc (holds_same eq laws z x keys same)
        | inr few ↦ few
      ]

  -- the next position of a requested key is that of no other one
  pub queued_new : (i : ℕ) (x : K) (rs keys : List K) (queue : ℕ → ℕ) (held : ℕ) → IsHeld eq i (x ∷ rs) keys queue held
      → until eq x rs < length rs → queue (i + 1 + until eq x rs) ≡ 0
  queued_new i x rs keys queue held s within =
      s.queued (i + 1 + until eq x rs) (omega arith) ∙ due_after eq laws i x rs keys (i + 1 + until eq x rs) (omega arith)
      ∙ due_alone eq laws (i + 1) rs x keys within

  -- after a request of x, with its next position queued
  pub IsHeld_next : (i : ℕ) (x : K) (rs keys : List K) (queue more : ℕ → ℕ) (held : ℕ) → IsHeld eq i (x ∷ rs) keys queue held
      → ((p : ℕ) → more p ≡ cond (eqb (i + 1 + until eq x rs) p) 1 0 + queue p)
      → IsHeld eq (i + 1) rs (x ∷ others eq x keys) more (cond (holds eq x keys) held (held + 1))
  IsHeld_next i x rs keys queue more held s push = record {
    apart = AreApart_first eq laws x keys s.apart;
    counted = let l = length-others eq laws x keys s.apart in
        let c = s.counted in
        split (holds eq x keys) (λ t. rw t (omega (arith, c, rw t at l))) (λ f. rw f (omega (arith, c, rw f at l)));
    queued = λ p from. push p ∙ ap (λ m. cond (eqb (i + 1 + until eq x rs) p) 1 0 + m) (s.queued p (omega arith) ∙ due_after eq laws i x rs keys p (omega arith))
        ∙ sym (first p);
  }
    where
      first : (p : ℕ) → due eq (i + 1) rs (x ∷ others eq x keys) p
          ≡ cond (eqb (i + 1 + until eq x rs) p) 1 0 + due eq (i + 1) rs (others eq x keys) p
      first p = count_by-cons (is_due eq (i + 1) rs p) x (others eq x keys)

  -- a position that is due stands in the queue
  pub due_queued : (i : ℕ) (rs keys : List K) (queue : ℕ → ℕ) (held : ℕ) (z : K)
      → IsHeld eq i rs keys queue held → holds eq z keys ≡ true → 0 < queue (i + until eq z rs)
  due_queued i rs keys queue held z s at =
      let p : ℕ = i + until eq z rs in
      let e = due_by_key eq laws i rs p z keys s.apart at in
      let one : due eq i rs keys p ≡ 1 + due eq i rs (others eq z keys) p
      = e ∙ ap (λ b. cond b 1 0 + due eq i rs (others eq z keys) p) (eq-eqb p p refl) in
      omega (arith, one, s.queued p (omega arith))

  -- after the greatest position was taken from the queue: a key is dropped whose next request is the furthest
  pub record IsDropped (i : ℕ) (rs keys : List K) (less : ℕ → ℕ) (held : ℕ) : Type 0 where
    pub key : K
    pub was_held : holds eq key keys ≡ true
    pub furthest : (y : K) → holds eq y keys ≡ true → until eq y rs ≤ until eq key rs
    pub state : IsHeld eq i rs (others eq key keys) less (held - 1)

  pub IsDropped_from : (i n : ℕ) (rs keys : List K) (queue less : ℕ → ℕ) (held latest : ℕ)
      → IsHeld eq i rs keys queue held → i + length rs ≡ n → 0 < held
      → ((p : ℕ) → queue p ≡ cond (eqb latest p) 1 0 + less p) → ((p : ℕ) → p ≤ n → 0 < queue p → p ≤ latest)
      → IsDropped i rs keys less held
  IsDropped_from i n rs [] queue less held latest s ends some taken greatest = absurd (omega (arith, s.counted))
  IsDropped_from i n rs (k ∷ ks) queue less held latest s ends some taken greatest =
      let keys = k ∷ ks in
      let within = λ (y : K). until-le-length eq y rs in
      let latest_of : (y : K) → holds eq y keys ≡ true → i + until eq y rs ≤ latest = λ y held_y.
      greatest (i + until eq y rs) (omega (arith, ends, within y)) (due_queued i rs keys queue held y s held_y) in
      let held_k : holds eq k keys ≡ true = rw (laws.refl k) refl in
      let from : i ≤ latest = omega (arith, latest_of k held_k) in
      let one : queue latest ≡ 1 + less latest
      = taken latest ∙ ap (λ b. cond b 1 0 + less latest) (eq-eqb latest latest refl) in
      let there : 0 < due eq i rs keys latest = omega (arith, one, s.queued latest from) in
      let (z, held_z, at) = due_key eq laws (is_due eq i rs latest) keys there in
      let is : i + until eq z rs ≡ latest = eqb-true (i + until eq z rs) latest at in
      let test = λ (p : ℕ). ap (λ (m : ℕ). eqb m p) is in
      record {
        key = z;
        was_held = held_z;
        furthest = λ y held_y. omega (arith, is, latest_of y held_y);
        state = record {
          apart = AreApart_others eq laws z keys s.apart;
          counted = let l = length-others eq laws z keys s.apart in
              let m : length keys ≡ 1 + length (others eq z keys) = l ∙ ap (λ b. cond b 1 0 + length (others eq z keys)) held_z in
              omega (arith, m, s.counted);
          queued = λ p low.
              let e = due_by_key eq laws i rs p z keys s.apart held_z in
              let t : cond (is_due eq i rs p z) 1 0 + due eq i rs (others eq z keys) p ≡ cond (eqb latest p) 1 0 + due eq i rs (others eq z keys) p
              = ap (λ b. cond b 1 0 + due eq i rs (others eq z keys) p) (test p) in
              omega (arith, e, t, taken p, s.queued p low);
        };
      }
