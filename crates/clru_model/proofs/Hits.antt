-- Why the first keys that a cache holds are the hits at each capacity up to its own.
use Rattle.std.proofs.Common.{◌≡◌, ℕ, zero, suc, ◌-◌, ◌≤◌, Bool, true, false, cond, List, [], ◌∷◌}
use Rattle.std.proofs.Common.{length, take, refl, sym, ap, ◌∙◌, arith, take_all, take-take}
use Rattle.std.proofs.lemmas.List.{take-map, length-map}
use Rattle.std.proofs.lemmas.Bool.Decides.{nat_tests}
use Rattle.std.proofs.lemmas.Bool.{or_parts}
use Rattle.std.specs.Cmp.{IsEquivalence}
use Rattle.std.specs.Map.{keys_of, remove_entry}
use Rattle.clru_model.proofs.Cases.{split}
use Rattle.clru_model.specs.Requests.{holds, hit}
use Rattle.clru_model.specs.Runs.{IsPut}
use Rattle.clru_model.proofs.Distinct.{since-cons, same_right, hit-cons}

module _ {K : Type 0} (eq : K → K → Bool) where
  -- up to the capacity k, the first j of the keys held, latest first, are the hits at capacity j
  pub record HoldsHits (k : ℕ) (past ks : List K) : Type 0 where
    pub kept : (j : ℕ) (y : K) → j ≤ k → holds eq y (take j ks) ≡ hit eq j y past

  -- before the first request nothing is held
  pub HoldsHits_none : (k : ℕ) → HoldsHits k [] []
  HoldsHits_none k = record { kept = none }
    where
      none : (j : ℕ) (y : K) → j ≤ k → holds eq y (take j []) ≡ hit eq j y []
      none zero y within = refl
      none (suc j) y within = refl

  -- at capacity 0 nothing hits
  pub hit-zero : (past : List K) (x : K) → hit eq 0 x past ≡ false
  hit-zero past x = split (holds eq x past) (λ t. rw t (grind (arith, nat_tests))) (λ f. rw f refl)

  -- a key that was just requested hits at every capacity above 0
  pub hit-cons_same : (j : ℕ) (x y : K) (past : List K) → eq y x ≡ true → hit eq (suc j) y (x ∷ past) ≡ true
  hit-cons_same j x y past t = rw (since-cons eq y x past, t) (grind (arith, nat_tests))

  -- a key that is not held is not among the first ones
  take_not_held : (x : K) (j : ℕ) (ks : List K) → holds eq x ks ≡ false → holds eq x (take j ks) ≡ false
  take_not_held x zero ks f = refl
  take_not_held x (suc j) [] f = refl
  take_not_held x (suc j) (k ∷ ks) f =
      let parts = or_parts (eq x k) (holds eq x ks) f in
      rw parts.0 (take_not_held x j ks parts.1)

module _ {K V : Type 0} (eq : K → K → Bool) where
  -- under the invariant the keys held are the hits at the capacity
  pub HoldsHits_held : {k : ℕ} {past : List K} (x : K) (es : List (K × V)) → length es ≤ k → HoldsHits eq k past (keys_of es)
      → holds eq x (keys_of es) ≡ hit eq k x past
  HoldsHits_held {k} x es short keeps =
      let all : take k (keys_of es) ≡ keys_of es = take_all k (keys_of es) (rw length-map short) in
      rw all at (keeps.kept k x (omega arith))

module _ {K V : Type 0} (eq : K → K → Bool) (laws : IsEquivalence eq) where
  -- the first keys once an entry of x is taken out, at another key
  holds-take-remove : (x y : K) (j : ℕ) (es : List (K × V)) → eq x y ≡ false → holds eq y (take j (keys_of (remove_entry (eq x) es)))
      ≡ cond (holds eq x (take j (keys_of es))) (holds eq y (take (suc j) (keys_of es))) (holds eq y (take j (keys_of es)))
  holds-take-remove x y zero es apart = refl
  holds-take-remove x y (suc j) [] apart = refl
  holds-take-remove x y (suc j) (e ∷ es) apart =
      split (eq x e.0)
      (λ t. let w : eq y e.0 ≡ false = sym (same_right eq laws x e.0 y t) ∙ laws.symm y x ∙ apart in rw (t, w) refl)
      (λ f. let ih = holds-take-remove x y j es apart in
      rw (f, ih) (split (holds eq x (take j (keys_of es))) (λ t. rw t refl) (λ g. rw g refl)))

  -- the invariant after a put of x
  pub HoldsHits_put : {k : ℕ} {past : List K} (x : K) (es next : List (K × V)) → HoldsHits eq k past (keys_of es) → IsPut eq k x es next
      → HoldsHits eq k (x ∷ past) (keys_of next)
  HoldsHits_put {k} {past} x es next keeps put = record { kept = λ j y within. rw put.entries (at put.key put.same j y within) }
    where
      at : (q : K) → eq x q ≡ true → (j : ℕ) (y : K) → j ≤ k
          → holds eq y (take j (q ∷ keys_of (cond (holds eq x (keys_of es)) (remove_entry (eq x) es) (take (k - 1) es)))) ≡ hit eq j y (x ∷ past)
      at q same zero y within = sym (hit-zero eq (x ∷ past) y)
      at q same (suc i) y within =
          split (eq x y)
          (λ t. let w : eq y q ≡ true = sym (laws.congr x y q t) ∙ same in
          rw w (sym (hit-cons_same eq i x y past (laws.symm y x ∙ t))))
          (λ f. let w : eq y q ≡ false = sym (same_right eq laws x q y same) ∙ laws.symm y x ∙ f in
          let here : i ≤ k = omega arith in
          rw (w, hit-cons eq laws i x y past f) (split (holds eq x (keys_of es))
          (λ held. rw held (holds-take-remove x y i es f ∙ rw (keeps.kept i x here, keeps.kept (suc i) y within, keeps.kept i y here) refl))
          (λ new. let no_hit : hit eq i x past ≡ false = sym (keeps.kept i x here) ∙ take_not_held eq x i (keys_of es) new in
          let short : i ≤ k - 1 = omega arith in
          rw (new, no_hit) (ap (λ l. holds eq y (take i l)) (sym (take-map (λ p. p.0) (k - 1) es))
          ∙ ap (λ l. holds eq y l) (take-take i (k - 1) (keys_of es) short) ∙ keeps.kept i y here))))
