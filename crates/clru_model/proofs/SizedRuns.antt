-- Runs of puts by weight hold the keys that hit by size: they hold the longest beginning that fits of all keys that were
-- requested, the latest first.
use Rattle.std.proofs.Common.{◌≡◌, ℕ, ◌+◌, ◌-◌, ◌<◌, ◌≤◌, leb, Bool, true, false, cond, not, ◌&&◌, ◌||◌, List, [], ◌∷◌}
use Rattle.std.proofs.Common.{refl, sym, ap, ◌∙◌, arith, ltb, ltb-true}
use Rattle.std.proofs.lemmas.Bool.{leb-true, ltb-false}
use Rattle.std.proofs.lemmas.Bool.Decides.{nat_tests}
use Rattle.std.proofs.lemmas.List.Sums.{take_while-cons}
use Rattle.std.specs.Cmp.{IsEquivalence}
use Rattle.std.specs.List.{take_while}
use Rattle.std.specs.Map.{keys_of}
use Rattle.clru_model.specs.Entries.{without, size_of, fit}
use Rattle.clru_model.specs.Requests.{holds, since}
use Rattle.clru_model.specs.Runs.{IsRunOf, held_before}
use Rattle.clru_model.specs.Sizes.{SameWeights, total, hit_by_size, marks_by_size_after, marks_by_size}
use Rattle.clru_model.specs.SizedRuns.{IsSizedPut, IsSizedPutRun, IsPutIfLight, marks_of_light_after, marks_of_light}
use Rattle.clru_model.proofs.Cases.{split}
use Rattle.clru_model.proofs.Distinct.{since-cons, holds_same, same_right}
use Rattle.clru_model.proofs.Fitting.{size_of-cons}

module _ {K V : Type 0} (eq : K → K → Bool) where
  -- the entries before that of x
  abbrev before : K → List (K × V) → List (K × V)
  before x es = take_while (λ e. not (eq x e.0)) es

  before-cons : (x : K) (e : K × V) (es : List (K × V)) → before x (e ∷ es) ≡ cond (eq x e.0) [] (e ∷ before x es)
  before-cons x e es =
      rw (take_while-cons (λ (d : K × V). not (eq x d.0)) e es) (split (eq x e.0) (λ t. rw t refl) (λ f. rw f refl))

module _ {K V : Type 0} (weight : K → V → ℕ) where
  -- what fits is the same where more fitted first
  fit-fit : (i j : ℕ) (es : List (K × V)) → i ≤ j → fit weight i (fit weight j es) ≡ fit weight i es
  unfolding fit
  fit-fit i j [] less = refl
  fit-fit i j (e ∷ es) less =
      let w = 1 + weight e.0 e.1 in
      split (leb w j)
      (λ t. rw t (split (leb w i) (λ u. rw u (ap (λ l. e ∷ l) (fit-fit (i - w) (j - w) es (omega arith)))) (λ n. rw n refl)))
      (λ f. let over : leb w i ≡ false = grind (arith, nat_tests) in rw (f, over) refl)

  -- an entry that is lighter than the capacity comes first
  fit-first : (c : ℕ) (e : K × V) (es : List (K × V)) → weight e.0 e.1 < c
      → fit weight c (e ∷ es) ≡ e ∷ fit weight (c - 1 - weight e.0 e.1) es
  unfolding fit
  fit-first c e es light =
      let room : leb (1 + weight e.0 e.1) c ≡ true = grind (arith, nat_tests) in
      let left : c - (1 + weight e.0 e.1) ≡ c - 1 - weight e.0 e.1 = omega arith in
      rw (room, left) refl

module _ {K V : Type 0} (eq : K → K → Bool) (laws : IsEquivalence eq) (weight : K → ℕ) (same : SameWeights eq weight)
    (pair_weight : K → V → ℕ) (by_key : (k : K) (v : V) → pair_weight k v ≡ weight k) where
  -- what fits beside x is the same where more fitted with it
  pub fit-without-fit : (x : K) (i : ℕ) (es : List (K × V))
      → fit pair_weight i (without eq x (fit pair_weight (i + (1 + weight x)) es)) ≡ fit pair_weight i (without eq x es)
  unfolding fit
  fit-without-fit x i [] = refl
  fit-without-fit x i (e ∷ es) =
      let w = 1 + pair_weight e.0 e.1 in
      let j = i + (1 + weight x) in
      split (eq x e.0)
      (λ t. let here : w ≡ 1 + weight x = omega (arith, by_key e.0 e.1, same x e.0 t) in
      let room : leb w j ≡ true = grind (arith, nat_tests) in
      rw (room, t) (fit-fit pair_weight i (j - w) es (omega arith)))
      (λ f. split (leb w j)
      (λ u. rw (u, f) (split (leb w i)
      (λ v. let within = leb-true w i v in
      let left : j - w ≡ (i - w) + (1 + weight x) = omega arith in
      rw (v, left) (ap (λ l. e ∷ l) (fit-without-fit x (i - w) es)))
      (λ n. rw n refl)))
      (λ n. let over : leb w i ≡ false = grind (arith, nat_tests) in rw (n, f, over) refl))

  -- a key is held among what fits where the entries up to its own do
  holds-fit : (x : K) (c : ℕ) (es : List (K × V)) → holds eq x (keys_of (fit pair_weight c es))
      ≡ (holds eq x (keys_of es) && leb (1 + weight x + size_of pair_weight (before eq x es)) c)
  unfolding fit
  holds-fit x c [] = refl
  holds-fit x c (e ∷ es) =
      let w = 1 + pair_weight e.0 e.1 in
      let n = 1 + weight x + size_of pair_weight (before eq x es) in
      split (eq x e.0)
      (λ t. let here : w ≡ 1 + weight x = omega (arith, by_key e.0 e.1, same x e.0 t) in
      rw (before-cons eq x e es, t) (split (leb w c)
      (λ u. rw (u, t) (grind (arith, nat_tests)))
      (λ v. rw v (grind (arith, nat_tests)))))
      (λ f. rw (before-cons eq x e es, f) (
      let sum = size_of-cons pair_weight e (before eq x es) in
      split (leb w c)
      (λ u. let less : leb (1 + weight x + size_of pair_weight (e ∷ before eq x es)) c ≡ leb n (c - w) =
      grind (arith, nat_tests) in
      rw (u, f, less) (holds-fit x (c - w) es))
      (λ v. let over : leb (1 + weight x + size_of pair_weight (e ∷ before eq x es)) c ≡ false = grind (arith, nat_tests) in
      rw (v, over) (split (holds eq x (keys_of es)) (λ h. rw h refl) (λ h. rw h refl)))))

  -- entries for all keys that were requested, each once, the latest request first
  pub record IsOrder (past : List K) (es : List (K × V)) : Type 0 where
    pub held : (y : K) → holds eq y (keys_of es) ≡ holds eq y past
    pub held_before_it : (y z : K) → holds eq z (keys_of (before eq y es)) ≡ holds eq z (since eq y past)
    pub size_before_it : (y : K) → size_of pair_weight (before eq y es) ≡ total eq weight (since eq y past)

  -- an entry that is taken out
  before-without : (x y : K) (es : List (K × V)) → eq x y ≡ false → before eq y (without eq x es) ≡ without eq x (before eq y es)
  before-without x y [] apart = refl
  before-without x y (e ∷ es) apart =
      split (eq x e.0)
      (λ t. let w : eq y e.0 ≡ false = sym (same_right eq laws x e.0 y t) ∙ laws.symm y x ∙ apart in
      rw (before-cons eq y e es, w, t) refl)
      (λ f. rw (f, before-cons eq y e es, before-cons eq y e (without eq x es))
      (split (eq y e.0) (λ u. rw u refl) (λ v. rw v (rw f (ap (λ l. e ∷ l) (before-without x y es apart))))))

  holds-without : (x y : K) (es : List (K × V)) → eq x y ≡ false
      → holds eq y (keys_of (without eq x es)) ≡ holds eq y (keys_of es)
  holds-without x y [] apart = refl
  holds-without x y (e ∷ es) apart =
      split (eq x e.0)
      (λ t. let w : eq y e.0 ≡ false = sym (same_right eq laws x e.0 y t) ∙ laws.symm y x ∙ apart in rw (t, w) refl)
      (λ f. rw f (ap (λ b. eq y e.0 || b) (holds-without x y es apart)))

  size_of-without : (x : K) (es : List (K × V))
      → size_of pair_weight (without eq x es) + cond (holds eq x (keys_of es)) (1 + weight x) 0
      ≡ size_of pair_weight es
  size_of-without x [] = refl
  size_of-without x (e ∷ es) =
      let sum = size_of-cons pair_weight e es in
      split (eq x e.0)
      (λ t. rw t (omega (arith, sum, by_key e.0 e.1, same x e.0 t)))
      (λ f. rw f (omega (arith, sum, size_of-cons pair_weight e (without eq x es), size_of-without x es)))

  -- before the first request there are none
  pub order_none : IsOrder [] []
  order_none = record { held = λ y. refl; held_before_it = λ y z. refl; size_before_it = λ y. refl }

  -- after a request of x its entry comes first
  pub order_cons : {past : List K} {es : List (K × V)} (x key : K) (value : V) → eq x key ≡ true → IsOrder past es
      → IsOrder (x ∷ past) ((key, value) ∷ without eq key es)
  order_cons {past} {es} x key value e order = record {
    held = held;
    held_before_it = held_before_it;
    size_before_it = size_before_it;
  }
    where
      rest : List (K × V)
      rest = without eq key es

      as_key : (y : K) → eq y key ≡ eq y x
      as_key y = sym (same_right eq laws x key y e)

      apart : (y : K) → eq y x ≡ false → eq key y ≡ false
      apart y f = sym (laws.congr x key y e) ∙ laws.symm x y ∙ f

      held : (y : K) → holds eq y (key ∷ keys_of rest) ≡ holds eq y (x ∷ past)
      held y = rw (as_key y) (split (eq y x) (λ t. rw t refl) (λ f. rw f (holds-without key y es (apart y f) ∙ order.held y)))

      held_before_it : (y z : K) → holds eq z (keys_of (before eq y ((key, value) ∷ rest))) ≡ holds eq z (since eq y (x ∷ past))
      held_before_it y z = rw (before-cons eq y (key, value) rest, since-cons eq y x past, as_key y) (split (eq y x)
          (λ t. rw t refl)
          (λ f. rw (f, before-without key y es (apart y f), as_key z) (split (eq z x)
          (λ t. rw t refl)
          (λ g. rw g (holds-without key z (before eq y es) (apart z g) ∙ order.held_before_it y z)))))

      size_before_it : (y : K) → size_of pair_weight (before eq y ((key, value) ∷ rest)) ≡ total eq weight (since eq y (x ∷ past))
      size_before_it y = rw (before-cons eq y (key, value) rest, since-cons eq y x past, as_key y) (split (eq y x)
          (λ t. rw t refl)
          (λ f.
          let there = size_of-without key (before eq y es) in
          let in_past : holds eq key (keys_of (before eq y es)) ≡ holds eq x (since eq y past) =
          holds_same eq laws key x (keys_of (before eq y es)) (laws.symm key x ∙ e) ∙ order.held_before_it y x in
          let sum = size_of-cons pair_weight (key, value) (without eq key (before eq y es)) in
          let w = same x key e in
          let k = by_key key value in
          let all = order.size_before_it y in
          rw (f, before-without key y es (apart y f)) (split (holds eq x (since eq y past))
          (λ t. let part = rw (in_past, t) at there in rw t (omega (arith, sum, w, k, all, part)))
          (λ g. let part = rw (in_past, g) at there in rw g (omega (arith, sum, w, k, all, part))))))

  module _ (c : ℕ) where
    -- what fits of those entries holds the keys that hit
    pub held_hits : {past : List K} {all es : List (K × V)} (x : K) → IsOrder past all → es ≡ fit pair_weight c all
        → holds eq x (keys_of es) ≡ hit_by_size eq weight c x past
    held_hits {past} {all} x order is =
        ap (λ l. holds eq x (keys_of l)) is ∙ holds-fit x c all ∙ rw (order.held x, order.size_before_it x) refl

    -- and what a put leaves is what fits of the entries with its own first
    fits_next : {x : K} {es next : List (K × V)} (all : List (K × V)) (p : IsSizedPut eq pair_weight c x es next)
        → es ≡ fit pair_weight c all → next ≡ fit pair_weight c ((p.key, p.value) ∷ without eq p.key all)
    fits_next all p is =
        let i : ℕ = c - 1 - pair_weight p.key p.value in
        let room : c ≡ i + (1 + weight p.key) = omega (arith, by_key p.key p.value, p.light) in
        let kept =
        ap (λ l. fit pair_weight i (without eq p.key l)) (is ∙ ap (λ n. fit pair_weight n all) room)
        ∙ fit-without-fit p.key i all in
        p.entries ∙ ap (λ l. (p.key, p.value) ∷ l) kept
        ∙ sym (fit-first pair_weight c (p.key, p.value) (without eq p.key all) p.light)

    held_after : (past : List K) (all es : List (K × V)) (later : List (List (K × V))) (rs : List K) → IsOrder past all
        → es ≡ fit pair_weight c all → IsSizedPutRun eq pair_weight c (es ∷ later) rs
        → held_before eq (es ∷ later) rs ≡ marks_by_size_after eq weight c past rs
    held_after past all es later [] order is run = refl
    held_after past all es [] (x ∷ rs) order is run = absurd run.0
    held_after past all es (next ∷ later) (x ∷ rs) order is run =
        let p = run.0 in
        let rest = held_after (x ∷ past) ((p.key, p.value) ∷ without eq p.key all) next later rs
        (order_cons x p.key p.value p.same order) (fits_next all p is) run.1 in
        cc (held_hits x order is, rest)

    -- a key that is too heavy is not held
    heavy_missed : (x : K) (past : List K) → c ≤ weight x → hit_by_size eq weight c x past ≡ false
    heavy_missed x past heavy =
        let over : leb (1 + weight x + total eq weight (since eq x past)) c ≡ false = grind (arith, nat_tests) in
        rw over (split (holds eq x past) (λ t. rw t refl) (λ f. rw f refl))

    light_after : (past : List K) (all es : List (K × V)) (later : List (List (K × V))) (rs : List K) → IsOrder past all
        → es ≡ fit pair_weight c all → IsRunOf (IsPutIfLight eq weight pair_weight c) (es ∷ later) rs
        → held_before eq (es ∷ later) rs ≡ marks_of_light_after eq weight c past rs
    light_after past all es later [] order is run = refl
    light_after past all es [] (x ∷ rs) order is run = absurd run.0
    light_after past all es (next ∷ later) (x ∷ rs) order is run =
        let here = held_hits x order is in
        split (ltb (weight x) c)
        (λ t. let p = run.0.light (ltb-true (weight x) c t) in
        let rest = light_after (x ∷ past) ((p.key, p.value) ∷ without eq p.key all) next later rs
        (order_cons x p.key p.value p.same order) (fits_next all p is) run.1 in
        rw t (cc (here, rest)))
        (λ f. let heavy : c ≤ weight x = ltb-false (weight x) c f in
        let rest = light_after past all next later rs order (run.0.heavy heavy ∙ is) run.1 in
        rw f (cc (here, heavy_missed x past heavy, rest)))

    pub held_before_marks_of_light : (rs : List K) (later : List (List (K × V)))
        → IsRunOf (IsPutIfLight eq weight pair_weight c) ([] ∷ later) rs
        → held_before eq ([] ∷ later) rs ≡ marks_of_light eq weight c rs
    unfolding fit
    held_before_marks_of_light rs later = light_after [] [] [] later rs order_none refl

    -- a run of puts by weight holds a key before its put exactly where the request hits by size
    pub held_before_marks_by_size : (rs : List K) (later : List (List (K × V))) → IsSizedPutRun eq pair_weight c ([] ∷ later) rs
        → held_before eq ([] ∷ later) rs ≡ marks_by_size eq weight c rs
    unfolding fit
    held_before_marks_by_size rs later = held_after [] [] [] later rs order_none refl
