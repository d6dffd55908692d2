-- One row more leads to the best splits of one curve more.
use Rattle.std.proofs.Common.{◌≡◌, ℕ, ◌+◌, ◌-◌, ◌*◌, ◌/◌, ◌<◌, ◌≤◌, List, [], ◌∷◌, ◌++◌, length, get_or, Option, Some, None, inl, inr, refl, sym, ap, ◌∙◌, subst, arith}
use Rattle.std.specs.Prelude.{sum, IsSome, unwrap_or}
use Rattle.std.proofs.lemmas.Bool.{cases_lt}
use Rattle.std.proofs.lemmas.List.{get_or_append_left, get_or_push}
use Rattle.std.proofs.lemmas.List.Sums.{sum_by-cons}
use Rattle.std.proofs.lemmas.Nat.{mul-le, le-div}
use Rattle.std.proofs.Math.Nat.{add-mul, div-mul-le_self}
use Rattle.clru_curve.specs.Splits.{missed_at, AreParts, total_missed, IsSplit, IsBestSplit, IsFirstBest, ComesFirst}
use Rattle.clru_curve.specs.Rows.{IsMinimum, IsLeastAt, IsRow, Leads, AreChoices}

-- what holds at each index of two lists still does when each has one more
pub both_more : (R : ℕ → ℕ → ℕ → Type 0) (n : ℕ) (vs xs : List ℕ) (v x : ℕ) → length vs ≡ n → length xs ≡ n
    → ((j : ℕ) → j < n → R j (get_or vs j 0) (get_or xs j 0)) → R n v x
    → (j : ℕ) → j < n + 1 → R j (get_or (vs ++ v ∷ []) j 0) (get_or (xs ++ x ∷ []) j 0)
both_more R n vs xs v x lv lx each last j below = elim (cases_lt j n) [
  | inl lt ↦
      rw (get_or_append_left vs (v ∷ []) 0 j (omega (arith, lt, lv)), get_or_append_left xs (x ∷ []) 0 j (omega (arith, lt, lx))) (each j lt)
  | inr ge ↦
      let same : n ≡ j = omega (arith, ge, below) in
      rw (get_or_push vs v 0 j (lv ∙ same), get_or_push xs x 0 j (lx ∙ same)) (subst (λ i. R i v x) same last)
]

pub sum-cons : (x : ℕ) (xs : List ℕ) → sum (x ∷ xs) ≡ x + sum xs
sum-cons x xs = sum_by-cons (λ y. y) x xs

-- the units that are left are a difference
pub units_left : (s x n : ℕ) → x ≤ n → (n - x) * s + x * s ≡ n * s
units_left s x n within = let whole : n ≡ (n - x) + x = omega (arith, within) in sym (ap (λ k. k * s) whole ∙ add-mul (n - x) x s)

-- as many units fit as their size says
pub units_fit : (s x n : ℕ) → 0 < s → x * s ≤ n * s → x ≤ n
units_fit s x n some fits = elim (cases_lt n x) [
  | inl lt ↦
      let more : (n + 1) * s ≤ x * s = mul-le (n + 1) s x s (omega (arith, lt)) (omega arith) in
      let one : (n + 1) * s ≡ n * s + 1 * s = add-mul n 1 s in
      absurd (omega (arith, more, one, fits, some))
  | inr ge ↦ ge
]

some_of : (o : Option ℕ) → IsSome o → (p : ℕ) × (o ≡ Some p)
some_of None is = let bad : ⊥ = cc in elim bad [ ]
some_of (Some p) is = (p, refl)

module _ {C : Type 0} (all : C → ℕ) (missed : C → ℕ → Option ℕ) (step : ℕ) where
  -- with no curve nothing misses
  pub best_none : (budget : ℕ) → IsBestSplit all missed step budget [] []
  best_none n = record { split = record { parts = tt; within = omega arith }; least = λ others s. omega arith }

  pub least_none : (n v : ℕ) → v ≡ 0 → IsLeastAt all missed step [] n v
  least_none n v none = record { capacities = []; best = best_none (n * step); total = sym none }

module _ {C : Type 0} (all : C → ℕ) (missed : C → ℕ → Option ℕ) (step : ℕ) (positive : 0 < step) where
  -- each best split misses as much as any
  same_total : (cs : List C) (n v : ℕ) (ks : List ℕ) → IsLeastAt all missed step cs n v
      → IsBestSplit all missed step (n * step) cs ks → total_missed all missed cs ks ≡ v
  same_total cs n v ks is b =
      omega (arith, is.best.least ks b.split, b.least is.capacities is.best.split, is.total)

  module _ (c : C) (cs : List C) (row : List ℕ) (price : ℕ → Option ℕ) (n v x : ℕ) (inside : n < length row)
      (is : IsRow all missed step cs row) (priced : (y : ℕ) → y ≤ n → price y ≡ missed_at all missed c (y * step))
      (min : IsMinimum price row n v x) where
    -- no other choice misses less
    least_of : (others : List ℕ) → IsSplit all missed step (n * step) (c ∷ cs) others
        → v ≤ total_missed all missed (c ∷ cs) others
    least_of [] s = elim s.parts [ ]
    least_of (k ∷ ks) s =
        let part = s.parts.0 in let y = part.units in
        let one = some_of (missed_at all missed c k) part.has_number in
        let whole = sum-cons k ks in
        let fits : y * step ≤ n * step = omega (arith, part.multiple, whole, s.within) in
        let within : y ≤ n = units_fit step y n positive fits in
        let rest = units_left step y n within in
        let at : price y ≡ Some one.0 = priced y within ∙ ap (λ j. missed_at all missed c j) (sym part.multiple) ∙ one.1 in
        let others = is (n - y) (omega (arith, inside)) in
        let low = others.best.least ks (record { parts = s.parts.1; within = omega (arith, part.multiple, whole, s.within, rest) }) in
        let here : unwrap_or (missed_at all missed c k) 0 ≡ one.0 = ap (λ o. unwrap_or o 0) one.1 in
        omega (arith, min.least y one.0 within at, low, others.total, here)

    -- the price that is chosen
    price_is : missed_at all missed c (x * step) ≡ Some min.attained.0
    price_is = sym (priced x min.within) ∙ min.attained.1

    total_of : (ks : List ℕ) → IsBestSplit all missed step ((n - x) * step) cs ks
        → total_missed all missed (c ∷ cs) (x * step ∷ ks) ≡ v
    total_of ks b =
        let here : unwrap_or (missed_at all missed c (x * step)) 0 ≡ min.attained.0 = ap (λ o. unwrap_or o 0) price_is in
        let rest = same_total cs (n - x) (get_or row (n - x) 0) ks (is (n - x) (omega (arith, inside))) b in
        omega (arith, here, rest, min.attained.2)

    best_one : (ks : List ℕ) → IsBestSplit all missed step ((n - x) * step) cs ks
        → IsBestSplit all missed step (n * step) (c ∷ cs) (x * step ∷ ks)
    best_one ks b =
        let whole = sum-cons (x * step) ks in
        record {
          split = record {
            parts = (record { units = x; multiple = refl; has_number = subst (λ o. IsSome o) (sym price_is) refl }, b.split.parts);
            within = omega (arith, whole, b.split.within, units_left step x n min.within);
          };
          least = λ others s. omega (arith, least_of others s, total_of ks b);
        }

    -- a best split gives the first curve no fewer units, and if as many, the others a best split of the rest
    first_one : (ks : List ℕ) → IsBestSplit all missed step ((n - x) * step) cs ks → IsFirstBest all missed step ((n - x) * step) cs ks
        → IsFirstBest all missed step (n * step) (c ∷ cs) (x * step ∷ ks)
    first_one ks b f [] o = elim o.split.parts [ ]
    first_one ks b f (k ∷ js) o =
        let s = o.split in let part = s.parts.0 in let y = part.units in
        let one = some_of (missed_at all missed c k) part.has_number in
        let whole = sum-cons k js in
        let fits : y * step ≤ n * step = omega (arith, part.multiple, whole, s.within) in
        let within : y ≤ n = units_fit step y n positive fits in
        let at : price y ≡ Some one.0 = priced y within ∙ ap (λ j. missed_at all missed c j) (sym part.multiple) ∙ one.1 in
        let there = is (n - y) (omega (arith, inside)) in
        let low = there.best.least js (record { parts = s.parts.1; within = omega (arith, part.multiple, whole, s.within, units_left step y n within) }) in
        let here : unwrap_or (missed_at all missed c k) 0 ≡ one.0 = ap (λ o. unwrap_or o 0) one.1 in
        let mine = best_one ks b in
        let same : total_missed all missed (c ∷ cs) (k ∷ js) ≡ v =
        omega (arith, o.least (x * step ∷ ks) mine.split, mine.least (k ∷ js) s, total_of ks b) in
        elim (cases_lt y x) [
          | inl fewer ↦ absurd (omega (arith, min.first y one.0 fewer at, low, there.total, here, same))
          | inr many ↦ elim (cases_lt x y) [
            | inl more ↦
                let next : (x + 1) * step ≤ y * step = mul-le (x + 1) step y step (omega (arith, more)) (omega arith) in
                inl (omega (arith, next, add-mul x 1 step, part.multiple, positive))
            | inr few ↦
                let equal : y ≡ x = omega (arith, many, few) in
                let own : one.0 ≡ min.attained.0 = ap (λ o. unwrap_or o 0) (sym at ∙ ap price equal ∙ min.attained.1) in
                let rest = is (n - x) (omega (arith, inside)) in
                let as_much : y * step ≡ x * step = ap (λ u. u * step) equal in
                inr (
                  sym (part.multiple ∙ as_much),
                  f js (record {
                    split = record {
                      parts = s.parts.1;
                      within = omega (arith, as_much, part.multiple, whole, s.within, units_left step x n min.within);
                    };
                    least = λ ls t. omega (arith, rest.best.least ls t, rest.total, min.attained.2, own, here, same);
                  }),
                )
          ]
        ]

    pub leads : Leads all missed step c cs n x
    leads = record { within = min.within; best = best_one; first = first_one }

    pub least_at : IsLeastAt all missed step (c ∷ cs) n v
    least_at =
        let rest = is (n - x) (omega (arith, inside)) in
        record {
          capacities = x * step ∷ rest.capacities;
          best = leads.best rest.capacities rest.best;
          total = total_of rest.capacities rest.best;
        }

  -- the next row, and its choices
  module _ (c : C) (cs : List C) (w : ℕ) (row next added : List ℕ) (prices : List (Option ℕ)) (wide : length row ≡ w)
      (is : IsRow all missed step cs row)
      (priced : (y : ℕ) → y < w → get_or prices y None ≡ missed_at all missed c (y * step))
      (min : (j : ℕ) → j < w → IsMinimum (λ y. get_or prices y None) row j (get_or next j 0) (get_or added j 0)) where
    pub row_next : length next ≡ w → IsRow all missed step (c ∷ cs) next
    row_next same j inside =
        least_at c cs row (λ y. get_or prices y None) j (get_or next j 0) (get_or added j 0) (omega (arith, inside, same, wide)) is
        (λ y low. priced y (omega (arith, low, inside, same))) (min j (omega (arith, inside, same)))

    pub choices_next : (before : List ℕ) → length added ≡ w → AreChoices all missed step w cs before
        → AreChoices all missed step w (c ∷ cs) (before ++ added)
    choices_next before same chosen = (
      before,
      added,
      refl,
      same,
      chosen,
      λ j inside. leads c cs row (λ y. get_or prices y None) j (get_or next j 0) (get_or added j 0) (omega (arith, inside, wide)) is
          (λ y low. priced y (omega (arith, low, inside))) (min j inside),
    )

  -- multiples of the step sum up to one
  sum_units : (cs : List C) (ks : List ℕ) → AreParts all missed step cs ks → (n : ℕ) × (sum ks ≡ n * step)
  sum_units [] [] parts = (0, omega arith)
  sum_units [] (k ∷ ks) parts = elim parts [ ]
  sum_units (c ∷ cs) [] parts = elim parts [ ]
  sum_units (c ∷ cs) (k ∷ ks) parts =
      let rest = sum_units cs ks parts.1 in let x = parts.0.units in
      (x + rest.0, omega (arith, sum-cons k ks, parts.0.multiple, rest.1, add-mul x rest.0 step))

  -- what is left of the budget above its units is of no use
  pub best_of_budget : (budget : ℕ) (cs : List C) (ks : List ℕ) → IsBestSplit all missed step (budget / step * step) cs ks
      → IsBestSplit all missed step budget cs ks
  best_of_budget budget cs ks b =
      let under = div-mul-le_self budget step in
      record {
        split = record { parts = b.split.parts; within = omega (arith, under, b.split.within) };
        least = λ others s.
            let units = sum_units cs others s.parts in
            let few : units.0 ≤ budget / step = le-div units.0 budget step positive (omega (arith, units.1, s.within)) in
            b.least others (record { parts = s.parts; within = omega (arith, units.1, mul-le units.0 step (budget / step) step few (omega arith)) });
      }

  pub first_of_budget : (budget : ℕ) (cs : List C) (ks : List ℕ) → IsFirstBest all missed step (budget / step * step) cs ks
      → IsFirstBest all missed step budget cs ks
  first_of_budget budget cs ks f others o =
      let under = div-mul-le_self budget step in
      let units = sum_units cs others o.split.parts in
      let few : units.0 ≤ budget / step = le-div units.0 budget step positive (omega (arith, units.1, o.split.within)) in
      f others (record {
        split = record {
          parts = o.split.parts;
          within = omega (arith, units.1, mul-le units.0 step (budget / step) step few (omega arith));
        };
        least = λ ls s. o.least ls (record { parts = s.parts; within = omega (arith, under, s.within) });
      })
