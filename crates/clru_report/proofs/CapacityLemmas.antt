-- How the lists of capacities grow by one.
use Rattle.std.proofs.Common.{◌≡◌, ℕ, get_or, length, zero, suc, ◌+◌, ◌-◌, ◌/◌, ◌%◌, ◌<◌, ◌≤◌, Bool, true, false, cond, ◌||◌, nat_le, nat_lt, leb-true, List, [], ◌∷◌, ◌++◌, map, refl, sym, ap, subst, ◌∙◌, zero-add, arith}
use Rattle.std.proofs.Math.Nat.{mul-pos}
use Rattle.std.proofs.lemmas.List.{length-map}
use Rattle.std.proofs.lemmas.List.FromFn.{filter_of_map_range_with_len_more}
use Rattle.std.proofs.lemmas.List.Elements.{Contains-get_or, All-append, All-contains, All-filter, All-from_get_or, All-from_recursion, All-map, All-weaker, filter_agree, filter_passes, recursion_from_All}
use Rattle.std.proofs.lemmas.Bool.{eqb-false}
use Rattle.std.specs.List.{All, AllByRecursion, Contains, filter, range_with_len}
use Rattle.std.specs.Prelude.{◌==◌}
use Rattle.clru_model.proofs.Cases.{split}
use Rattle.clru_text.specs.RoundNumbers.{first_digit, round_number}
use Rattle.clru_text.specs.declared.options.Capacities.{Capacities}
use Rattle.clru_text.specs.declared.options.Capacities.TheVariants.{Usual, Each, Named, HitRatio, ByteHitRatio}
use Rattle.clru_text.proofs.RoundNumbers.{power_positive}
use Rattle.clru_report.specs.Capacities.{capacities_of, is_fall, sized_capacities_of, usual, usual_from}
use Rattle.clru_report.specs.Ratios.{least_with}
use Rattle.clru_report.specs.Refusals.{NamesBelow}
use Rattle.clru_report.proofs.RatioLemmas.{least_alike, least_from}

module _ (p : ℕ → Bool) (f : ℕ → ℕ) where
  -- the numbers of the indices before i that pass
  abbrev pub passing : ℕ → List ℕ
  passing i = filter p (map f (range_with_len 0 i))

  -- the next one passes
  pub passing_one : (i : ℕ) → p (f i) ≡ true → passing (i + 1) ≡ passing i ++ f i ∷ []
  passing_one i h =
      filter_of_map_range_with_len_more p f 0 i i (zero-add i) ∙ ap (λ b. passing i ++ cond b (f i ∷ []) []) h

  -- it does not
  pub passing_none : (i : ℕ) → p (f i) ≡ false → passing (i + 1) ≡ passing i ++ []
  passing_none i h =
      filter_of_map_range_with_len_more p f 0 i i (zero-add i) ∙ ap (λ b. passing i ++ cond b (f i ∷ []) []) h

-- 1, 2 and 5 are no 0, and so no round number is
digit_positive : (k : ℕ) → 0 < first_digit k
digit_positive k =
    split (k == 0)
    (λ t. rw t (omega arith))
    (λ f. split (k == 1) (λ u. rw (f, u) (omega arith)) (λ v. rw (f, v) (omega arith)))

usual_positive : (d : ℕ) → All (λ c. 0 < c) (usual d)
usual_positive d =
    let rounds = All-map (λ c. 0 < c) round_number (range_with_len 0 60)
    (All-from_get_or (λ k. 0 < round_number k) (range_with_len 0 60) 0 (λ i inside.
    let k = get_or (range_with_len 0 60) i 0 in mul-pos (digit_positive (k % 3)) (power_positive (k / 3)))) in
    All-append (λ c. 0 < c) (filter (λ c. nat_lt c d) (map round_number (range_with_len 0 60))) _
    (All-filter (λ c. nat_lt c d) (λ c. 0 < c) (map round_number (range_with_len 0 60)) rounds)
    (split (d == 0)
    (λ t. rw t (All-from_recursion (λ c. 0 < c) [] tt))
    (λ f. rw f (All-from_recursion (λ c. 0 < c) (d ∷ []) (omega (arith, eqb-false d 0 f), tt))))

pub usual_some : (d : ℕ) → AllByRecursion (λ c. 0 < c) (usual d)
usual_some d = recursion_from_All (λ c. 0 < c) (usual d) (usual_positive d)

pub usual_from_some : (g d : ℕ) → AllByRecursion (λ c. 0 < c) (usual_from g d)
usual_from_some g d = recursion_from_All (λ c. 0 < c) (usual_from g d)
    (All-filter (λ c. nat_le g c) (λ c. 0 < c) (usual d) (usual_positive d))

-- where two curves are the same from capacity 1 on, they fall at the same capacities
module _ (m n : ℕ → ℕ) (alike : (k : ℕ) → 0 < k → m k ≡ n k) where
  is_fall-alike : (x : ℕ) → is_fall m (x + 1) ≡ is_fall n (x + 1)
  is_fall-alike zero = refl
  is_fall-alike (suc y) =
      let k = suc y + 1 in
      ap (λ b. (k == 1) || b) (ap (λ l. nat_lt l (m (k - 1))) (alike k (omega arith)) ∙ ap (nat_lt (n k)) (alike (k - 1) (omega arith)))

  filter-alike : (xs : List ℕ) → filter (is_fall m) (map (λ k. k + 1) xs) ≡ filter (is_fall n) (map (λ k. k + 1) xs)
  filter-alike [] = refl
  filter-alike (x ∷ xs) =
      let rest = filter (is_fall m) (map (λ (k : ℕ). k + 1) xs) in
      ap (λ b. cond b ((x + 1) ∷ rest) rest) (is_fall-alike x)
      ∙ ap (λ ys. cond (is_fall n (x + 1)) ((x + 1) ∷ ys) ys) (filter-alike xs)

  pub capacities-alike : {A : Type 0} (asked : Capacities A) (whole d : ℕ) (table : List ℕ)
      → capacities_of asked m whole d table ≡ capacities_of asked n whole d table
  capacities-alike Usual whole d table = refl
  capacities-alike Each whole d table = filter-alike (range_with_len 0 d)
  capacities-alike (Named named) whole d table = refl
  capacities-alike (HitRatio r) whole d table = least_alike r.number whole m n 1 d alike
  capacities-alike (ByteHitRatio r) whole d table = least_alike r.number whole m n 1 d alike

-- what passes of numbers that are shown
pub map-filter : {X : Type 0} (p : ℕ → Bool) (f : X → ℕ) (xs : List X) → map f (filter (λ x. p (f x)) xs) ≡ filter p (map f xs)
map-filter p f [] = refl
map-filter p f (x ∷ xs) =
    split (p (f x))
    (λ t. rw t (ap (λ ns. f x ∷ ns) (map-filter p f xs)))
    (λ u. rw u (map-filter p f xs))

-- curves that are the same everywhere fall at the same capacities, and have the same hit ratios
module _ (m n s t : ℕ → ℕ) (same : (c : ℕ) → m c ≡ n c) (same_size : (c : ℕ) → s c ≡ t c) where
  pub sized-alike : {A : Type 0} (asked : Capacities A) (requests size g d : ℕ) (table : List ℕ)
      → sized_capacities_of asked m s requests size g d table ≡ sized_capacities_of asked n t requests size g d table
  sized-alike Usual requests size g d table = refl
  sized-alike Each requests size g d table =
      filter_agree _ _ (λ c. ap (λ k. (c == g) || nat_lt k (m (c - 1))) (same c) ∙ ap (λ k. (c == g) || nat_lt (n c) k) (same (c - 1))) _
  sized-alike (Named named) requests size g d table = refl
  sized-alike (HitRatio r) requests size g d table = least_alike r.number requests m n g d (λ k _. same k)
  sized-alike (ByteHitRatio r) requests size g d table = least_alike r.number size s t g d (λ k _. same_size k)

-- the usual ones are at least the greatest size, and so are those of their faithful table
pub usual_high : (g d : ℕ) → AllByRecursion (λ c. g ≤ c) (usual_from g d)
usual_high g d = recursion_from_All (λ c. g ≤ c) (usual_from g d)
    (All-weaker (λ c. nat_le g c ≡ true) (λ c. g ≤ c) (λ c t. leb-true g c t) (usual_from g d) (filter_passes (λ c. nat_le g c) (usual d)))

-- a capacity among some that are at least g is so
none_of : (cs : List ℕ) (g n : ℕ) → AllByRecursion (λ c. g ≤ c) cs → n < g → Contains cs n → ⊥
none_of cs g n high low is = omega (arith, low, All-contains (λ c. g ≤ c) cs n (All-from_recursion (λ c. g ≤ c) cs high) is)

-- each of them but those that are named is at least the greatest size
pub none_below : {A : Type 0} (asked : Capacities A) (m s : ℕ → ℕ) (requests size g d n : ℕ) (table : List ℕ)
    → AllByRecursion (λ c. g ≤ c) table → n < g
    → Contains (sized_capacities_of asked m s requests size g d table) n → NamesBelow asked g
none_below Usual m s requests size g d n table high low is = none_of table g n high low is
none_below Each m s requests size g d n table high low is =
    let high : g ≤ n = All-contains (λ c. g ≤ c) _ n (All-filter (λ c. (c == g) || nat_lt (m c) (m (c - 1))) (λ c. g ≤ c) _
    (All-map (λ c. g ≤ c) (λ (k : ℕ). g + k) (range_with_len 0 (d + 1 - g)) (All-from_get_or (λ k. g ≤ g + k) _ 0 (λ i inside. omega arith)))) is in
    omega (arith, low, high)
none_below (Named named) m s requests size g d n table high low is = (n, is, low)
none_below (HitRatio r) m s requests size g d n table high low is =
    none_of (least_with r.number requests m g d) g n (least_from r.number requests m g d) low is
none_below (ByteHitRatio r) m s requests size g d n table high low is =
    none_of (least_with r.number size s g d) g n (least_from r.number size s g d) low is

-- what is at an index is shown among all
shown_at : {X : Type 0} (f : X → ℕ) (xs : List X) (i : ℕ) (x : X) → get_or (map f xs) i (f x) ≡ f (get_or xs i x)
shown_at f [] i x = refl
shown_at f (y ∷ xs) zero x = refl
shown_at f (y ∷ xs) (suc i) x = shown_at f xs i x

pub contains_shown : {X : Type 0} (f : X → ℕ) (xs : List X) (i : ℕ) (x : X) → i < length xs → x ≡ get_or xs i x → Contains (map f xs) (f x)
contains_shown f xs i x inside is =
    subst (Contains (map f xs)) (shown_at f xs i x ∙ ap f (sym is))
    (Contains-get_or (map f xs) i (f x) (subst (λ n. i < n) (sym (length-map xs f)) inside))
