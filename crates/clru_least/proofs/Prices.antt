-- The hits that a budget pays for, the cheapest first, beside the most that any price says.
use Rattle.std.proofs.Common.{◌≡◌, ℕ, zero, suc, ◌+◌, ◌-◌, ◌*◌, ◌/◌, ◌%◌, ◌<◌, ◌≤◌, List, [], ◌∷◌, length, get_or, take, drop, inl, inr, refl, sym, ap, ◌∙◌, subst, arith, mul-le-mul_left, mul-le-mul_right}
use Rattle.std.proofs.Math.Nat.{max-le}
use Rattle.std.proofs.lemmas.Bool.{cases_lt}
use Rattle.std.proofs.lemmas.List.{get_or-take, get_or-drop, get_or_default, length-take-le, length-drop}
use Rattle.std.proofs.lemmas.List.Sums.{sum_by-cons, sum_by-take-drop, sum_by-drop_more, sum_by_more, sum_by-take-le}
use Rattle.std.proofs.lemmas.Nat.{div_below, le-div, div-add-mod'}
use Rattle.std.specs.List.{AllByRecursion, Contains, sum_by}
use Rattle.std.specs.List.Sorted.{IsNonDecreasingBy}
use Rattle.clru_model.specs.Floor.{greatest_of}

-- the greatest of numbers of which none is above m, and one is not below
pub greatest_is : (f : ℕ → ℕ) (n m : ℕ) (gs : List ℕ) → n ≤ m → AllByRecursion (λ g. f g ≤ m) gs
    → (i d : ℕ) → i < length gs → m ≤ f (get_or gs i d) → greatest_of f n gs ≡ m
greatest_is f n m gs first all i d inside here =
    omega (arith, greatest_below gs all, greatest_above gs i inside here)
  where
    greatest_below : (gs : List ℕ) → AllByRecursion (λ g. f g ≤ m) gs → greatest_of f n gs ≤ m
    greatest_below [] all = first
    greatest_below (g ∷ gs) all = max-le all.0 (greatest_below gs all.1)

    greatest_above : (gs : List ℕ) (i : ℕ) → i < length gs → m ≤ f (get_or gs i d) → m ≤ greatest_of f n gs
    greatest_above [] i inside here = omega (arith, inside)
    greatest_above (g ∷ gs) zero inside here = omega (arith, here)
    greatest_above (g ∷ gs) (suc i) inside here = let rest = greatest_above gs i (omega (arith, inside)) here in omega (arith, rest)

-- and where the number n is the greatest
pub greatest_first : (f : ℕ → ℕ) (n : ℕ) (gs : List ℕ) → AllByRecursion (λ g. f g ≤ n) gs → greatest_of f n gs ≡ n
greatest_first f n [] all = refl
greatest_first f n (g ∷ gs) all = let rest = greatest_first f n gs all.1 in omega (arith, rest, all.0)

module _ {T : Type 0} (price worth : T → ℕ) where
  abbrev pub cost : T → ℕ
  cost t = price t * worth t

  -- by how much a price for each worth is above the cost
  abbrev pub spared : ℕ → List T → ℕ
  spared g ts = sum_by (λ t. g * worth t - price t * worth t) ts

  paid_all : (g : ℕ) (ts : List T) → g * sum_by worth ts ≤ spared g ts + sum_by cost ts
  paid_all g [] = omega arith
  paid_all g (t ∷ ts) =
      let rest = paid_all g ts in
      let whole : g * sum_by worth (t ∷ ts) ≡ g * (worth t + sum_by worth ts) = ap (λ n. g * n) (sum_by-cons worth t ts) in
      omega (arith, rest, whole, sum_by-cons (λ t. g * worth t - price t * worth t) t ts, sum_by-cons cost t ts)

  paid_one : (g p w r : ℕ) → r ≤ w → g * r ≤ (g * w - p * w) + p * r
  paid_one g p w r few = elim (cases_lt g p) [
    | inl less ↦ omega (arith, mul-le-mul_right r (let le : g ≤ p = omega (arith, less) in le))
    | inr more ↦
        let d : ℕ = g - p in
        let e : g ≡ p + d = omega (arith, more) in
        let er : g * r ≡ (p + d) * r = ap (λ n. n * r) e in
        let ew : g * w ≡ (p + d) * w = ap (λ n. n * w) e in
        let le : d * r ≤ d * w = mul-le-mul_left d few in
        omega (arith, er, ew, le)
  ]

  -- whatever the price: the first k and a part of the next, that the budget pays for
  pub paid_part : (g k r b : ℕ) (d : T) (ts : List T) → k < length ts → r ≤ worth (get_or ts k d)
      → sum_by cost (take k ts) + price (get_or ts k d) * r ≤ b → g * (sum_by worth (take k ts) + r) ≤ spared g ts + b
  paid_part g k r b d ts inside few fits =
      let front = paid_all g (take k ts) in
      let cut = sum_by-take-drop (λ t. g * worth t - price t * worth t) ts k in
      let next = sum_by-drop_more (λ t. g * worth t - price t * worth t) ts k d inside in
      let own = paid_one g (price (get_or ts k d)) (worth (get_or ts k d)) r few in
      omega (arith, front, cut, next, own, fits)

  spared_below : (g : ℕ) (ts : List T) → ((i : ℕ) (d : T) → i < length ts → price (get_or ts i d) ≤ g)
      → spared g ts + sum_by cost ts ≡ g * sum_by worth ts
  spared_below g [] below = omega arith
  spared_below g (t ∷ ts) below =
      let rest = spared_below g ts (λ i d low. below (suc i) d (omega (arith, low))) in
      let here : price t ≤ g = below 0 t (omega arith) in
      let le : price t * worth t ≤ g * worth t = mul-le-mul_right (worth t) here in
      let whole : g * sum_by worth (t ∷ ts) ≡ g * (worth t + sum_by worth ts) = ap (λ n. g * n) (sum_by-cons worth t ts) in
      omega (arith, rest, le, whole, sum_by-cons (λ t. g * worth t - price t * worth t) t ts, sum_by-cons cost t ts)

  spared_above : (g : ℕ) (ts : List T) → ((i : ℕ) (d : T) → i < length ts → g ≤ price (get_or ts i d)) → spared g ts ≡ 0
  spared_above g [] above = refl
  spared_above g (t ∷ ts) above =
      let rest = spared_above g ts (λ i d low. above (suc i) d (omega (arith, low))) in
      let here : g ≤ price t = above 0 t (omega arith) in
      let le : g * worth t ≤ price t * worth t = mul-le-mul_right (worth t) here in
      omega (arith, rest, le, sum_by-cons (λ t. g * worth t - price t * worth t) t ts)

  -- at the price of the next it is no more than these
  pub spared_next : (k : ℕ) (d : T) (ts : List T) → IsNonDecreasingBy price ts → k < length ts
      → spared (price (get_or ts k d)) ts + sum_by cost (take k ts) ≡ price (get_or ts k d) * sum_by worth (take k ts)
  spared_next k d ts rising inside =
      let g : ℕ = price (get_or ts k d) in
      let few : length (take k ts) ≡ k = length-take-le k ts (omega (arith, inside)) in
      let front = spared_below g (take k ts) (λ i e low.
      let lt : i < k = omega (arith, low, few) in
      let up = rising i k d (omega (arith, lt)) inside in
      let at = ap price (get_or-take k ts i e lt ∙ get_or_default ts i e d (omega (arith, lt, inside))) in
      omega (arith, up, at)) in
      let back = spared_above g (drop k ts) (λ i e low.
      let lt : k + i < length ts = omega (arith, low, length-drop k ts) in
      let up = rising k (k + i) d (omega arith) lt in
      let at = ap price (get_or-drop k ts i e ∙ get_or_default ts (k + i) e d lt) in
      omega (arith, up, at)) in
      let cut = sum_by-take-drop (λ t. g * worth t - price t * worth t) ts k in
      omega (arith, front, back, cut)

  -- the most that a price says, of what is not among them
  module _ (s b : ℕ) (most : ℕ → ℕ) (ts : List T) (said : (g : ℕ) → most g ≡ (spared g ts + b) / g) where
    -- where the budget pays for all
    pub greatest_all : (n : ℕ) (gs : List ℕ) → sum_by cost ts ≤ b → n ≡ s - sum_by worth ts → AllByRecursion (λ g. 1 ≤ g) gs
        → greatest_of (λ g. s - most g) n gs ≡ n
    greatest_all n gs fits first some = greatest_first (λ g. s - most g) n gs (each gs some)
      where
        each : (gs : List ℕ) → AllByRecursion (λ g. 1 ≤ g) gs → AllByRecursion (λ g. s - most g ≤ n) gs
        each [] some = tt
        each (g ∷ gs) some =
            let paid = paid_all g ts in
            let many : sum_by worth ts ≤ (spared g ts + b) / g = le-div (sum_by worth ts) (spared g ts + b) g some.0 (omega (arith, paid, fits)) in
            (omega (arith, many, said g, first), each gs some.1)

    -- where it pays for the first k alone, and for a part of the next
    pub greatest_part : (k n : ℕ) (d : T) (gs : List ℕ) → IsNonDecreasingBy price ts → k < length ts
        → sum_by cost (take k ts) ≤ b → b < sum_by cost (take (k + 1) ts) → s - sum_by worth ts ≡ n → AllByRecursion (λ g. 1 ≤ g) gs
        → 1 ≤ price (get_or ts k d) → Contains gs (price (get_or ts k d))
        → greatest_of (λ g. s - most g) n gs
        ≡ s - (sum_by worth (take k ts) + (b - sum_by cost (take k ts)) / price (get_or ts k d))
    greatest_part k n d gs rising inside fits stops first some pos among =
        let p : ℕ = price (get_or ts k d) in
        let whole : ℕ = sum_by worth (take k ts) in
        let left : ℕ = b - sum_by cost (take k ts) in
        let part : ℕ = left / p in
        let next = sum_by_more cost ts k d inside in
        let more = sum_by_more worth ts k d inside in
        let all = sum_by-take-le worth ts (k + 1) in
        let turned : worth (get_or ts k d) * p ≡ p * worth (get_or ts k d) = omega arith in
        let few : part < worth (get_or ts k d) = div_below left p (worth (get_or ts k d)) pos (omega (arith, next, stops, fits, turned)) in
        let parted : part * p + left % p ≡ left = div-add-mod' left p in
        let rest : left % p < p = omega (arith, pos) in
        let spent = spared_next k d ts rising inside in
        let reached : (spared p ts + b) / p < suc (whole + part) =
        div_below (spared p ts + b) p (suc (whole + part)) pos (omega (arith, spent, fits, parted, rest)) in
        greatest_is (λ g. s - most g) n (s - (whole + part)) gs (omega (arith, first, more, few, all)) (each (whole + part)
        (λ g. paid_part g k part b d ts inside (omega (arith, few)) (omega (arith, parted, fits))) gs some) among.0 p among.1
        (subst (λ g. s - (whole + part) ≤ s - most g) (sym among.2) (omega (arith, said p, reached)))
      where
        each : (m : ℕ) → ((g : ℕ) → g * m ≤ spared g ts + b) → (gs : List ℕ) → AllByRecursion (λ g. 1 ≤ g) gs
            → AllByRecursion (λ g. s - most g ≤ s - m) gs
        each m paid [] some = tt
        each m paid (g ∷ gs) some =
            let many : m ≤ (spared g ts + b) / g = le-div m (spared g ts + b) g some.0 (omega (arith, paid g)) in
            (omega (arith, many, said g), each m paid gs some.1)
