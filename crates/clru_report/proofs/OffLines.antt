-- How far points lie off a straight line, and which of the capacities that were looked at lies furthest off.
use Rattle.std.proofs.Common.{◌≡◌, ℕ, ◌+◌, ◌-◌, ◌*◌, ◌/◌, ◌<◌, ◌≤◌, ◌⊎◌, inl, inr, refl, sym, ap, subst, ◌∙◌, arith}
use Rattle.std.proofs.Math.Nat.{mul-le-mul_right, sub_self}
use Rattle.std.proofs.lemmas.Bool.{cases_lt}
use Rattle.clru_report.specs.Faithful.{IsFurthest, IsNearLine, apart, off, off_at, point, point_at}
use Rattle.clru_report.specs.Scans.{IsGreatestOf}

apart_self : (x y : ℕ) → y ≡ 0 → apart x (x + y) ≡ 0
apart_self x y none = omega (arith, none)

-- the left end lies on the line
pub off_start : (m : ℕ → ℕ) (a b : ℕ) → off_at m a b a ≡ 0
off_start m a b =
    let none : m b * (a - a) ≡ 0 = ap (λ n. m b * n) (sub_self a) ∙ omega arith in
    apart_self (m a * (b - a)) (m b * (a - a)) none

-- of three points on a line the outer ones lie further from a number than the middle one
apart_falls : (w p q r : ℕ) → q ≤ p → r < q → apart w p < apart w q → apart w q < apart w r
apart_falls w p q r left right more = omega (arith, left, right, more)

apart_rises : (w p q r : ℕ) → p ≤ q → q < r → apart w p < apart w q → apart w q < apart w r
apart_rises w p q r left right more = omega (arith, left, right, more)

-- where the misses stay the same none but the ends lie furthest off
apart_line : (A B w e i j u : ℕ) → 0 < j → apart w (A * (u + j + i) + B * e) < apart w (A * (u + j) + B * (e + i))
    → apart w (A * (u + j) + B * (e + i)) < apart w (A * u + B * (e + i + j))
apart_line A B w e i j u some =
    let p : ℕ = A * (u + j + i) + B * e in let q : ℕ = A * (u + j) + B * (e + i) in let r : ℕ = A * u + B * (e + i + j) in
    elim (cases_lt A B) [
      | inl less ↦
          let at_i = mul-le-mul_right i less in let at_j = mul-le-mul_right j less in
          apart_rises w p q r (omega (arith, at_i)) (omega (arith, at_j, some))
      | inr more ↦ elim (cases_lt B A) [
        | inl less ↦
            let at_i = mul-le-mul_right i less in let at_j = mul-le-mul_right j less in
            apart_falls w p q r (omega (arith, at_i)) (omega (arith, at_j, some))
        | inr same ↦
            let equal : A ≡ B = omega (arith, more, same) in
            λ further. let none : p ≡ q = ap (λ n. n * (u + j + i) + B * e) equal ∙ omega arith ∙ ap (λ n. n * (u + j) + B * (e + i)) (sym equal) in
            omega (arith, further, ap (apart w) none)
      ]
    ]

-- between two capacities at which as much misses, one that lies further off than the first lies less far off than the last
pub off_piece : (m : ℕ → ℕ) (a b first y last : ℕ) → a ≤ first → first ≤ y → y < last → last < b → m first ≡ m last → m y ≡ m last
    → off_at m a b first < off_at m a b y → off_at m a b y < off_at m a b last
off_piece m a b first y last low from below high left middle further =
    let e : ℕ = first - a in let i : ℕ = y - first in let j : ℕ = last - y in let u : ℕ = b - last in
    let w : ℕ = m last * (b - a) in
    let line : (A x p q : ℕ) → m x ≡ A → b - x ≡ p → x - a ≡ q → off_at m a b x ≡ apart (A * (b - a)) (m a * p + m b * q) =
    λ A x p q is to of. ap (λ n. apart (n * (b - a)) (m a * (b - x) + m b * (x - a))) is
    ∙ ap (λ n. apart (A * (b - a)) (m a * n + m b * (x - a))) to ∙ ap (λ n. apart (A * (b - a)) (m a * p + m b * n)) of in
    let one = line (m last) first (u + j + i) e left (omega (arith, low, from, below, high)) refl in
    let two = line (m last) y (u + j) (e + i) middle (omega (arith, low, from, below, high)) (omega (arith, low, from, below, high)) in
    let three = line (m last) last u (e + i + j) refl refl (omega (arith, low, from, below, high)) in
    subst (λ n. off_at m a b y < n) (sym three)
    (subst (λ n. n < apart w (m a * u + m b * (e + i + j))) (sym two)
    (apart_line (m a) (m b) w e i j u (omega (arith, below))
    (subst (λ n. n < apart w (m a * (u + j) + m b * (e + i))) one (subst (λ n. off_at m a b first < n) two further))))

-- a number between two others lies no further off than one of them
apart_between : (w x p q n : ℕ) → ((p ≤ x) × (x ≤ q)) ⊎ ((q ≤ x) × (x ≤ p)) → apart w p ≤ n → apart w q ≤ n → apart w x ≤ n
apart_between w x p q n (inl between) left right = omega (arith, between.0, between.1, left, right)
apart_between w x p q n (inr between) left right = omega (arith, between.0, between.1, left, right)

-- a line falls or rises
line_between : (A B e i j u : ℕ) → let p : ℕ = A * (u + j + i) + B * e in let x : ℕ = A * (u + j) + B * (e + i) in let q : ℕ = A * u + B * (e + i + j) in
    ((p ≤ x) × (x ≤ q)) ⊎ ((q ≤ x) × (x ≤ p))
line_between A B e i j u = elim (cases_lt A B) [
  | inl less ↦
      let at_i = mul-le-mul_right i less in let at_j = mul-le-mul_right j less in
      inl (omega (arith, at_i), omega (arith, at_j))
  | inr more ↦
      let at_i = mul-le-mul_right i more in let at_j = mul-le-mul_right j more in
      inr (omega (arith, at_j), omega (arith, at_i))
]

-- within a rectangle none lies further off than a corner
pub off_within : (m : ℕ → ℕ) (a b low high greatest least y n : ℕ) → a ≤ low → high ≤ b → low ≤ y → y < high → least ≤ m y → m y ≤ greatest
    → off (point_at m a) (point_at m b) (point low greatest) ≤ n → off (point_at m a) (point_at m b) (point high greatest) ≤ n
    → off (point_at m a) (point_at m b) (point low least) ≤ n → off (point_at m a) (point_at m b) (point high least) ≤ n
    → off_at m a b y ≤ n
off_within m a b low high greatest least y n left right from below up down one two three four =
    let e : ℕ = low - a in let i : ℕ = y - low in let j : ℕ = high - y in let u : ℕ = b - high in
    let L : ℕ = b - a in
    let line : (x p q : ℕ) → b - x ≡ p → x - a ≡ q → m a * (b - x) + m b * (x - a) ≡ m a * p + m b * q =
    λ x p q to of. ap (λ k. m a * k + m b * (x - a)) to ∙ ap (λ k. m a * p + m b * k) of in
    let at_low = line low (u + j + i) e (omega (arith, left, right, from, below)) refl in
    let at_y = line y (u + j) (e + i) (omega (arith, right, below)) (omega (arith, left, from)) in
    let at_high = line high u (e + i + j) refl (omega (arith, left, from, below)) in
    let between = line_between (m a) (m b) e i j u in
    let w : ℕ = m y * L in
    let p : ℕ = m a * (u + j + i) + m b * e in let x : ℕ = m a * (u + j) + m b * (e + i) in let q : ℕ = m a * u + m b * (e + i + j) in
    let high_w : w ≤ greatest * L = mul-le-mul_right L down in
    let low_w : least * L ≤ w = mul-le-mul_right L up in
    let left_is : apart w p ≤ n = omega (arith, high_w, low_w, subst (λ k. apart (greatest * L) k ≤ n) at_low one, subst (λ k. apart (least * L) k ≤ n) at_low three) in
    let right_is : apart w q ≤ n = omega (arith, high_w, low_w, subst (λ k. apart (greatest * L) k ≤ n) at_high two, subst (λ k. apart (least * L) k ≤ n) at_high four) in
    subst (λ k. apart w k ≤ n) (sym at_y) (apart_between w x p q n between left_is right_is)

-- one more is looked at
module _ (f : ℕ → ℕ) (a b k best most c : ℕ) (is : IsGreatestOf f a b k best most) (low : a ≤ c) (high : c < b) (reach : k ≤ c + 1)
    (gap : (y : ℕ) → k ≤ y → y < c → most < f y → f y < f c) where
  before : (n : ℕ) → most ≤ n → f c ≤ n → (y : ℕ) → a ≤ y → y < c + 1 → f y ≤ n
  before n at_most at_c y from below = elim (cases_lt y k) [
    | inl early ↦ omega (arith, is.covered y from early, at_most)
    | inr late ↦ elim (cases_lt y c) [
      | inl between ↦ elim (cases_lt most (f y)) [
        | inl more ↦ omega (arith, gap y late between more, at_c)
        | inr less ↦ omega (arith, less, at_most)
      ]
      | inr beyond ↦ let same : y ≡ c = omega (arith, below, beyond) in omega (arith, ap f same, at_c)
    ]
  ]

  -- it is the greatest
  pub greater : most < f c → IsGreatestOf f a b (c + 1) c (f c)
  greater more = record {
    is = refl;
    low = low;
    high = high;
    covered = before (f c) (omega (arith, more)) (omega arith);
    first = λ y from below. elim (cases_lt y k) [
      | inl early ↦ omega (arith, is.covered y from early, more)
      | inr late ↦ elim (cases_lt most (f y)) [
        | inl up ↦ gap y late below up
        | inr down ↦ omega (arith, down, more)
      ]
    ];
  }

  -- it is not
  pub no_greater : f c ≤ most → IsGreatestOf f a b (c + 1) best most
  no_greater less = record {
    is = is.is;
    low = is.low;
    high = is.high;
    covered = before most (omega arith) less;
    first = is.first;
  }

-- what lies no further off need not be looked at
pub greatest_on : (f : ℕ → ℕ) (a b k n best most : ℕ) → IsGreatestOf f a b k best most → ((y : ℕ) → k ≤ y → y < n → f y ≤ most)
    → IsGreatestOf f a b n best most
greatest_on f a b k n best most is near = record {
  is = is.is;
  low = is.low;
  high = is.high;
  covered = λ y from below. elim (cases_lt y k) [
    | inl early ↦ is.covered y from early
    | inr late ↦ near y late below
  ];
  first = is.first;
}

-- f, but for a, to which c is added
abbrev pub raised_at : ℕ → ℕ → (ℕ → ℕ) → ℕ → ℕ
raised_at a c f y = f y + c * (a + 1 - y)

pub raised_above : (a c : ℕ) (f : ℕ → ℕ) (y : ℕ) → a < y → raised_at a c f y ≡ f y
raised_above a c f y above =
    let none : a + 1 - y ≡ 0 = omega (arith, above) in
    let all : c * (a + 1 - y) ≡ 0 = ap (λ n. c * n) none ∙ omega arith in
    omega (arith, all)

raised_here : (a c : ℕ) (f : ℕ → ℕ) → f a ≡ 0 → raised_at a c f a ≡ c
raised_here a c f none =
    let one : a + 1 - a ≡ 1 = omega arith in
    let all : c * (a + 1 - a) ≡ c = ap (λ n. c * n) one ∙ omega arith in
    omega (arith, all, none)

-- where a counts as that far off, it is the first
pub raised_start : (f : ℕ → ℕ) (a b c : ℕ) → a < b → f a ≡ 0 → IsGreatestOf (raised_at a c f) a b (a + 1) a c
raised_start f a b c some none = record {
  is = sym (raised_here a c f none);
  low = omega arith;
  high = some;
  covered = λ y from below. let same : y ≡ a = omega (arith, from, below) in omega (arith, ap (raised_at a c f) same, raised_here a c f none);
  first = λ y from below. omega (arith, from, below);
}

-- and where the greatest is more than that, it is the greatest of f
pub raised_is : (f : ℕ → ℕ) (a b c best most : ℕ) → f a ≡ 0 → c < most → IsGreatestOf (raised_at a c f) a b b best most
    → IsGreatestOf f a b b best most
raised_is f a b c best most none more is = record {
  is = elim (cases_lt a best) [
    | inl above ↦ is.is ∙ raised_above a c f best above
    | inr same ↦
        let equal : best ≡ a = omega (arith, is.low, same) in
        absurd (omega (arith, is.is, ap (raised_at a c f) equal, raised_here a c f none, more))
  ];
  low = is.low;
  high = is.high;
  covered = λ y from below. omega (arith, is.covered y from below);
  first = λ y from below. omega (arith, is.first y from below);
}

-- what some p has it is no less than
pub raised_most : (f : ℕ → ℕ) (a b c p best most : ℕ) → f a ≡ 0 → a ≤ p → p < b → c < f p → IsGreatestOf (raised_at a c f) a b b best most → c < most
raised_most f a b c p best most none low high more is = elim (cases_lt a p) [
  | inl above ↦ omega (arith, is.covered p low high, raised_above a c f p above, more)
  | inr same ↦ let equal : p ≡ a = omega (arith, low, same) in omega (arith, ap f equal, none, more)
]

pub greatest_start : (m : ℕ → ℕ) (a b : ℕ) → a < b → IsGreatestOf (off_at m a b) a b a a 0
greatest_start m a b some = record {
  is = sym (off_start m a b);
  low = omega arith;
  high = some;
  covered = λ y from below. omega (arith, from, below);
  first = λ y from below. omega (arith, from, below);
}

module _ (m : ℕ → ℕ) (whole a b best most : ℕ) (is : IsGreatestOf (off_at m a b) a b b best most) where
  -- the greatest lies further off than a fiftieth
  pub furthest_is : whole * (b - a) / 50 < most → IsFurthest m whole a b best
  furthest_is far =
      let above : a < best = elim (cases_lt a best) [
        | inl more ↦ more
        | inr less ↦
            let same : best ≡ a = omega (arith, less, is.low) in
            let none = is.is ∙ ap (off_at m a b) same ∙ off_start m a b in
            omega (arith, none, far)
      ] in
      record {
        above = above;
        below = is.high;
        far = let n : ℕ = whole * (b - a) in omega (arith, far, is.is);
        furthest = λ y from below. omega (arith, is.covered y (omega (arith, from)) below, is.is);
        least = λ y from below. omega (arith, is.first y (omega (arith, from)) below, is.is);
      }

  -- or all lie near the line
  pub near_is : most ≤ whole * (b - a) / 50 → IsNearLine m whole a b
  near_is near y from below = omega (arith, near, is.covered y (omega (arith, from)) below)

-- between neighbours there is nothing
pub near_none : (m : ℕ → ℕ) (whole a b : ℕ) → b ≤ a + 1 → IsNearLine m whole a b
near_none m whole a b next y from below = absurd (omega (arith, next, from, below))
