-- Which nodes sum a count.
use Rattle.std.proofs.Common.{◌≡◌, ◌≢◌, ℕ, zero, suc, ◌+◌, ◌*◌, ◌-◌, ◌/◌, ◌%◌, ◌^◌, ◌<◌, ◌≤◌, List, length, get_or, set, inl, inr, ap, ◌∙◌, subst, arith, add-zero, get_or-set_other, get_or-set_same}
use Rattle.std.proofs.lemmas.Bool.{cases_lt}
use Rattle.std.proofs.lemmas.Nat.{or_block, and_block}
use Rattle.std.proofs.Math.Nat.{div-add-mod, mod-lt}
use Rattle.std.specs.Int.Bits.{bit_and, bit_or, and_self, or_self}
use Rattle.clru_curve.specs.Tree.{up_by, node_after, node_before, Falls}
use Rattle.clru_curve.proofs.UpTo.{up_by-le, up_by-gt}

node_before-even : (m : ℕ) → 0 < m → node_before (2 * m) ≡ 2 * node_before m
node_before-even m some =
    let e = and_block 1 m (m - 1) 0 1 (omega arith) (omega arith) in
    let a : 2 * m ≡ m * 2 ^ 1 + 0 = omega arith in
    let b : 2 * m - 1 ≡ (m - 1) * 2 ^ 1 + 1 = omega arith in
    let same : bit_and (2 * m) (2 * m - 1) ≡ bit_and (m * 2 ^ 1 + 0) ((m - 1) * 2 ^ 1 + 1) = cc (a, b) in
    omega (arith, same ∙ e)

node_before-odd : (m : ℕ) → node_before (2 * m + 1) ≡ 2 * m
node_before-odd m =
    let e = and_block 1 m m 1 0 (omega arith) (omega arith) in
    let a : 2 * m + 1 ≡ m * 2 ^ 1 + 1 = omega arith in
    let b : 2 * m + 1 - 1 ≡ m * 2 ^ 1 + 0 = omega arith in
    let same : bit_and (2 * m + 1) (2 * m + 1 - 1) ≡ bit_and (m * 2 ^ 1 + 1) (m * 2 ^ 1 + 0) = cc (a, b) in
    omega (arith, same ∙ e, and_self m)

node_after-even : (m : ℕ) → 0 < m → node_after (2 * m) ≡ 2 * node_after m
node_after-even m some =
    let e = or_block 1 m (m - 1) 0 1 (omega arith) (omega arith) in
    let a : 2 * m ≡ m * 2 ^ 1 + 0 = omega arith in
    let b : 2 * m - 1 ≡ (m - 1) * 2 ^ 1 + 1 = omega arith in
    let same : bit_or (2 * m) (2 * m - 1) ≡ bit_or (m * 2 ^ 1 + 0) ((m - 1) * 2 ^ 1 + 1) = cc (a, b) in
    omega (arith, same ∙ e)

node_after-odd : (m : ℕ) → node_after (2 * m + 1) ≡ 2 * m + 2
node_after-odd m =
    let e = or_block 1 m m 1 0 (omega arith) (omega arith) in
    let a : 2 * m + 1 ≡ m * 2 ^ 1 + 1 = omega arith in
    let b : 2 * m + 1 - 1 ≡ m * 2 ^ 1 + 0 = omega arith in
    let same : bit_or (2 * m + 1) (2 * m + 1 - 1) ≡ bit_or (m * 2 ^ 1 + 1) (m * 2 ^ 1 + 0) = cc (a, b) in
    omega (arith, same ∙ e, or_self m)

-- a number that is even or odd, and its half
half_cases : (P : ℕ → Type 0) (n : ℕ) → ((m : ℕ) → P (2 * m)) → ((m : ℕ) → P (2 * m + 1)) → P n
half_cases P n even odd =
    let q = n / 2 in let whole = div-add-mod n 2 in let less : n % 2 < 2 = mod-lt n (omega arith) in
    elim (cases_lt (n % 2) 1) [
      | inl l ↦ let e : 2 * q ≡ n = omega arith in subst P e (even q)
      | inr l ↦ let e : 2 * q + 1 ≡ n = omega arith in subst P e (odd q)
    ]

-- the node after j, and the one before it
record Steps (j : ℕ) : Type 0 where
  after : j < node_after j
  before : node_before j < j

steps_by : (fuel j : ℕ) → j ≤ fuel → 0 < j → Steps j
steps_by zero j low some = omega (arith, low, some)
steps_by (suc fuel) j low some =
    half_cases (λ n. n ≤ suc fuel → 0 < n → Steps n) j
    (λ m l s. let half = steps_by fuel m (omega arith) (omega arith) in
    record {
      after = omega (arith, node_after-even m (omega arith), half.after);
      before = omega (arith, node_before-even m (omega arith), half.before);
    })
    (λ m l s. record { after = omega (arith, node_after-odd m); before = omega (arith, node_before-odd m) })
    low some

pub node_after-greater : (j : ℕ) → 0 < j → j < node_after j
node_after-greater j some = let s = steps_by j j (omega arith) some in s.after

pub node_before-less : (j : ℕ) → 0 < j → node_before j < j
node_before-less j some = let s = steps_by j j (omega arith) some in s.before

-- node j counts another word i exactly where it counts the node before i
record Counts (j i : ℕ) : Type 0 where
  back : j ≢ i → j ≤ i → i < node_after j → j ≤ node_before i
  forth : j ≤ node_before i → node_before i < node_after j → i < node_after j

counts_by : (fuel j i : ℕ) → i ≤ fuel → 0 < j → 0 < i → Counts j i
counts_by zero j i low some_j some_i = omega (arith, low, some_i)
counts_by (suc fuel) j i low some_j some_i =
    half_cases (λ n. n ≤ suc fuel → 0 < n → Counts j n) i
    (λ m l s. half_cases (λ n. 0 < n → Counts n (2 * m)) j
    (λ q t. let half = counts_by fuel q m (omega arith) (omega arith) (omega arith) in
    let b = node_before-even m (omega arith) in let a = node_after-even q (omega arith) in
    record {
      back = λ n le lt. let h = half.back (λ e. n (ap (λ x. 2 * x) e)) (omega arith) (omega arith) in omega arith;
      forth = λ le lt. let h = half.forth (omega arith) (omega arith) in omega arith;
    })
    (λ q t. let b = node_before-even m (omega arith) in let a = node_after-odd q in
    record { back = λ n le lt. omega arith; forth = λ le lt. omega arith })
    some_j)
    (λ m l s. half_cases (λ n. 0 < n → Counts n (2 * m + 1)) j
    (λ q t. let b = node_before-odd m in let a = node_after-even q (omega arith) in
    record { back = λ n le lt. omega arith; forth = λ le lt. omega arith })
    (λ q t. let b = node_before-odd m in let a = node_after-odd q in
    record { back = λ n le lt. absurd (n (omega arith)); forth = λ le lt. omega arith })
    some_j)
    low some_i

-- so of the counts that node j sums, an amount at the count i is one more than at the node before i
pub counts_before : (a j i : ℕ) → 0 < j → 0 < i → j ≢ i
    → up_by a j i + up_by a (node_after j) (node_before i) ≡ up_by a j (node_before i) + up_by a (node_after j) i
counts_before a j i some_j some_i other =
    let c = counts_by i j i (omega arith) some_j some_i in
    let less = node_before-less i some_i in let more = node_after-greater j some_j in
    elim (cases_lt i j) [
      | inl out ↦ omega (
        arith,
        up_by-gt a j i out,
        up_by-gt a (node_after j) i (omega arith),
        up_by-gt a j (node_before i) (omega arith),
        up_by-gt a (node_after j) (node_before i) (omega arith),
      )
      | inr le ↦ elim (cases_lt i (node_after j)) [
        | inl lt ↦ let b = c.back other le lt in
            omega (arith, up_by-le a j i le, up_by-gt a (node_after j) i lt, up_by-le a j (node_before i) b, up_by-gt a (node_after j) (node_before i) (omega arith))
        | inr past ↦ elim (cases_lt (node_before i) j) [
          | inl low ↦ omega (arith, up_by-le a j i le, up_by-le a (node_after j) i past, up_by-gt a j (node_before i) low, up_by-gt a (node_after j) (node_before i) (omega arith))
          | inr high ↦ elim (cases_lt (node_before i) (node_after j)) [
            | inl bad ↦ let x = c.forth high bad in omega arith
            | inr far ↦ omega (arith, up_by-le a j i le, up_by-le a (node_after j) i past, up_by-le a j (node_before i) high, up_by-le a (node_after j) (node_before i) far)
          ]
        ]
      ]
    ]

-- and node i sums the count i and none before
pub counts_own : (a i : ℕ) → 0 < i
    → up_by a i i + up_by a (node_after i) (node_before i) ≡ a + (up_by a i (node_before i) + up_by a (node_after i) i)
counts_own a i some =
    let less = node_before-less i some in let more = node_after-greater i some in
    omega (arith, up_by-le a i i (omega arith), up_by-gt a (node_after i) (node_before i) (omega arith), up_by-gt a i (node_before i) less, up_by-gt a (node_after i) i more)

-- a count falls from any number to a later one
falls_by : (f : ℕ → ℕ) → Falls f → (i d : ℕ) → f (i + d) ≤ f i
falls_by f falls i zero = rw add-zero (omega arith)
falls_by f falls i (suc d) =
    let more = falls (i + d) in let before = falls_by f falls i d in let e : i + suc d ≡ suc (i + d) = omega arith in
    rw e (omega (arith, more, before))

pub falls_far : (f : ℕ → ℕ) → Falls f → (i j : ℕ) → i ≤ j → f j ≤ f i
falls_far f falls i j le = let e : i + (j - i) ≡ j = omega arith in subst (λ x. f x ≤ f i) e (falls_by f falls i (j - i))

-- while the count i gets so much more, from node i to the nodes before: what n stands for at node j, as far as node `at`
abbrev pub Adds : ℕ → (ℕ → ℕ) → ℕ → ℕ → ℕ → ℕ → Type 0
Adds a f i at j n = n + (f (node_after j) + up_by a j at + up_by a (node_after j) i) ≡ f j + up_by a j i + up_by a (node_after j) at

-- while it gets so much less
abbrev pub Subtracts : ℕ → (ℕ → ℕ) → ℕ → ℕ → ℕ → Type 0
Subtracts a f at j n = n + (f (node_after j) + up_by a (node_after j) at) ≡ f j + up_by a j at

-- a change of one node, at that node and at the others
changes_at : (P Q : ℕ → ℕ → Type 0) (nodes : List ℕ) (at v j : ℕ) → at < length nodes → (P at (get_or nodes at 0) → Q at v)
    → (j ≢ at → P j (get_or nodes j 0) → Q j (get_or nodes j 0)) → P j (get_or nodes j 0) → Q j (get_or (set nodes at v) j 0)
changes_at P Q nodes at v j inside own other before = elim (cases_lt j at) [
  | inl lt ↦ let ne : j ≢ at = omega arith in rw (get_or-set_other nodes at j v 0 ne) (other ne before)
  | inr le ↦ elim (cases_lt at j) [
    | inl gt ↦ let ne : j ≢ at = omega arith in rw (get_or-set_other nodes at j v 0 ne) (other ne before)
    | inr ge ↦ let same : at ≡ j = omega arith in
        subst (λ x. P x (get_or nodes x 0) → Q x (get_or (set nodes at v) x 0)) same (λ b. rw (get_or-set_same nodes at v 0 inside) (own b)) before
  ]
]

module _ (a : ℕ) (f : ℕ → ℕ) (nodes : List ℕ) (at j : ℕ) (inside : at < length nodes) (some_at : 0 < at) (some_j : 0 < j) where
  pub adds_step : (i : ℕ) → Adds a f i at j (get_or nodes j 0) → Adds a f i (node_before at) j (get_or (set nodes at (get_or nodes at 0 + a)) j 0)
  adds_step i = changes_at (Adds a f i at) (Adds a f i (node_before at)) nodes at (get_or nodes at 0 + a) j inside
      (λ b. let own = counts_own a at some_at in omega (arith, b, own))
      (λ ne b. let c = counts_before a j at some_j some_at ne in omega (arith, b, c))

  pub subtracts_step : a ≤ get_or nodes at 0 → Subtracts a f at j (get_or nodes j 0)
      → Subtracts a f (node_before at) j (get_or (set nodes at (get_or nodes at 0 - a)) j 0)
  subtracts_step some = changes_at (Subtracts a f at) (Subtracts a f (node_before at)) nodes at (get_or nodes at 0 - a) j inside
      (λ b. let own = counts_own a at some_at in omega (arith, b, own, some))
      (λ ne b. let c = counts_before a j at some_j some_at ne in omega (arith, b, c))
