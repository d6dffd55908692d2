-- Sums of sizes, by index and by number, and what one more size and one less keep of them and of the nodes.
use Rattle.std.proofs.Common.{◌≡◌, ℕ, zero, suc, ◌+◌, ◌*◌, ◌/◌, ◌%◌, ◌<◌, ◌≤◌, true, false, cond, List, [], ◌∷◌, ◌++◌, length, set, take, inl, inr, refl, sym, ap, ◌∙◌, subst, arith, length-set}
use Rattle.std.proofs.lemmas.Bool.{cases_lt}
use Rattle.std.proofs.lemmas.Nat.{mod_below, div-add-mod'}
use Rattle.std.proofs.lemmas.List.{length_push}
use Rattle.std.specs.List.{filter}
use Rattle.clru_model.proofs.Cases.{split}
use Rattle.clru_curve.specs.declared.numbered.Numbered.{Numbered}
use Rattle.clru_curve.specs.LatestSizes.{sizes_from, total_from, live_from, full_from, open_in, AreSums, IsSummed, IsRemoved}
use Rattle.clru_curve.specs.Rising.{numbered, has_value, number_at, value_at, IsRising}
use Rattle.clru_curve.specs.Tree.{up_by, up_to, Falls}
use Rattle.clru_curve.proofs.Counted.{IsCounted-push, get_or_push}
use Rattle.clru_curve.proofs.Nodes.{falls_far}
use Rattle.clru_curve.proofs.Rising.{rising_at, rising_order, rising_push, rising_set, rising_filter}
use Rattle.clru_curve.proofs.UpTo.{up_by-le, up_by-gt}

pub sizes_step : (ss : List Numbered) (j : ℕ) → sizes_from ss j ≡ value_at ss j + sizes_from ss (suc j)
sizes_step [] j = refl
sizes_step (s ∷ ss) zero = refl
sizes_step (s ∷ ss) (suc j) = sizes_step ss j

pub sizes_fall : (ss : List Numbered) → Falls (sizes_from ss)
sizes_fall ss j = omega (arith, sizes_step ss j)

pub sizes_none : (ss : List Numbered) (j : ℕ) → length ss ≤ j → sizes_from ss j ≡ 0
sizes_none [] j past = refl
sizes_none (s ∷ ss) zero past = omega (arith, past)
sizes_none (s ∷ ss) (suc j) past = sizes_none ss j (omega (arith, past))

-- no sum from one on passes that of all
pub sizes_few : (ss : List Numbered) (j : ℕ) → sizes_from ss j ≤ sizes_from ss 0
sizes_few ss j = falls_far (sizes_from ss) (sizes_fall ss) 0 j (omega arith)

-- nor from a block on
pub blocks_fall : (ss : List Numbered) → Falls (λ j. sizes_from ss (8 * j))
blocks_fall ss j = falls_far (sizes_from ss) (sizes_fall ss) (8 * j) (8 * suc j) (omega arith)

-- one more size at the end
pub sizes_push : (ss : List Numbered) (m v j : ℕ) → sizes_from (ss ++ numbered m v ∷ []) j ≡ sizes_from ss j + up_by v j (length ss)
sizes_push [] m v zero = omega arith
sizes_push [] m v (suc j) = refl
sizes_push (x ∷ xs) m v zero = let ih = sizes_push xs m v zero in omega (arith, ih)
sizes_push (x ∷ xs) m v (suc j) = sizes_push xs m v j

-- one size less
pub sizes_clear : (ss : List Numbered) (i m j : ℕ) → i < length ss → sizes_from ss j ≡ sizes_from (set ss i (numbered m 0)) j + up_by (value_at ss i) j i
sizes_clear [] i m j inside = omega (arith, inside)
sizes_clear (s ∷ ss) zero m zero inside = omega arith
sizes_clear (s ∷ ss) zero m (suc j) inside = omega arith
sizes_clear (s ∷ ss) (suc i) m zero inside = let ih = sizes_clear ss i m zero (omega (arith, inside)) in omega (arith, ih)
sizes_clear (s ∷ ss) (suc i) m (suc j) inside = sizes_clear ss i m j (omega (arith, inside))

-- the first sizes
sizes_take-le : (ss : List Numbered) (i j : ℕ) → j ≤ i → sizes_from (take i ss) j + sizes_from ss i ≡ sizes_from ss j
sizes_take-le [] zero j le = omega arith
sizes_take-le [] (suc i) j le = omega arith
sizes_take-le (s ∷ ss) zero zero le = omega arith
sizes_take-le (s ∷ ss) zero (suc j) le = absurd (omega (arith, le))
sizes_take-le (s ∷ ss) (suc i) zero le = omega (arith, sizes_take-le ss i 0 (omega arith))
sizes_take-le (s ∷ ss) (suc i) (suc j) le = sizes_take-le ss i j (omega (arith, le))

sizes_take-ge : (ss : List Numbered) (i j : ℕ) → i ≤ j → sizes_from (take i ss) j ≡ 0
sizes_take-ge [] zero j ge = refl
sizes_take-ge [] (suc i) j ge = refl
sizes_take-ge (s ∷ ss) zero j ge = refl
sizes_take-ge (s ∷ ss) (suc i) zero ge = absurd (omega (arith, ge))
sizes_take-ge (s ∷ ss) (suc i) (suc j) ge = sizes_take-ge ss i j (omega (arith, ge))

-- the first of a block is no later than a size where the block is no later than the size's
up_by-block : (a j n : ℕ) → up_by a (8 * j) n ≡ up_by a j (n / 8)
up_by-block a j n =
    let whole = div-add-mod' n 8 in let rest = mod_below n 8 (omega arith) in
    elim (cases_lt n (8 * j)) [
      | inl gt ↦ omega (arith, up_by-gt a (8 * j) n gt, up_by-gt a j (n / 8) (omega (arith, whole, rest, gt)))
      | inr le ↦ omega (arith, up_by-le a (8 * j) n le, up_by-le a j (n / 8) (omega (arith, whole, rest, le)))
    ]

-- the first sizes, with some more of one block
module _ (ss : List Numbered) (at end more : ℕ) (order : at ≤ end) (one_block : end ≤ 8 * (at / 8 + 1)) (sum : more + sizes_from ss end ≡ sizes_from ss at) where
  pub blocks_take : (j : ℕ) → sizes_from (take at ss) (8 * j) + up_by more j (at / 8) ≡ sizes_from (take end ss) (8 * j)
  blocks_take j =
      let whole = div-add-mod' at 8 in let rest = mod_below at 8 (omega arith) in
      elim (cases_lt at (8 * j)) [
        | inl gt ↦ omega (
          arith,
          sizes_take-ge ss at (8 * j) (omega (arith, gt)),
          sizes_take-ge ss end (8 * j) (omega (arith, one_block, whole, rest, gt)),
          up_by-gt more j (at / 8) (omega (arith, whole, rest, gt)),
        )
        | inr le ↦ omega (
          arith,
          sizes_take-le ss at (8 * j) le,
          sizes_take-le ss end (8 * j) (omega (arith, order, le)),
          up_by-le more j (at / 8) (omega (arith, whole, rest, le)),
          sum,
        )
      ]

  pub take_fits : (j : ℕ) → sizes_from (take at ss) (8 * j) + more ≤ sizes_from ss 0
  take_fits j = elim (cases_lt at (8 * j)) [
    | inl gt ↦ omega (arith, sizes_take-ge ss at (8 * j) (omega (arith, gt)), sizes_few ss at, sum)
    | inr le ↦ omega (arith, sizes_take-le ss at (8 * j) le, sizes_few ss (8 * j), sum)
  ]

-- the full blocks and the one that is not
pub full_fall : (ss : List Numbered) → Falls (full_from ss)
full_fall ss j = omega (arith, blocks_fall ss j)

pub full_few : (ss : List Numbered) (j : ℕ) → full_from ss j + open_in ss ≤ sizes_from ss 0
full_few ss j = omega (arith, sizes_few ss (8 * j), sizes_few ss (8 * (length ss / 8)))

pub full_open : (ss : List Numbered) (j : ℕ) → j ≤ length ss / 8 → full_from ss j + open_in ss ≡ sizes_from ss (8 * j)
full_open ss j le = omega (arith, falls_far (sizes_from ss) (sizes_fall ss) (8 * j) (8 * (length ss / 8)) (omega (arith, le)))

pub full_past : (ss : List Numbered) (j : ℕ) → length ss / 8 ≤ j → full_from ss j ≡ 0
full_past ss j past = omega (arith, falls_far (sizes_from ss) (sizes_fall ss) (8 * (length ss / 8)) (8 * j) (omega (arith, past)))

-- from the first sizes, as many as the full blocks have
pub full_take : (ss : List Numbered) (j : ℕ) → sizes_from (take (8 * (length ss / 8)) ss) (8 * j) ≡ full_from ss j
full_take ss j = elim (cases_lt (length ss / 8) j) [
  | inl past ↦ omega (
    arith,
    sizes_take-ge ss (8 * (length ss / 8)) (8 * j) (omega (arith, past)),
    full_past ss j (omega (arith, past)),
  )
  | inr le ↦ omega (arith, sizes_take-le ss (8 * (length ss / 8)) (8 * j) (omega (arith, le)))
]

-- one more size at the end
module _ (ss : List Numbered) (m v : ℕ) where
  long : length (ss ++ numbered m v ∷ []) ≡ length ss + 1
  long = omega (arith, length_push ss (numbered m v))

  same_block : length ss % 8 < 7 → length (ss ++ numbered m v ∷ []) / 8 ≡ length ss / 8
  same_block few =
      let n = length (ss ++ numbered m v ∷ []) in
      omega (arith, long, few, div-add-mod' (length ss) 8, div-add-mod' n 8, mod_below n 8 (omega arith))

  next_block : length ss % 8 ≡ 7 → length (ss ++ numbered m v ∷ []) / 8 ≡ suc (length ss / 8)
  next_block last =
      let n = length (ss ++ numbered m v ∷ []) in
      omega (arith, long, last, div-add-mod' (length ss) 8, div-add-mod' n 8, mod_below n 8 (omega arith))

  before_end : 8 * (length ss / 8) ≤ length ss
  before_end = omega (arith, div-add-mod' (length ss) 8)

  pub open_push : length ss % 8 < 7 → open_in (ss ++ numbered m v ∷ []) ≡ open_in ss + v
  open_push few = omega (
    arith,
    ap (λ b. sizes_from (ss ++ numbered m v ∷ []) (8 * b)) (same_block few),
    sizes_push ss m v (8 * (length ss / 8)),
    up_by-le v (8 * (length ss / 8)) (length ss) before_end,
  )

  pub full_push : length ss % 8 < 7 → (j : ℕ) → full_from (ss ++ numbered m v ∷ []) j ≡ full_from ss j
  full_push few j = elim (cases_lt (length ss) (8 * j)) [
    | inl gt ↦ omega (arith, open_push few, sizes_push ss m v (8 * j), up_by-gt v (8 * j) (length ss) gt, sizes_none ss (8 * j) (omega (arith, gt)))
    | inr le ↦ omega (arith, open_push few, sizes_push ss m v (8 * j), up_by-le v (8 * j) (length ss) le)
  ]

  -- which fills a block
  pub open_fill : length ss % 8 ≡ 7 → open_in (ss ++ numbered m v ∷ []) ≡ 0
  open_fill last = sizes_none (ss ++ numbered m v ∷ []) (8 * (length (ss ++ numbered m v ∷ []) / 8))
      (omega (arith, long, last, next_block last, div-add-mod' (length ss) 8))

  pub full_fill : length ss % 8 ≡ 7 → (j : ℕ)
      → full_from (ss ++ numbered m v ∷ []) j ≡ full_from ss j + up_by (open_in ss + v) j (length ss / 8)
  full_fill last j = elim (cases_lt (length ss / 8) j) [
    | inl gt ↦ omega (
      arith,
      full_past ss j (omega (arith, gt)),
      full_past (ss ++ numbered m v ∷ []) j (omega (arith, gt, next_block last)),
      up_by-gt (open_in ss + v) j (length ss / 8) gt,
    )
    | inr le ↦ omega (
      arith,
      full_open ss j le,
      open_fill last,
      sizes_push ss m v (8 * j),
      up_by-le v (8 * j) (length ss) (omega (arith, le, before_end)),
      up_by-le (open_in ss + v) j (length ss / 8) le,
    )
  ]

-- one size less
module _ (ss : List Numbered) (i m : ℕ) (inside : i < length ss) where
  same_end : open_in (set ss i (numbered m 0)) ≡ sizes_from (set ss i (numbered m 0)) (8 * (length ss / 8))
  same_end = ap (λ n. sizes_from (set ss i (numbered m 0)) (8 * (n / 8))) (length-set ss i (numbered m 0))

  at_end : open_in ss ≡ open_in (set ss i (numbered m 0)) + up_by (value_at ss i) (length ss / 8) (i / 8)
  at_end = omega (
    arith,
    same_end,
    sizes_clear ss i m (8 * (length ss / 8)) inside,
    up_by-block (value_at ss i) (length ss / 8) i,
  )

  at_block : (j : ℕ) → sizes_from ss (8 * j) ≡ sizes_from (set ss i (numbered m 0)) (8 * j) + up_by (value_at ss i) j (i / 8)
  at_block j = omega (arith, sizes_clear ss i m (8 * j) inside, up_by-block (value_at ss i) j i)

  cleared_past : (j : ℕ) → length ss / 8 ≤ j → full_from (set ss i (numbered m 0)) j ≡ 0
  cleared_past j past = full_past (set ss i (numbered m 0)) j
      (subst (λ n. n / 8 ≤ j) (sym (length-set ss i (numbered m 0))) past)

  -- of a full block
  pub open_kept : i / 8 < length ss / 8 → open_in (set ss i (numbered m 0)) ≡ open_in ss
  open_kept full = omega (arith, at_end, up_by-gt (value_at ss i) (length ss / 8) (i / 8) full)

  pub full_clear : i / 8 < length ss / 8 → (j : ℕ) → full_from ss j ≡ full_from (set ss i (numbered m 0)) j + up_by (value_at ss i) j (i / 8)
  full_clear full j = elim (cases_lt (length ss / 8) j) [
    | inl gt ↦ omega (
      arith,
      full_past ss j (omega (arith, gt)),
      cleared_past j (omega (arith, gt)),
      up_by-gt (value_at ss i) j (i / 8) (omega (arith, gt, full)),
    )
    | inr le ↦ omega (
      arith,
      open_kept full,
      at_block j,
      full_open (set ss i (numbered m 0)) j (subst (λ n. j ≤ n / 8) (sym (length-set ss i (numbered m 0))) le),
    )
  ]

  -- of the other one
  pub open_clear : length ss / 8 ≤ i / 8 → open_in ss ≡ open_in (set ss i (numbered m 0)) + value_at ss i
  open_clear behind = omega (arith, at_end, up_by-le (value_at ss i) (length ss / 8) (i / 8) behind)

  pub full_kept : length ss / 8 ≤ i / 8 → (j : ℕ) → full_from ss j ≡ full_from (set ss i (numbered m 0)) j
  full_kept behind j = elim (cases_lt (length ss / 8) j) [
    | inl gt ↦ omega (arith, full_past ss j (omega (arith, gt)), cleared_past j (omega (arith, gt)))
    | inr le ↦ omega (arith, open_clear behind, at_block j, up_by-le (value_at ss i) j (i / 8) (omega (arith, le, behind)))
  ]

-- the same by number
pub total_zero : (ss : List Numbered) → total_from ss 0 ≡ sizes_from ss 0
total_zero [] = refl
total_zero (s ∷ ss) = omega (arith, total_zero ss, up_by-le s.value 0 s.number (omega arith))

pub total_push : (ss : List Numbered) (m v t : ℕ) → total_from (ss ++ numbered m v ∷ []) t ≡ total_from ss t + up_by v t m
total_push [] m v t = omega arith
total_push (s ∷ ss) m v t = omega (arith, total_push ss m v t)

some_value : (s : Numbered) → 0 < s.value → has_value s ≡ true
some_value s some = grind arith

pub live_push : (ss : List Numbered) (m v t : ℕ) → live_from (ss ++ numbered m (suc v) ∷ []) t ≡ live_from ss t + up_to t m
live_push [] m v t = rw (some_value (numbered m (suc v)) (omega arith)) (omega arith)
live_push (s ∷ ss) m v t = omega (arith, live_push ss m v t)

up_by-none : (t n : ℕ) → up_by 0 t n ≡ 0
up_by-none zero n = refl
up_by-none (suc t) zero = refl
up_by-none (suc t) (suc n) = up_by-none t n

pub total_clear : (ss : List Numbered) (i t : ℕ) → i < length ss
    → total_from ss t ≡ total_from (set ss i (numbered (number_at ss i) 0)) t + up_by (value_at ss i) t (number_at ss i)
total_clear [] i t inside = omega (arith, inside)
total_clear (s ∷ ss) zero t inside = omega (arith, up_by-none t s.number)
total_clear (s ∷ ss) (suc i) t inside = let ih = total_clear ss i t (omega (arith, inside)) in omega (arith, ih)

no_value : (s : Numbered) → has_value s ≡ false → s.value ≡ 0
no_value s none = grind arith

pub live_clear : (ss : List Numbered) (i t : ℕ) → i < length ss → 0 < value_at ss i
    → live_from ss t ≡ live_from (set ss i (numbered (number_at ss i) 0)) t + up_to t (number_at ss i)
live_clear [] i t inside some = omega (arith, inside)
live_clear (s ∷ ss) zero t inside some = rw (some_value s some) (omega arith)
live_clear (s ∷ ss) (suc i) t inside some = let ih = live_clear ss i t (omega (arith, inside)) some in omega (arith, ih)

pub total_filter : (ss : List Numbered) (t : ℕ) → total_from (filter has_value ss) t ≡ total_from ss t
total_filter [] t = refl
total_filter (s ∷ ss) t = split (has_value s)
    (λ h. rw h (ap (λ n. up_by s.value t s.number + n) (total_filter ss t)))
    (λ f. let none = ap (λ v. up_by v t s.number) (no_value s f) in rw f (omega (arith, total_filter ss t, none, up_by-none t s.number)))

pub live_filter : (ss : List Numbered) (t : ℕ) → live_from (filter has_value ss) t ≡ live_from ss t
live_filter [] t = refl
live_filter (s ∷ ss) t = split (has_value s)
    (λ h. rw (h, h) (ap (λ n. up_to t s.number + n) (live_filter ss t)))
    (λ f. rw f (omega (arith, live_filter ss t)))

-- sizes of later requests count whole
total_after : (low : ℕ) (ss : List Numbered) (high t : ℕ) → IsRising low ss high → t ≤ low → total_from ss t ≡ sizes_from ss 0
total_after low [] high t is le = refl
total_after low (s ∷ ss) high t is le =
    omega (arith, total_after (suc s.number) ss high t is.1 (omega (arith, le, is.0)), up_by-le s.value t s.number (omega (arith, le, is.0)))

-- from the request of the i-th size on
pub total_at : (low : ℕ) (ss : List Numbered) (high i : ℕ) → IsRising low ss high → i < length ss → total_from ss (number_at ss i) ≡ sizes_from ss i
total_at low [] high i is inside = omega (arith, inside)
total_at low (s ∷ ss) high zero is inside =
    omega (arith, up_by-le s.value s.number s.number (omega arith), total_after (suc s.number) ss high s.number is.1 (omega arith))
total_at low (s ∷ ss) high (suc i) is inside =
    let later = rising_at (suc s.number) ss high i is.1 (omega (arith, inside)) in
    omega (arith, up_by-gt s.value (number_at ss i) s.number (omega (arith, later)), total_at (suc s.number) ss high i is.1 (omega (arith, inside)))

-- and after it
pub total_next : (low : ℕ) (ss : List Numbered) (high i : ℕ) → IsRising low ss high → i < length ss
    → total_from ss (suc (number_at ss i)) ≡ sizes_from ss (suc i)
total_next low [] high i is inside = omega (arith, inside)
total_next low (s ∷ ss) high zero is inside =
    omega (arith, up_by-gt s.value (suc s.number) s.number (omega arith), total_after (suc s.number) ss high (suc s.number) is.1 (omega arith))
total_next low (s ∷ ss) high (suc i) is inside =
    let later = rising_at (suc s.number) ss high i is.1 (omega (arith, inside)) in
    omega (arith, up_by-gt s.value (suc (number_at ss i)) s.number (omega (arith, later)), total_next (suc s.number) ss high i is.1 (omega (arith, inside)))

-- sizes of later requests all count
live_after : (low : ℕ) (ss : List Numbered) (high t : ℕ) → IsRising low ss high → t ≤ low → live_from ss t ≡ live_from ss 0
live_after low [] high t is le = refl
live_after low (s ∷ ss) high t is le =
    let here = ap (λ u. cond (has_value s) u 0) (up_by-le 1 t s.number (omega (arith, le, is.0))) in
    omega (arith, here, live_after (suc s.number) ss high t is.1 (omega (arith, le, is.0)))

-- where the sum falls, one size that is not 0 is passed
pub live_falls : (low : ℕ) (ss : List Numbered) (high p : ℕ) → IsRising low ss high → total_from ss (suc p) < total_from ss p
    → live_from ss p ≡ suc (live_from ss (suc p))
live_falls low [] high p is less = omega (arith, less)
live_falls low (s ∷ ss) high p is less = elim (cases_lt s.number p) [
  | inl lt ↦ let next : s.number < suc p = omega (arith, lt) in
      let rest = live_falls (suc s.number) ss high p is.1 (omega (arith, less, up_by-gt s.value p s.number lt, up_by-gt s.value (suc p) s.number next)) in
      omega (arith, rest, ap (λ u. cond (has_value s) u 0) (up_by-gt 1 p s.number lt ∙ sym (up_by-gt 1 (suc p) s.number next)))
  | inr ge ↦ elim (cases_lt p s.number) [
    | inl gt ↦ let next : suc p ≤ s.number = omega (arith, gt) in
        let rest = live_falls (suc s.number) ss high p is.1 (omega (arith, less, up_by-le s.value p s.number ge, up_by-le s.value (suc p) s.number next)) in
        omega (arith, rest, ap (λ u. cond (has_value s) u 0) (up_by-le 1 p s.number ge ∙ sym (up_by-le 1 (suc p) s.number next)))
    | inr le ↦ let past : s.number < suc p = omega (arith, le) in
        let first : p ≤ suc s.number = omega (arith, ge) in let second : suc p ≤ suc s.number = omega (arith, ge) in
        let some = some_value s (omega (
          arith,
          less,
          up_by-gt s.value (suc p) s.number past,
          up_by-le s.value p s.number ge,
          total_after (suc s.number) ss high p is.1 first,
          total_after (suc s.number) ss high (suc p) is.1 second,
        )) in
        rw some (omega (
          arith,
          up_by-le 1 p s.number ge,
          up_by-gt 1 (suc p) s.number past,
          live_after (suc s.number) ss high p is.1 first,
          live_after (suc s.number) ss high (suc p) is.1 second,
        ))
  ]
]

-- a request of which the size is not 0
pub record IsLive (ss : List Numbered) (p : ℕ) : Type 0 where
  pub at : ℕ
  pub inside : at < length ss
  pub number : number_at ss at ≡ p
  pub some : 0 < value_at ss at

pub is_live : (ss : List Numbered) (p : ℕ) → live_from ss p ≡ suc (live_from ss (suc p)) → IsLive ss p
is_live [] p live = absurd (omega (arith, live))
is_live (s ∷ ss) p live =
    let later : live_from ss p ≡ suc (live_from ss (suc p)) → IsLive (s ∷ ss) p =
    λ rest. let l = is_live ss p rest in record { at = suc l.at; inside = omega (arith, l.inside); number = l.number; some = l.some } in
    split (has_value s)
    (λ h. let sum : up_to p s.number + live_from ss p ≡ suc (up_to (suc p) s.number + live_from ss (suc p)) = rw h at live in
    elim (cases_lt s.number p) [
      | inl lt ↦ later (omega (arith, sum, up_by-gt 1 p s.number lt, up_by-gt 1 (suc p) s.number (omega (arith, lt))))
      | inr ge ↦ elim (cases_lt p s.number) [
        | inl gt ↦ later (omega (arith, sum, up_by-le 1 p s.number ge, up_by-le 1 (suc p) s.number (omega (arith, gt))))
        | inr le ↦ record { at = 0; inside = omega arith; number = omega (arith, ge, le); some = value_some s h }
      ]
    ])
    (λ f. let sum : 0 + live_from ss p ≡ suc (0 + live_from ss (suc p)) = rw f at live in later (omega (arith, sum)))
  where
    value_some : (s : Numbered) → has_value s ≡ true → 0 < s.value
    value_some s h = grind arith

-- one place has one number
pub same_place : (ss : List Numbered) (high i j : ℕ) → IsRising 0 ss high → i < length ss → j < length ss → number_at ss i ≡ number_at ss j → i ≡ j
same_place ss high i j is in_i in_j same = elim (cases_lt i j) [
  | inl lt ↦ absurd (omega (arith, rising_order 0 ss high i j is lt in_j, same))
  | inr le ↦ elim (cases_lt j i) [
    | inl gt ↦ absurd (omega (arith, rising_order 0 ss high j i is gt in_i, same))
    | inr ge ↦ omega (arith, le, ge)
  ]
]

pub IsSummed-none : IsSummed [] [] 0
IsSummed-none = record {
  sums = record { counted = record { node = λ j some within. omega (arith, within); none = λ j far. refl }; first = refl };
  covers = omega arith;
  tight = omega arith;
  rising = omega arith;
}

pub IsSummed-node : (ss : List Numbered) (nodes : List ℕ) (n : ℕ) → IsSummed ss nodes n → length nodes ≤ length ss / 8 → IsSummed ss (nodes ++ 0 ∷ []) n
IsSummed-node ss nodes n kept full = record {
  sums = record { counted = IsCounted-push _ nodes kept.sums.counted; first = get_or_push nodes 0 ∙ kept.sums.first };
  covers = omega (arith, length_push nodes 0, kept.covers);
  tight = omega (arith, length_push nodes 0, full, div-add-mod' (length ss) 8);
  rising = kept.rising;
}

module _ (ss : List Numbered) (nodes : List ℕ) (n : ℕ) (kept : IsSummed ss nodes n) where
  pub IsSummed-push : (v : ℕ) (nodes' : List ℕ) → length nodes' ≡ length nodes → length ss < 8 * length nodes
      → AreSums (ss ++ numbered n v ∷ []) nodes' → IsSummed (ss ++ numbered n v ∷ []) nodes' (n + 1)
  IsSummed-push v nodes' same room sums = record {
    sums = sums;
    covers = omega (arith, same, length_push ss (numbered n v), room);
    tight = omega (arith, same, length_push ss (numbered n v), kept.tight);
    rising = let one : suc n ≡ n + 1 = omega arith in subst (IsRising 0 (ss ++ numbered n v ∷ [])) one (rising_push 0 ss n v kept.rising);
  }

  pub IsSummed-filter : (nodes' : List ℕ) → AreSums (filter has_value ss) nodes'
      → length (filter has_value ss) ≤ 8 * length nodes' → 8 * length nodes' ≤ length (filter has_value ss) + 8 → IsSummed (filter has_value ss) nodes' n
  IsSummed-filter nodes' sums covers tight = record {
    sums = sums;
    covers = covers;
    tight = tight;
    rising = rising_filter 0 ss n kept.rising;
  }

  pub IsSummed-clear : (p : ℕ) (nodes' : List ℕ) → length nodes' ≡ length nodes → AreSums (set ss p (numbered (number_at ss p) 0)) nodes'
      → IsSummed (set ss p (numbered (number_at ss p) 0)) nodes' n
  IsSummed-clear p nodes' same sums = record {
    sums = sums;
    covers = omega (arith, same, length-set ss p (numbered (number_at ss p) 0), kept.covers);
    tight = omega (arith, same, length-set ss p (numbered (number_at ss p) 0), kept.tight);
    rising = rising_set 0 ss n p 0 kept.rising;
  }

-- a request whose size became 0
module _ (ss left : List Numbered) (p : ℕ) (r : IsRemoved ss p left) where
  pub removed_lives : (t : ℕ) → live_from ss t ≡ live_from left t + up_to t p
  removed_lives t = omega (arith, live_clear ss r.at t r.inside r.some, ap (λ l. live_from l t) r.is, ap (λ k. up_to t k) r.number)

  removed_total : (t : ℕ) → total_from ss t ≡ total_from left t + up_by (value_at ss r.at) t p
  removed_total t = omega (arith, total_clear ss r.at t r.inside, ap (λ l. total_from l t) r.is, ap (λ k. up_by (value_at ss r.at) t k) r.number)

  pub removed_less : total_from left 0 ≤ total_from ss 0
  removed_less = omega (arith, removed_total 0)

  pub removed_totals : (high size t : ℕ) → IsRising 0 ss high → total_from ss p ≡ size + total_from ss (suc p)
      → total_from ss t ≡ total_from left t + up_by size t p
  removed_totals high size t rising there =
      let here = total_at 0 ss high r.at rising r.inside in let next = total_next 0 ss high r.at rising r.inside in
      let first = ap (λ k. total_from ss k) r.number in let second = ap (λ k. total_from ss (suc k)) r.number in
      let same : value_at ss r.at ≡ size = omega (arith, here, next, first, second, sizes_step ss r.at, there) in
      omega (arith, removed_total t, ap (λ v. up_by v t p) same)

-- the sizes after one more request, of a key of some size; some that are 0 may be dropped
module _ (ss ts pushed : List Numbered) (n w : ℕ) (total : (t : ℕ) → total_from ts t ≡ total_from pushed t) (live : (t : ℕ) → live_from ts t ≡ live_from pushed t) where
  module _ (grown : pushed ≡ ss ++ numbered n (w + 1) ∷ []) where
    pub grown_totals : (t : ℕ) → total_from ts t ≡ total_from ss t + up_by (w + 1) t n
    grown_totals t = total t ∙ ap (λ l. total_from l t) grown ∙ total_push ss n (w + 1) t

    pub grown_lives : (t : ℕ) → live_from ts t ≡ live_from ss t + up_to t n
    grown_lives t =
        let one : w + 1 ≡ suc w = omega arith in
        live t ∙ ap (λ l. live_from l t) grown ∙ ap (λ v. live_from (ss ++ numbered n v ∷ []) t) one ∙ live_push ss n w t

    pub grown_less : total_from ts 0 ≤ total_from ss 0 + (w + 1)
    grown_less = omega (arith, grown_totals 0, up_by-le (w + 1) 0 n (omega arith))

-- where the key came before
module _ (ss left ts pushed : List Numbered) (p n w : ℕ) (total : (t : ℕ) → total_from ts t ≡ total_from pushed t) (live : (t : ℕ) → live_from ts t ≡ live_from pushed t)
    (removed : IsRemoved ss p left) (grown : pushed ≡ left ++ numbered n (w + 1) ∷ []) where
  pub moved_lives : (t : ℕ) → live_from ts t + up_to t p ≡ live_from ss t + up_to t n
  moved_lives t = omega (arith, grown_lives left ts pushed n w total live grown t, removed_lives ss left p removed t)

  pub moved_totals : (high : ℕ) → IsRising 0 ss high → total_from ss p ≡ w + 1 + total_from ss (suc p)
      → (t : ℕ) → total_from ts t + up_by (w + 1) t p ≡ total_from ss t + up_by (w + 1) t n
  moved_totals high rising there t =
      omega (arith, grown_totals left ts pushed n w total live grown t, removed_totals ss left p removed high (w + 1) t rising there)

  pub moved_less : total_from ts 0 ≤ total_from ss 0 + (w + 1)
  moved_less = omega (arith, grown_less left ts pushed n w total live grown, removed_less ss left p removed)
