-- Bits of words, and what a flipped one does to a tree of them.
use Rattle.std.proofs.Common.{◌≡◌, ◌≢◌, ℕ, zero, suc, ◌+◌, ◌-◌, ◌*◌, ◌/◌, ◌%◌, ◌^◌, ◌<◌, ◌≤◌, ◌⊎◌, false, cond, eqb, List, length, get_or, set, min, refl, inl, inr, sym, ap, ◌∙◌, subst, arith}
use Rattle.std.proofs.Math.Nat.{pow-suc}
use Rattle.std.proofs.lemmas.Bool.{cases_lt, cases_eq, eq-eqb, ne_eqb}
use Rattle.std.proofs.lemmas.List.{get_or-set_same, get_or-set_other, get_or_past}
use Rattle.std.proofs.lemmas.Nat.{pow-add, pow_pos, pow_below, shr_below, shr_high, xor_shr, xor_mod, mod_below, div-mul-add, mod-mul-add, div-add-mod', leading_top}
use Rattle.std.specs.Prelude.{bit_xor}
use lib.Count.{count_leading_zeros}
use Rattle.clru_least.specs.Positions.{bit, first_of, said_above, has_one, times_in, IsSaid, IsSaidBut}

pub bit_below : (w j : ℕ) → bit w j < 2
bit_below w j = mod_below (w / 2 ^ j) 2 (omega arith)

-- a word below a power has no part from its bit on
shr_none : (n k : ℕ) → n < 2 ^ k → n / 2 ^ k ≡ 0
shr_none n k fits =
    let e : k ≡ 0 + k = omega arith in
    let below : n / 2 ^ k < 1 = shr_below n 0 k (subst (λ m. n < 2 ^ m) e fits) in
    omega (arith, below)

pub bit-zero : (j : ℕ) → bit 0 j ≡ 0
bit-zero j = ap (λ n. n % 2) (shr_none 0 j (pow_pos j))

bit_pow_same : (b : ℕ) → bit (2 ^ b) b ≡ 1
bit_pow_same b =
    let e : 1 * 2 ^ b + 0 ≡ 2 ^ b = omega arith in
    ap (λ n. n % 2) (ap (λ n. n / 2 ^ b) (sym e) ∙ shr_high 1 b 0 (pow_pos b))

bit_pow_other : (b j : ℕ) → j ≢ b → bit (2 ^ b) j ≡ 0
bit_pow_other b j other = elim (cases_lt b j) [
  | inl above ↦ ap (λ n. n % 2) (shr_none (2 ^ b) j (pow_below b j above))
  | inr within ↦
      let d = b - suc j in
      let e : b ≡ suc d + j = omega (arith, other) in
      let power : 2 ^ b ≡ 2 * 2 ^ d * 2 ^ j + 0 = ap (λ k. 2 ^ k) e ∙ pow-add 2 (suc d) j ∙ ap (λ n. n * 2 ^ j) (pow-suc 2 d) ∙ omega arith in
      ap (λ n. n % 2) (ap (λ n. n / 2 ^ j) power ∙ shr_high (2 * 2 ^ d) j 0 (pow_pos j)) ∙ omega arith
]

xor_of : (x y : ℕ) → x < 2 → y < 2 → bit_xor x y ≡ (x + y) % 2
xor_of zero zero _ _ = refl
xor_of zero (suc zero) _ _ = refl
xor_of (suc zero) zero _ _ = refl
xor_of (suc zero) (suc zero) _ _ = refl
xor_of (suc (suc x)) y small _ = absurd (omega (arith, small))
xor_of zero (suc (suc y)) _ small = absurd (omega (arith, small))
xor_of (suc zero) (suc (suc y)) _ small = absurd (omega (arith, small))

bit_xor-bits : (a b j : ℕ) → bit (bit_xor a b) j ≡ (bit a j + bit b j) % 2
bit_xor-bits a b j =
    ap (λ n. n % 2) (xor_shr a b j) ∙ xor_mod (a / 2 ^ j) (b / 2 ^ j) 1 ∙ xor_of (bit a j) (bit b j) (bit_below a j) (bit_below b j)

pub bit_flipped : (w b : ℕ) → bit (bit_xor w (2 ^ b)) b ≡ 1 - bit w b
bit_flipped w b =
    let e = bit_xor-bits w (2 ^ b) b in let p = bit_pow_same b in let small = bit_below w b in
    e ∙ ap (λ n. (bit w b + n) % 2) p ∙ omega (arith, small)

pub bit_stays : (w b j : ℕ) → j ≢ b → bit (bit_xor w (2 ^ b)) j ≡ bit w j
bit_stays w b j other =
    let small = bit_below w j in
    bit_xor-bits w (2 ^ b) j ∙ ap (λ n. (bit w j + n) % 2) (bit_pow_other b j other) ∙ omega (arith, small)

-- the highest bit of a word
pub record IsHighest (w j : ℕ) : Type 0 where
  pub set : bit w j ≡ 1
  pub highest : (i : ℕ) → j < i → bit w i ≡ 0

pub IsHighest_from : (w j : ℕ) → 2 ^ j ≤ w → w < 2 ^ suc j → IsHighest w j
IsHighest_from w j low high =
    let double = pow-suc 2 j in
    let r = w - 2 ^ j in
    let e : 1 * 2 ^ j + r ≡ w = omega (arith, low) in
    let rest : r < 2 ^ j = omega (arith, low, high, double) in
    record {
      set = ap (λ n. n % 2) (ap (λ n. n / 2 ^ j) (sym e) ∙ shr_high 1 j r rest);
      highest = λ i above.
          let fits : w < 2 ^ i = elim (cases_eq (suc j) i) [
            | inl same ↦ subst (λ k. w < 2 ^ k) same high
            | inr other ↦ let more = pow_below (suc j) i (omega (arith, above, other)) in omega (arith, high, more)
          ] in
          ap (λ n. n % 2) (shr_none w i fits);
    }

pub IsHighest_zeros : (w : ℕ) → 0 < w → w < 2 ^ 64 → IsHighest w (63 - count_leading_zeros 64 w)
IsHighest_zeros w some fits =
    let (j, is, low, high) = leading_top 64 w some fits in
    subst (λ i. IsHighest w i) (omega (arith, is)) (IsHighest_from w j low high)

-- the node above a child, and the child's bit there
pub above-child : (node b : ℕ) → b < 64 → (64 * node + 1 + b - 1) / 64 ≡ node
above-child node b below = ap (λ n. n / 64) (omega arith) ∙ div-mul-add node 64 b below

pub bit-child : (node b : ℕ) → b < 64 → (64 * node + 1 + b - 1) % 64 ≡ b
bit-child node b below = ap (λ n. n % 64) (omega arith) ∙ mod-mul-add node 64 b below

pub child-above : (n : ℕ) → 0 < n → 64 * ((n - 1) / 64) + 1 + (n - 1) % 64 ≡ n
child-above n some = let e = div-add-mod' (n - 1) 64 in omega (arith, e, some)

-- one bit of a node was flipped
module _ (leaves node b : ℕ) (words : List ℕ) (within : node < length words) (below : b < 64)
    (but : IsSaidBut leaves (64 * node + 1 + b) words) where
  abbrev flipped : ℕ
  flipped = bit_xor (get_or words node 0) (2 ^ b)

  abbrev after : List ℕ
  after = set words node (bit_xor (get_or words node 0) (2 ^ b))

  at_node : get_or after node 0 ≡ flipped
  at_node = get_or-set_same words node flipped 0 within

  elsewhere : (n : ℕ) → n ≢ node → get_or after n 0 ≡ get_or words n 0
  elsewhere n other = get_or-set_other words node n flipped 0 other

  -- what is said of each node but this one is so
  pub said_others : (n : ℕ) → 0 < n → n ≤ 64 * leaves → n ≢ node → said_above after n ≡ has_one after n
  said_others n some low other = elim (cases_eq ((n - 1) / 64) node) [
    | inl here ↦ elim (cases_eq ((n - 1) % 64) b) [
      | inl same ↦
          let e = child-above n some in
          let child : n ≡ 64 * node + 1 + b = omega (arith, e, here, same) in
          let wrong = but.wrong (omega (arith, child, low)) in
          let at : said_above words (64 * node + 1 + b) ≡ bit (get_or words node 0) b =
          ap (λ m. bit (get_or words m 0) ((64 * node + 1 + b - 1) % 64)) (above-child node b below) ∙ ap (λ m. bit (get_or words node 0) m) (bit-child node b below) in
          let now : said_above after n ≡ 1 - bit (get_or words node 0) b =
          ap (λ m. bit (get_or after m 0) ((n - 1) % 64)) here ∙ ap (λ m. bit (get_or after node 0) m) same
          ∙ ap (λ w. bit w b) at_node ∙ bit_flipped (get_or words node 0) b in
          let one : has_one after n ≡ has_one words (64 * node + 1 + b) = ap (λ m. min 1 m) (elsewhere n other) ∙ ap (λ m. has_one words m) child in
          now ∙ omega (arith, wrong, at, bit_below (get_or words node 0) b) ∙ sym one
      | inr differs ↦
          let e = child-above n some in
          let no_child : n ≢ 64 * node + 1 + b = λ is. differs (ap (λ m. (m - 1) % 64) is ∙ bit-child node b below) in
          let stays : said_above after n ≡ said_above words n =
          ap (λ m. bit (get_or after m 0) ((n - 1) % 64)) here ∙ ap (λ w. bit w ((n - 1) % 64)) at_node
          ∙ bit_stays (get_or words node 0) b ((n - 1) % 64) differs ∙ ap (λ m. bit (get_or words m 0) ((n - 1) % 64)) (sym here) in
          stays ∙ but.others n some low no_child ∙ ap (λ m. min 1 m) (sym (elsewhere n other))
    ]
    | inr away ↦
        let no_child : n ≢ 64 * node + 1 + b = λ is. away (ap (λ m. (m - 1) / 64) is ∙ above-child node b below) in
        ap (λ w. bit w ((n - 1) % 64)) (elsewhere ((n - 1) / 64) away) ∙ but.others n some low no_child ∙ ap (λ m. min 1 m) (sym (elsewhere n other))
  ]

  above_differs : 0 < node → (node - 1) / 64 ≢ node
  above_differs some same = let e = child-above node some in omega (arith, e, same)

  -- what the bit of this node in the one above says is what it said
  pub said_here : 0 < node → node ≤ 64 * leaves → said_above after node ≡ has_one words node
  said_here some low =
      ap (λ w. bit w ((node - 1) % 64)) (elsewhere ((node - 1) / 64) (above_differs some)) ∙ but.others node some low (λ is. omega (arith, is))

  -- where the node had a bit and has one, all is said
  pub IsSaid_flipped : 0 < get_or words node 0 → 0 < bit_xor (get_or words node 0) (2 ^ b) → IsSaid leaves after
  IsSaid_flipped had has n some low = elim (cases_eq n node) [
    | inl same ↦ subst (λ m. said_above after m ≡ has_one after m) (sym same)
        (said_here (subst (λ m. 0 < m) same some) (subst (λ m. m ≤ 64 * leaves) same low)
        ∙ omega (arith, had, has, at_node))
    | inr other ↦ said_others n some low other
  ]

  -- at the root, too
  pub IsSaid_root : node ≡ 0 → IsSaid leaves after
  IsSaid_root root n some low = said_others n some low (λ same. omega (arith, same, root, some))

  -- else what is said of this one alone is wrong
  pub IsSaidBut_flipped : 0 < node → (get_or words node 0 ≡ 0) ⊎ (bit_xor (get_or words node 0) (2 ^ b) ≡ 0)
      → IsSaidBut leaves (64 * ((node - 1) / 64) + 1 + (node - 1) % 64) after
  IsSaidBut_flipped some changed = subst (λ m. IsSaidBut leaves m after) (sym (child-above node some)) (record {
    others = said_others;
    wrong = λ low.
        let said = said_here some low in
        let f = bit_flipped (get_or words node 0) b in
        elim changed [
          | inl none ↦
              let z : bit (get_or words node 0) b ≡ 0 = ap (λ w. bit w b) none ∙ bit-zero b in
              let one : bit flipped b ≡ 1 = omega (arith, f, z) in
              let has : 0 < flipped = elim (cases_lt 0 flipped) [
                | inl l ↦ l
                | inr l ↦ let e : flipped ≡ 0 = omega (arith, l) in
                    let none = ap (λ w. bit w b) e ∙ bit-zero b in absurd (omega (arith, none, one))
              ] in
              omega (arith, said, at_node, has, none)
          | inr none ↦
              let z : bit flipped b ≡ 0 = ap (λ w. bit w b) none ∙ bit-zero b in
              let had : 0 < get_or words node 0 = elim (cases_lt 0 (get_or words node 0)) [
                | inl l ↦ l
                | inr l ↦ let e : get_or words node 0 ≡ 0 = omega (arith, l) in
                    let none = ap (λ w. bit w b) e ∙ bit-zero b in absurd (omega (arith, none, f, z))
              ] in
              omega (arith, said, at_node, had, none)
        ];
  })

-- the levels lie one behind the other
pub first_of-up : (d l : ℕ) → first_of l ≤ first_of (d + l)
first_of-up zero l = let e : zero + l ≡ l = omega arith in rw e (omega arith)
first_of-up (suc d) l =
    let ih = first_of-up d l in
    let e : suc d + l ≡ suc (d + l) = omega arith in
    rw e (omega (arith, ih))

pub first_of-below : (k levels : ℕ) → k < levels → 64 * first_of k + 1 ≤ first_of levels
first_of-below k levels below =
    let e : levels - suc k + suc k ≡ levels = omega arith in
    subst (λ m. first_of (suc k) ≤ first_of m) e (first_of-up (levels - suc k) (suc k))

-- in a level that begins there the node is the last one that has a bit
pub record IsLastOf (first node : ℕ) (words : List ℕ) : Type 0 where
  pub from : first ≤ node
  pub to : node ≤ 64 * first
  pub some : 0 < get_or words node 0
  pub rest : (n : ℕ) → node < n → n ≤ 64 * first → get_or words n 0 ≡ 0

pub IsLastOf_root : (words : List ℕ) → 0 < get_or words 0 0 → IsLastOf 0 0 words
IsLastOf_root words some = record { from = omega arith; to = omega arith; some = some; rest = λ n more few. absurd (omega (arith, more, few)) }

-- a word with a bit is not 0
some_bit : (w j : ℕ) → 0 < bit w j → 0 < w
some_bit w j some = elim (cases_lt 0 w) [
  | inl l ↦ l
  | inr l ↦ let e : w ≡ 0 = omega (arith, l) in let none = ap (λ v. bit v j) e ∙ bit-zero j in absurd (omega (arith, none, some))
]

no_word : (words : List ℕ) (n j : ℕ) → get_or words n 0 ≡ 0 → bit (get_or words n 0) j ≡ 0
no_word words n j none = ap (λ v. bit v j) none ∙ bit-zero j

none_said : (words : List ℕ) (n : ℕ) → has_one words n ≡ 0 → get_or words n 0 ≡ 0
none_said words n none = omega (arith, none)

module _ (leaves : ℕ) (words : List ℕ) (said : IsSaid leaves words) where
  -- a level below
  pub IsLastOf_below : (first node j : ℕ) → 64 * first + 1 ≤ leaves → IsLastOf first node words → IsHighest (get_or words node 0) j → j < 64
      → IsLastOf (64 * first + 1) (64 * node + 1 + j) words
  IsLastOf_below first node j above last highest small = record {
    from = omega (arith, last.from);
    to = omega (arith, last.to, small);
    some =
        let here = said (64 * node + 1 + j) (omega arith) (omega (arith, last.to, small, above)) in
        let at = ap (λ m. bit (get_or words m 0) ((64 * node + 1 + j - 1) % 64)) (above-child node j small)
        ∙ ap (λ m. bit (get_or words node 0) m) (bit-child node j small) in
        omega (arith, here, at, highest.set);
    rest = λ n more few.
        let here = said n (omega (arith, more)) (omega (arith, few, above)) in
        let parts = child-above n (omega (arith, more)) in
        let small_rest = mod_below (n - 1) 64 (omega arith) in
        none_said words n (sym here ∙ elim (cases_lt node ((n - 1) / 64)) [
          | inl beyond ↦ no_word words ((n - 1) / 64) ((n - 1) % 64) (last.rest ((n - 1) / 64) beyond (omega (arith, parts, few, small_rest)))
          | inr within ↦
              let same : (n - 1) / 64 ≡ node = omega (arith, within, parts, more, small_rest) in
              ap (λ m. bit (get_or words m 0) ((n - 1) % 64)) same ∙ highest.highest ((n - 1) % 64) (omega (arith, same, parts, more))
        ]);
  }

  -- without a bit at the root there is none
  pub all_none : (fuel n : ℕ) → length words ≤ 64 * leaves + 1 → get_or words 0 0 ≡ 0 → n ≤ fuel → get_or words n 0 ≡ 0
  all_none fuel zero ends root few = root
  all_none zero (suc n) ends root few = absurd (omega (arith, few))
  all_none (suc fuel) (suc n) ends root few = elim (cases_lt (64 * leaves) (suc n)) [
    | inl beyond ↦ get_or_past words (suc n) 0 (omega (arith, beyond, ends))
    | inr within ↦
        let parts = child-above (suc n) (omega arith) in
        let ih = all_none fuel ((suc n - 1) / 64) ends root (omega (arith, parts, few)) in
        none_said words (suc n) (sym (said (suc n) (omega arith) within) ∙ no_word words ((suc n - 1) / 64) ((suc n - 1) % 64) ih)
  ]

  pub none_in : (p : ℕ) → length words ≤ 64 * leaves + 1 → get_or words 0 0 ≡ 0 → times_in leaves words p ≡ 0
  none_in p ends root = no_word words (leaves + p / 64) (p % 64) (all_none (leaves + p / 64) (leaves + p / 64) ends root (omega arith))

-- the highest bit of the last leaf with a bit is the greatest position
module _ (leaves node j : ℕ) (words : List ℕ) (last : IsLastOf leaves node words) (highest : IsHighest (get_or words node 0) j) (small : j < 64) where
  leaf_of : leaves + ((node - leaves) * 64 + j) / 64 ≡ node
  leaf_of = let e = div-mul-add (node - leaves) 64 j small in omega (arith, e, last.from)

  pub last_in : times_in leaves words ((node - leaves) * 64 + j) ≡ 1
  last_in =
      ap (λ m. bit (get_or words m 0) (((node - leaves) * 64 + j) % 64)) leaf_of
      ∙ ap (λ m. bit (get_or words node 0) m) (mod-mul-add (node - leaves) 64 j small) ∙ highest.set

  pub last_greatest : length words ≤ 64 * leaves + 1 → (p : ℕ) → 0 < times_in leaves words p → p ≤ (node - leaves) * 64 + j
  last_greatest ends p some =
      let word = some_bit (get_or words (leaves + p / 64) 0) (p % 64) some in
      let parts = div-add-mod' p 64 in
      let within : leaves + p / 64 ≤ node = elim (cases_lt node (leaves + p / 64)) [
        | inl beyond ↦ elim (cases_lt (64 * leaves) (leaves + p / 64)) [
          | inl past ↦ let none = get_or_past words (leaves + p / 64) 0 (omega (arith, past, ends)) in absurd (omega (arith, none, word))
          | inr in_level ↦ let none = last.rest (leaves + p / 64) beyond in_level in absurd (omega (arith, none, word))
        ]
        | inr l ↦ l
      ] in
      elim (cases_eq (leaves + p / 64) node) [
        | inl same ↦
            let low : p % 64 ≤ j = elim (cases_lt j (p % 64)) [
              | inl high ↦
                  let none = ap (λ m. bit (get_or words m 0) (p % 64)) same ∙ highest.highest (p % 64) high in
                  absurd (omega (arith, none, some))
              | inr l ↦ l
            ] in
            omega (arith, parts, low, same)
        | inr before ↦ omega (arith, parts, mod_below p 64 (omega arith), within, before)
      ]

-- one of two numbers is 0 if the least of them is
pub one_is_0 : (a b : ℕ) → min a b ≤ 0 → (a ≡ 0) ⊎ (b ≡ 0)
one_is_0 zero b none = inl refl
one_is_0 (suc a) zero none = inr refl
one_is_0 (suc a) (suc b) none = absurd (omega (arith, none))

-- a word that is not 0 is one of the words
pub in_words : (words : List ℕ) (n : ℕ) → 0 < get_or words n 0 → n < length words
in_words words n some = elim (cases_lt n (length words)) [
  | inl l ↦ l
  | inr past ↦ let none = get_or_past words n 0 past in absurd (omega (arith, none, some))
]

-- a position in the set has its word
pub in_room : (leaves : ℕ) (words : List ℕ) (p : ℕ) → times_in leaves words p ≡ 1 → leaves + p / 64 < length words
in_room leaves words p one = elim (cases_lt (leaves + p / 64) (length words)) [
  | inl l ↦ l
  | inr past ↦
      let none = no_word words (leaves + p / 64) (p % 64) (get_or_past words (leaves + p / 64) 0 past) in absurd (omega (arith, none, one))
]

-- without words there is no bit
pub none_of_zeros : (words : List ℕ) → ((n : ℕ) → get_or words n 0 ≡ 0) → (leaves p : ℕ) → times_in leaves words p ≡ 0
none_of_zeros words zeros leaves p = no_word words (leaves + p / 64) (p % 64) (zeros (leaves + p / 64))

pub IsSaid_zeros : (words : List ℕ) → ((n : ℕ) → get_or words n 0 ≡ 0) → (leaves : ℕ) → IsSaid leaves words
IsSaid_zeros words zeros leaves n some low =
    let z = zeros n in
    no_word words ((n - 1) / 64) ((n - 1) % 64) (zeros ((n - 1) / 64)) ∙ sym (ap (λ m. min 1 m) z)

-- what a position is after one was flipped
pub flipped_in : (leaves : ℕ) (words after : List ℕ) (q : ℕ) → leaves + q / 64 < length words → length words ≤ 64 * leaves + 1
    → get_or after (leaves + q / 64) 0 ≡ bit_xor (get_or words (leaves + q / 64) 0) (2 ^ (q % 64))
    → ((n : ℕ) → (leaves + q / 64 - 1) / 64 < n → n ≢ leaves + q / 64 → get_or after n 0 ≡ get_or words n 0)
    → (p : ℕ) → times_in leaves after p ≡ cond (eqb q p) (1 - times_in leaves words p) (times_in leaves words p)
flipped_in leaves words after q within ends at others p = elim (cases_eq (leaves + p / 64) (leaves + q / 64)) [
  | inl leaf ↦
      let here : get_or after (leaves + p / 64) 0 ≡ bit_xor (get_or words (leaves + p / 64) 0) (2 ^ (q % 64)) =
      ap (λ m. get_or after m 0) leaf ∙ at ∙ ap (λ m. bit_xor (get_or words m 0) (2 ^ (q % 64))) (sym leaf) in
      elim (cases_eq (p % 64) (q % 64)) [
        | inl same ↦
            let e : q ≡ p = omega (arith, div-add-mod' p 64, div-add-mod' q 64, leaf, same) in
            let t = eq-eqb q p e in
            rw t (ap (λ w. bit w (p % 64)) here ∙ ap (λ m. bit (bit_xor (get_or words (leaves + p / 64) 0) (2 ^ m)) (p % 64)) (sym same)
            ∙ bit_flipped (get_or words (leaves + p / 64) 0) (p % 64))
        | inr other ↦
            let f : eqb q p ≡ false = ne_eqb q p (λ e. other (ap (λ m. m % 64) (sym e))) in
            rw f (ap (λ w. bit w (p % 64)) here ∙ bit_stays (get_or words (leaves + p / 64) 0) (q % 64) (p % 64) other)
      ]
  | inr away ↦
      let f : eqb q p ≡ false = ne_eqb q p (λ e. away (ap (λ m. leaves + m / 64) (sym e))) in
      let above : (leaves + q / 64 - 1) / 64 < leaves + p / 64 = above_leaf leaves (leaves + q / 64) (leaves + p / 64) (omega (arith, within, ends)) (omega arith) away (omega arith) in
      rw f (ap (λ w. bit w (p % 64)) (others (leaves + p / 64) above away))
]
  where
    above_leaf : (leaves a b : ℕ) → a ≤ 64 * leaves → leaves ≤ b → b ≢ a → leaves ≤ a → (a - 1) / 64 < b
    above_leaf leaves a b few from other begins =
        let parts = div-add-mod' (a - 1) 64 in
        elim (cases_lt 0 leaves) [
          | inl some ↦ omega (arith, parts, few, from, some)
          | inr none ↦ omega (arith, parts, few, from, none, other)
        ]
