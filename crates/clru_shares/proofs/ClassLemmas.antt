-- Names in the order of bytes, and what one more line adds to the lines of a class.
use Rattle.std.proofs.Common.{◌≡◌, ℕ, ◌+◌, ◌<◌, ◌≤◌, ◌||◌, Bool, true, false, cond, zero, suc, Less, Equal, Greater, Ordering, List, [], ◌∷◌, ◌++◌, length, get_or, append-nil, inl, inr, refl, sym, ap, ◌∙◌, subst, arith}
use Rattle.std.specs.Prelude.{bytes_eq, Result, Ok, Err, IfOk, IfErr}
use Rattle.std.specs.List.{insert, list_any}
use Rattle.std.specs.Ordering.{is_eq, is_lt, nat_cmp, ordering_reverse}
use Rattle.std.specs.Cmp.Lexicographic.{slice_cmp}
use Rattle.std.proofs.lemmas.Bool.{cases_eq, cases_lt}
use Rattle.std.proofs.lemmas.Cmp.{nat_list_cmp_total}
use Rattle.std.proofs.lemmas.Map.Text.{is_eq-slice_cmp}
use Rattle.std.proofs.lemmas.List.Edits.{length-insert, get_or-insert_at, get_or-insert_above, get_or-insert_below}
use Rattle.std.proofs.lemmas.List.Elements.{filter-append}
use Rattle.clru_model.proofs.Cases.{split}
use Rattle.clru_text.proofs.ByteLemmas.{bytes_laws, same_bytes}
use Rattle.clru_shares.specs.Classes.{AreAscending, IsBefore, class_in, of_class, requests_of}
use Rattle.clru_shares.specs.Passes.{BelongsAt, IsHeldAt, IsPlaceOf}

less_of : (o : Ordering) → is_lt o ≡ true → o ≡ Less
less_of Less is = refl
less_of Equal is = absurd (cc)
less_of Greater is = absurd (cc)

-- of two classes in order each is not the other
pub differs : (a b : List ℕ) → IsBefore a b → bytes_eq a b ≡ false
differs a b before = sym (is_eq-slice_cmp a b) ∙ ap is_eq (less_of (slice_cmp nat_cmp a b) before)

pub differs_back : (a b : List ℕ) → IsBefore a b → bytes_eq b a ≡ false
differs_back a b before = bytes_laws.symm b a ∙ differs a b before

pub before_trans : (a b c : List ℕ) → IsBefore a b → IsBefore b c → IsBefore a c
before_trans a b c p q =
    ap is_lt (nat_list_cmp_total.trans a b c (less_of (slice_cmp nat_cmp a b) p) (less_of (slice_cmp nat_cmp b c) q))

-- one more line is one of the class, or is not
module _ (name : List ℕ) (lines : List (List ℕ)) (line : List ℕ) where
  pub one_more : bytes_eq name (class_in line) ≡ true → requests_of name (lines ++ line ∷ []) ≡ requests_of name lines ++ line ∷ []
  one_more is = filter-append (λ l. bytes_eq name (class_in l)) lines (line ∷ [])
      ∙ ap (λ b. requests_of name lines ++ cond b (line ∷ []) []) is

  pub none_more : bytes_eq name (class_in line) ≡ false → requests_of name (lines ++ line ∷ []) ≡ requests_of name lines
  none_more is = filter-append (λ l. bytes_eq name (class_in l)) lines (line ∷ [])
      ∙ ap (λ b. requests_of name lines ++ cond b (line ∷ []) []) is ∙ append-nil (requests_of name lines)

-- and so is one more request
module _ (name : List ℕ) (requests : List (List ℕ × ℕ)) (r : List ℕ × ℕ) where
  pub one_asked : bytes_eq name (class_in r.0) ≡ true → of_class name (requests ++ r ∷ []) ≡ of_class name requests ++ r ∷ []
  one_asked is = filter-append (λ (q : List ℕ × ℕ). bytes_eq name (class_in q.0)) requests (r ∷ [])
      ∙ ap (λ b. of_class name requests ++ cond b (r ∷ []) []) is

  pub none_asked : bytes_eq name (class_in r.0) ≡ false → of_class name (requests ++ r ∷ []) ≡ of_class name requests
  none_asked is = filter-append (λ (q : List ℕ × ℕ). bytes_eq name (class_in q.0)) requests (r ∷ [])
      ∙ ap (λ b. of_class name requests ++ cond b (r ∷ []) []) is ∙ append-nil (of_class name requests)

-- a name at its place
module _ (names : List (List ℕ)) (name : List ℕ) (at : ℕ) where
  -- those at other places are others
  pub held_alone : AreAscending names → IsHeldAt names name at → (k : ℕ) → k < length names → (k ≡ at → ⊥)
      → bytes_eq (get_or names k []) name ≡ false
  held_alone asc held k low other = elim (cases_lt k at) [
    | inl lt ↦ subst (λ n. bytes_eq (get_or names k []) n ≡ false) held.is (differs (get_or names k []) (get_or names at []) (asc k at lt held.within))
    | inr ge ↦ subst (λ n. bytes_eq (get_or names k []) n ≡ false) held.is
        (differs_back (get_or names at []) (get_or names k []) (asc at k (omega (arith, ge, other)) low))
  ]

  pub missing_each : BelongsAt names name at → (k : ℕ) → k < length names → bytes_eq (get_or names k []) name ≡ false
  missing_each is k low = elim (cases_lt k at) [
    | inl lt ↦ differs (get_or names k []) name (is.behind k lt)
    | inr ge ↦ differs_back name (get_or names k []) (is.before k ge low)
  ]

-- a list has no name that differs from each
pub not_any : (names : List (List ℕ)) (name : List ℕ) → ((k : ℕ) → k < length names → bytes_eq (get_or names k []) name ≡ false)
    → list_any (bytes_eq name) names ≡ false
not_any [] name each = refl
not_any (n ∷ names) name each =
    rw (bytes_laws.symm name n ∙ each 0 (omega arith)) (not_any names name (λ k low. each (suc k) (omega (arith, low))))

-- and has one that is at a place
pub is_any : (names : List (List ℕ)) (name : List ℕ) (k : ℕ) → k < length names → get_or names k [] ≡ name
    → list_any (bytes_eq name) names ≡ true
is_any [] name k low is = absurd (omega (arith, low))
is_any (n ∷ names) name zero low is = rw (ap (bytes_eq name) is ∙ bytes_laws.refl name) refl
is_any (n ∷ names) name (suc k) low is =
    split (bytes_eq name n) (λ t. rw t refl) (λ f. rw f (is_any names name k (omega (arith, low)) is))

or_false : (p q : Bool) → (p || q) ≡ false → (q ≡ false) × (p ≡ false)
or_false true q is = absurd (cc)
or_false false q is = (is, refl)

-- what no name of a list is, is none of those before, behind or at a place
pub none_inserted : (names : List (List ℕ)) (x name : List ℕ) (at : ℕ) → list_any (bytes_eq name) (insert names at x) ≡ false
    → (list_any (bytes_eq name) names ≡ false) × (bytes_eq name x ≡ false)
none_inserted names x name zero none = or_false (bytes_eq name x) (list_any (bytes_eq name) names) none
none_inserted [] x name (suc at) none = (refl, (or_false (bytes_eq name x) false none).1)
none_inserted (n ∷ names) x name (suc at) none =
    let parts = or_false (bytes_eq name n) (list_any (bytes_eq name) (insert names at x)) none in
    let rest = none_inserted names x name at parts.0 in
    (rw parts.1 rest.0, rest.1)

-- what stands above the place is one further on
shifted : (names : List (List ℕ)) (name : List ℕ) (at : ℕ) → BelongsAt names name at → (j : ℕ) → at ≤ j
    → get_or (insert names at name) (suc j) [] ≡ get_or names j []
shifted names name at is j more =
    let next : suc j ≡ j + 1 = omega arith in
    ap (λ k. get_or (insert names at name) k []) next ∙ get_or-insert_above names at name [] j more is.within

both_above : (names : List (List ℕ)) (name : List ℕ) (at : ℕ) → AreAscending names → BelongsAt names name at
    → (i j : ℕ) → at < i → i < suc j → j < length names → IsBefore (get_or (insert names at name) i []) (get_or names j [])
both_above names name at asc is zero j more lt low = absurd (omega (arith, more))
both_above names name at asc is (suc i) j more lt low =
    subst (λ n. IsBefore n (get_or names j [])) (sym (shifted names name at is i (omega (arith, more)))) (asc i j (omega (arith, lt)) low)

-- above the place
above : (names : List (List ℕ)) (name : List ℕ) (at : ℕ) → AreAscending names → BelongsAt names name at
    → length (insert names at name) ≡ length names + 1 → (i j : ℕ) → i < j → j < length (insert names at name) → at < j
    → IsBefore (get_or (insert names at name) i []) (get_or (insert names at name) j [])
above names name at asc is long i zero lt low more = absurd (omega (arith, more))
above names name at asc is long i (suc j) lt low more =
    subst (λ n. IsBefore (get_or (insert names at name) i []) n) (sym (shifted names name at is j (omega (arith, more))))
    (elim (cases_lt i at) [
      | inl below ↦ rw (get_or-insert_below names at name [] i below is.within) (asc i j (omega (arith, below, more)) (omega (arith, low, long)))
      | inr from ↦ elim (cases_eq i at) [
        | inl here ↦ rw here (rw (get_or-insert_at names at name [] is.within) (is.before j (omega (arith, more)) (omega (arith, low, long))))
        | inr other ↦ both_above names name at asc is i j (omega (arith, from, other)) lt (omega (arith, low, long))
      ]
    ])

-- with one more name where it belongs they still ascend
pub inserted_ascends : (names : List (List ℕ)) (name : List ℕ) (at : ℕ) → AreAscending names → BelongsAt names name at
    → AreAscending (insert names at name)
inserted_ascends names name at asc is i j lt low =
    let long = length-insert names at name is.within in
    elim (cases_lt j at) [
      | inl below ↦ rw (get_or-insert_below names at name [] i (omega (arith, lt, below)) is.within, get_or-insert_below names at name [] j below is.within)
          (asc i j lt (omega (arith, below, is.within)))
      | inr from ↦ elim (cases_eq j at) [
        | inl here ↦ rw here (rw (get_or-insert_at names at name [] is.within, get_or-insert_below names at name [] i (omega (arith, lt, here)) is.within)
            (is.behind i (omega (arith, lt, here))))
        | inr other ↦ above names name at asc is long i j lt low (omega (arith, from, other))
      ]
    ]

-- where a name is found, or belongs
module _ (names : List (List ℕ)) (name : List ℕ) (at : ℕ) where
  pub held_found : at < length names → slice_cmp nat_cmp (get_or names at []) name ≡ Equal → IsHeldAt names name at
  held_found within same = record {
    within = within;
    is = same_bytes (get_or names at []) name (sym (is_eq-slice_cmp (get_or names at []) name) ∙ ap is_eq same);
  }

  turned : slice_cmp nat_cmp (get_or names at []) name ≡ Greater → IsBefore name (get_or names at [])
  turned greater = ap is_lt (nat_list_cmp_total.antisymm name (get_or names at []) ∙ ap ordering_reverse greater)

  pub belongs_found : AreAscending names → ((k : ℕ) → k < at → IsBefore (get_or names k []) name) → at < length names
      → slice_cmp nat_cmp (get_or names at []) name ≡ Greater → BelongsAt names name at
  belongs_found asc behind within greater = record {
    within = omega (arith, within);
    behind = behind;
    before = λ k from low. elim (cases_eq k at) [
      | inl here ↦ subst (λ i. IsBefore name (get_or names i [])) (sym here) (turned greater)
      | inr apart ↦ before_trans name (get_or names at []) (get_or names k []) (turned greater) (asc at k (omega (arith, from, apart)) low)
    ];
  }

  pub belongs_last : at ≡ length names → ((k : ℕ) → k < at → IsBefore (get_or names k []) name) → BelongsAt names name at
  belongs_last last behind = record {
    within = omega (arith, last);
    behind = behind;
    before = λ k from low. absurd (omega (arith, last, from, low));
  }

  pub before_more : ((k : ℕ) → k < at → IsBefore (get_or names k []) name) → IsBefore (get_or names at []) name
      → (k : ℕ) → k < at + 1 → IsBefore (get_or names k []) name
  before_more behind here k low = elim (cases_eq k at) [
    | inl same ↦ subst (λ i. IsBefore (get_or names i []) name) (sym same) here
    | inr apart ↦ behind k (omega (arith, low, apart))
  ]

-- where it is, or else belongs
pub place_of_each : (names : List (List ℕ)) (name : List ℕ) (place : Result ℕ ℕ) → IfOk place (IsHeldAt names name)
    → IfErr place (BelongsAt names name) → IsPlaceOf names name place
place_of_each names name (Ok at) held missing = held
place_of_each names name (Err at) held missing = missing
