-- The times of fetches at some capacities, and what is missed there, one capacity after another.
use Rattle.std.proofs.Common.{◌≡◌, ◌≢◌, ℕ, ◌+◌, ◌<◌, ◌≤◌, Bool, true, false, cond, nat_lt, List, ◌++◌, length, replicate, get_or, set, inl, inr, refl, sym, ap, ◌∙◌, subst, arith, length-set, get_or-set_other, get_or-set_same}
use Rattle.std.proofs.lemmas.Bool.{cases_lt, lt-ltb}
use Rattle.std.proofs.lemmas.Bool.Decides.{nat_tests}
use Rattle.std.proofs.lemmas.List.{get_or-append-add, get_or-replicate}
use Rattle.clru_model.proofs.Cases.{split}
use Rattle.clru_curve.specs.Fetches.{AreCounted, AreFetched}

pub AreCounted-none : (hits : ℕ → Bool) (amount : ℕ) (xs : List ℕ) → AreCounted hits 0 amount xs xs
AreCounted-none hits amount xs = record { same_length = refl; counted = λ i within. absurd (omega (arith, within)); rest = λ i far. refl }

-- none that is at least a number is less
pub none_less : (i n : ℕ) → n ≤ i → nat_lt i n ≡ false
none_less i n far = grind (arith, nat_tests)

-- below a number all hit
pub AreCounted-hits : (n amount : ℕ) (xs : List ℕ) → AreCounted (λ i. nat_lt i n) n amount xs xs
AreCounted-hits n amount xs = record {
  same_length = refl;
  counted = λ i within. rw (lt-ltb i n within) (omega arith);
  rest = λ i far. refl;
}

-- what hits in one way alike hits in the other
pub AreCounted-alike : (hits hits' : ℕ → Bool) (n amount : ℕ) (old new : List ℕ) → ((i : ℕ) → i < n → hits i ≡ hits' i)
    → AreCounted hits n amount old new → AreCounted hits' n amount old new
AreCounted-alike hits hits' n amount old new alike are = record {
  same_length = are.same_length;
  counted = λ i within. are.counted i within ∙ ap (λ b. get_or old i 0 + cond b 0 amount) (alike i within);
  rest = are.rest;
}

-- said of the same in other words
pub AreCounted-as : (hits hits' : ℕ → Bool) (n n' amount : ℕ) (old old' new : List ℕ) → hits ≡ hits' → n ≡ n' → old ≡ old'
    → AreCounted hits n amount old new → AreCounted hits' n' amount old' new
AreCounted-as hits hits' n n' amount old old' new same many was are =
    subst (λ h. AreCounted h n' amount old' new) same
    (subst (λ m. AreCounted hits m amount old' new) many (subst (λ l. AreCounted hits n amount l new) was are))

pub AreFetched-as : (hits hits' : ℕ → Bool) (n n' first first' time : ℕ) (old old' new : List ℕ) → hits ≡ hits' → n ≡ n' → first ≡ first' → old ≡ old'
    → AreFetched hits n first time old new → AreFetched hits' n' first' time old' new
AreFetched-as hits hits' n n' first first' time old old' new same many from was are =
    subst (λ h. AreFetched h n' first' time old' new) same
    (subst (λ m. AreFetched hits m first' time old' new) many
    (subst (λ m. AreFetched hits n m time old' new) from (subst (λ l. AreFetched hits n first time l new) was are)))

-- first some, then the others
pub AreCounted-then : (hits hits' all : ℕ → Bool) (m n amount : ℕ) (old mid new : List ℕ) → m ≤ n
    → AreCounted hits m amount old mid → AreCounted hits' n amount mid new
    → ((i : ℕ) → i < m → (hits' i ≡ true) × (all i ≡ hits i)) → ((i : ℕ) → m ≤ i → i < n → all i ≡ hits' i)
    → AreCounted all n amount old new
AreCounted-then hits hits' all m n amount old mid new less first then low high = record {
  same_length = then.same_length ∙ first.same_length;
  counted = λ i within. elim (cases_lt i m) [
    | inl lt ↦ let both = low i lt in
        then.counted i within ∙ ap (λ b. get_or mid i 0 + cond b 0 amount) both.0
        ∙ omega (arith, first.counted i lt, ap (λ b. cond b 0 amount) both.1)
    | inr ge ↦ then.counted i within ∙ cc (first.rest i ge, ap (λ b. cond b 0 amount) (sym (high i ge within)))
  ];
  rest = λ i far. then.rest i far ∙ first.rest i (omega (arith, less, far));
}

pub AreCounted-more : (hits : ℕ → Bool) (n amount : ℕ) (old new : List ℕ) → n < length old → AreCounted hits n amount old new
    → AreCounted hits (n + 1) amount old (cond (hits n) new (set new n (get_or new n 0 + amount)))
AreCounted-more hits n amount old new inside are =
    let here = are.rest n (omega arith) in
    split (hits n)
    (λ t. rw t (record {
      same_length = are.same_length;
      counted = λ i below. elim (cases_lt i n) [
        | inl lt ↦ are.counted i lt
        | inr ge ↦ let same : n ≡ i = omega arith in
            subst (λ j. get_or new j 0 ≡ get_or old j 0 + cond (hits j) 0 amount) same (rw t (omega (arith, here)))
      ];
      rest = λ i far. are.rest i (omega (arith, far));
    }))
    (λ f. rw f (record {
      same_length = length-set new n (get_or new n 0 + amount) ∙ are.same_length;
      counted = λ i below. elim (cases_lt i n) [
        | inl lt ↦ let ne : i ≢ n = omega arith in get_or-set_other new n i (get_or new n 0 + amount) 0 ne ∙ are.counted i lt
        | inr ge ↦ let same : n ≡ i = omega arith in
            let within : n < length new = omega (arith, inside, are.same_length) in
            subst (λ j. get_or (set new n (get_or new n 0 + amount)) j 0 ≡ get_or old j 0 + cond (hits j) 0 amount) same
            (rw f (omega (arith, get_or-set_same new n (get_or new n 0 + amount) 0 within, here)))
      ];
      rest = λ i far. let ne : i ≢ n = omega (arith, far) in
          get_or-set_other new n i (get_or new n 0 + amount) 0 ne ∙ are.rest i (omega (arith, far));
    }))

pub AreFetched-none : (hits : ℕ → Bool) (first time : ℕ) (xs : List ℕ) → AreFetched hits 0 first time xs xs
AreFetched-none hits first time xs =
    record { same_length = refl; fetched = λ i within. absurd (omega (arith, within)); below = λ q low. refl; above = λ q far. refl }

pub AreFetched-more : (hits : ℕ → Bool) (n first time : ℕ) (old new : List ℕ) → first + n < length old → AreFetched hits n first time old new
    → AreFetched hits (n + 1) first time old (cond (hits n) new (set new (first + n) time))
AreFetched-more hits n first time old new inside are =
    let here = are.above (first + n) (omega arith) in
    split (hits n)
    (λ t. rw t (record {
      same_length = are.same_length;
      fetched = λ i below. elim (cases_lt i n) [
        | inl lt ↦ are.fetched i lt
        | inr ge ↦ let same : n ≡ i = omega arith in
            subst (λ j. get_or new (first + j) 0 ≡ cond (hits j) (get_or old (first + j) 0) time) same (rw t here)
      ];
      below = are.below;
      above = λ q far. are.above q (omega (arith, far));
    }))
    (λ f. rw f (record {
      same_length = length-set new (first + n) time ∙ are.same_length;
      fetched = λ i below. elim (cases_lt i n) [
        | inl lt ↦ let ne : first + i ≢ first + n = omega arith in get_or-set_other new (first + n) (first + i) time 0 ne ∙ are.fetched i lt
        | inr ge ↦ let same : n ≡ i = omega arith in
            let within : first + n < length new = omega (arith, inside, are.same_length) in
            subst (λ j. get_or (set new (first + n) time) (first + j) 0 ≡ cond (hits j) (get_or old (first + j) 0) time) same
            (rw f (get_or-set_same new (first + n) time 0 within))
      ];
      below = λ q low. let ne : q ≢ first + n = omega (arith, low) in get_or-set_other new (first + n) q time 0 ne ∙ are.below q low;
      above = λ q far. let ne : q ≢ first + n = omega (arith, far) in
          get_or-set_other new (first + n) q time 0 ne ∙ are.above q (omega (arith, far));
    }))

-- the times of a new key come behind all others
pub AreFetched-new : (n time : ℕ) (ts ts' : List ℕ) → ts' ≡ ts ++ replicate n time
    → AreFetched (λ i. false) n (length ts) time (ts ++ replicate n time) ts'
AreFetched-new n time ts ts' is = subst (AreFetched (λ i. false) n (length ts) time (ts ++ replicate n time)) (sym is) (record {
  same_length = refl;
  fetched = λ i within. get_or-append-add ts (replicate n time) i 0 ∙ get_or-replicate n i time 0 within;
  below = λ q low. refl;
  above = λ q far. refl;
})

-- no number grows past a bound that its amount leaves room for
pub AreCounted-below : (hits : ℕ → Bool) (n amount bound : ℕ) (old new : List ℕ) → AreCounted hits n amount old new
    → ((i : ℕ) → get_or old i 0 ≤ bound) → (i : ℕ) → get_or new i 0 ≤ bound + amount
AreCounted-below hits n amount bound old new are below i = elim (cases_lt i n) [
  | inl lt ↦ let at = are.counted i lt in split (hits i)
      (λ t. let e : get_or new i 0 ≡ get_or old i 0 + 0 = rw t at at in omega (arith, e, below i))
      (λ f. let e : get_or new i 0 ≡ get_or old i 0 + amount = rw f at at in omega (arith, e, below i))
  | inr ge ↦ omega (arith, are.rest i ge, below i)
]
