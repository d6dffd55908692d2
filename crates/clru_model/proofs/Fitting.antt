-- The longest beginning that fits, and what a weighted put keeps by it.
use Rattle.std.proofs.Common.{◌≡◌, ℕ, ◌+◌, ◌-◌, ◌<◌, ◌≤◌, leb, true, false, cond, List, [], ◌∷◌, ◌++◌, length, refl, sym, ap, ◌∙◌, subst, inl, inr, arith, length-append, append_assoc, append-nil}
use Rattle.std.proofs.lemmas.Bool.{leb-true, leb-false, cases_lt}
use Rattle.clru_model.specs.Entries.{weight_of, size_of, fit, IsLongestFit}
use Rattle.clru_model.proofs.Sublists.{IsSublist, sublist_front, length-sublist}
use Rattle.clru_model.proofs.Weights.{weight_of-cons, weight_of-push}

module _ {K V : Type 0} (weight : K → V → ℕ) where
  pub size_of-cons : (e : K × V) (es : List (K × V)) → size_of weight (e ∷ es) ≡ 1 + weight e.0 e.1 + size_of weight es
  size_of-cons e es = omega (arith, weight_of-cons weight e es)

  too_long : (c : ℕ) (e : K × V) (es q back : List (K × V)) → c < 1 + weight e.0 e.1 → e ∷ es ≡ q ++ back → size_of weight q ≤ c → length q ≤ 0
  too_long c e es [] back h same small = omega arith
  too_long c e es (d ∷ ds) back h same small =
      let first : e ≡ d = cc in let w : weight e.0 e.1 ≡ weight d.0 d.1 = ap (λ (x : K × V). weight x.0 x.1) first in
      absurd (omega (arith, size_of-cons d ds, w))

  longer : (c : ℕ) (e : K × V) (es p q back : List (K × V)) → 1 + weight e.0 e.1 ≤ c
      → ((q back : List (K × V)) → es ≡ q ++ back → size_of weight q ≤ c - (1 + weight e.0 e.1) → length q ≤ length p)
      → e ∷ es ≡ q ++ back → size_of weight q ≤ c → length q ≤ length (e ∷ p)
  longer c e es p [] back h rest same small = omega arith
  longer c e es p (d ∷ ds) back h rest same small =
      let first : e ≡ d = cc in let w : weight e.0 e.1 ≡ weight d.0 d.1 = ap (λ (x : K × V). weight x.0 x.1) first in
      let tail : es ≡ ds ++ back = cc in
      omega (arith, rest ds back tail (omega (arith, size_of-cons d ds, w)))

  -- `fit` is it
  pub fit_is_longest : (c : ℕ) (es : List (K × V)) → IsLongestFit weight c es (fit weight c es)
  unfolding fit
  fit_is_longest c [] = record {
    rest = [];
    begins = refl;
    fits = omega arith;
    longest = λ q back same small. omega
        (arith, ap length same, length-append q back);
  }
  fit_is_longest c (e ∷ es) = (elim (leb (1 + weight e.0 e.1) c) as
      (λ b. leb (1 + weight e.0 e.1) c ≡ b → IsLongestFit weight c (e ∷ es) (cond b (e ∷ fit weight (c - (1 + weight e.0 e.1)) es) [])) [
        | true ↦ λ t. let h = leb-true (1 + weight e.0 e.1) c t in let f = fit_is_longest (c - (1 + weight e.0 e.1)) es in record {
          rest = f.rest;
          begins = ap (λ l. e ∷ l) f.begins;
          fits = omega (arith, size_of-cons e (fit weight (c - (1 + weight e.0 e.1)) es), f.fits);
          longest = λ q back same small. longer c e es (fit weight (c - (1 + weight e.0 e.1)) es) q back h f.longest same small;
        }
        | false ↦ λ t. record {
          rest = e ∷ es;
          begins = refl;
          fits = omega arith;
          longest = λ q back same small. too_long c e es q back
              (leb-false (1 + weight e.0 e.1) c t) same small;
        }
      ]) refl

-- two beginnings of one list that are as long are the same
same_beginning : {X : Type 0} (p q back other : List X) → p ++ back ≡ q ++ other → length p ≡ length q → p ≡ q
same_beginning [] [] back other same len = refl
same_beginning [] (y ∷ ys) back other same len = absurd (omega arith)
same_beginning (x ∷ xs) [] back other same len = absurd (omega arith)
same_beginning (x ∷ xs) (y ∷ ys) back other same len =
    let head : x ≡ y = cc in let tail : xs ++ back ≡ ys ++ other = cc in let rest : xs ≡ ys = same_beginning xs ys back other tail (omega arith) in cc

-- no other beginning is the longest that fits
pub longest_is_fit : {K V : Type 0} (weight : K → V → ℕ) (c : ℕ) (es p : List (K × V)) → IsLongestFit weight c es p → p ≡ fit weight c es
longest_is_fit weight c es p l =
    let f = fit_is_longest weight c es in
    same_beginning p (fit weight c es) l.rest f.rest (sym l.begins ∙ f.begins)
    (omega (arith, l.longest (fit weight c es) f.rest f.begins f.fits, f.longest p l.rest l.begins l.fits))

-- p is a beginning of the list that each one that fits is a beginning of
pub record IsTooLongFit {K V : Type 0} (weight : K → V → ℕ) (c : ℕ) (es p : List (K × V)) : Type 0 where
  pub rest : List (K × V)
  pub begins : es ≡ p ++ rest
  pub longest : (q back : List (K × V)) → es ≡ q ++ back → size_of weight q ≤ c → length q ≤ length p

module _ {K V : Type 0} (weight : K → V → ℕ) (c : ℕ) where
  -- while it does not fit, its last pair can go
  shorter_is_too_long : (es p : List (K × V)) (e : K × V) → IsTooLongFit weight c es (p ++ e ∷ []) → c < size_of weight (p ++ e ∷ [])
      → IsTooLongFit weight c es p
  shorter_is_too_long es p e long over = record {
    rest = e ∷ long.rest;
    begins = long.begins ∙ append_assoc p (e ∷ []) long.rest;
    longest = λ q back same small. elim (cases_lt (length p) (length q)) [
      | inl h ↦ let as_long : length q ≡ length (p ++ e ∷ []) = omega (arith, long.longest q back same small, length-append p (e ∷ [])) in
          let all : q ≡ p ++ e ∷ [] = same_beginning q (p ++ e ∷ []) back long.rest (sym same ∙ long.begins) as_long in
          absurd (omega (arith, ap (size_of weight) all))
      | inr h ↦ h
    ];
  }

  -- and its weight goes with it
  pub last_goes : (es p left : List (K × V)) (k : K) (v : V) (kept : ℕ) → p ≡ left ++ (k, v) ∷ [] → kept ≡ weight_of weight p
      → c < length p + kept → IsTooLongFit weight c es p
      → (kept - weight k v ≡ weight_of weight left) × (size_of weight left ≤ size_of weight p) × IsTooLongFit weight c es left
  last_goes es p left k v kept is weighs over long =
      let sum = weight_of-push weight left (k, v) in let len = length-append left ((k, v) ∷ []) in let all = ap (weight_of weight) is in
      let longer = ap length is in
      (omega arith, omega arith, shorter_is_too_long es left (k, v) (subst (IsTooLongFit weight c es) is long) (omega arith))

  -- the whole list is too long, or fits
  pub whole_is_too_long : (es : List (K × V)) → IsTooLongFit weight c es es
  whole_is_too_long es = record {
    rest = [];
    begins = sym (append-nil es);
    longest = λ q back same small. omega (arith, ap length same, length-append q back);
  }

  -- once it fits it is the longest
  pub too_long_fits : (es p : List (K × V)) → IsTooLongFit weight c es p → size_of weight p ≤ c → p ≡ fit weight c es
  too_long_fits es p long fits = longest_is_fit weight c es p (record { rest = long.rest; begins = long.begins; fits = fits; longest = long.longest })

module _ {K V : Type 0} (weight : K → V → ℕ) where
  pub sublist_fit : (c : ℕ) (es : List (K × V)) → IsSublist es (fit weight c es)
  sublist_fit c es = let f = fit_is_longest weight c es in subst (λ l. IsSublist l (fit weight c es)) (sym f.begins)
      (sublist_front (fit weight c es) f.rest)

  pub size_of-fit : (c : ℕ) (es : List (K × V)) → size_of weight (fit weight c es) ≤ c
  size_of-fit c es = (fit_is_longest weight c es).fits

  -- what does not fit whole gets shorter
  nil_rest : (p rest : List (K × V)) → length rest ≡ 0 → p ++ rest ≡ p
  nil_rest p [] h = append-nil p
  nil_rest p (e ∷ es) h = absurd (omega arith)

  pub length-fit : (c : ℕ) (es : List (K × V)) → c < size_of weight es → length (fit weight c es) < length es
  length-fit c es over = let f = fit_is_longest weight c es in elim (cases_lt (length (fit weight c es)) (length es)) [
    | inl h ↦ h
    | inr h ↦ let none : length f.rest ≡ 0 = omega (arith, ap length f.begins, length-append (fit weight c es) f.rest) in
        let whole : es ≡ fit weight c es = f.begins ∙ nil_rest (fit weight c es) f.rest none in
        absurd (omega (arith, f.fits, ap (size_of weight) whole))
  ]

  -- the list that the put leaves, by the room as the code has it
  pub weighted_front : {x : K} {v : V} {items rest fs : List (K × V)} (room c : ℕ) → room ≡ c - 1 - weight x v → rest ≡ fs
      → items ≡ (x, v) ∷ fit weight room rest → items ≡ (x, v) ∷ fit weight (c - 1 - weight x v) fs
  weighted_front {x} {v} {rest = rest} room c is same put = put ∙ ap (λ r. (x, v) ∷ fit weight r rest) is ∙ ap
      (λ l. (x, v) ∷ fit weight (c - 1 - weight x v) l) same

  -- there is room for the new pair
  pub free_after_fit : (c p : ℕ) (es : List (K × V)) → (size_of weight es ≤ c → length es < p) → length es ≤ p → length (fit weight c es) < p
  free_after_fit c p es free held = elim (cases_lt c (size_of weight es)) [
    | inl over ↦ omega (arith, length-fit c es over)
    | inr all ↦ omega (arith, free all, length-sublist (sublist_fit c es))
  ]
