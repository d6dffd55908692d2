-- The entries before a cursor, in it and behind it, once it has passed one of them.
use Rattle.std.proofs.Common.{◌≡◌, ℕ, zero, suc, ◌+◌, ◌-◌, ◌<◌, ◌≤◌, min, List, [], ◌∷◌, ◌++◌, length, take, drop, Some, slice_get, refl, sym, ap, ◌∙◌, arith}
use Rattle.std.proofs.lemmas.List.{length-take, length-drop, take_min}
use Rattle.clru_model.specs.Entries.{with_value_at}
use Rattle.clru_model.proofs.Ends.{last_of}
use Rattle.clru.specs.Walks.{Passes, PassesBack, cursor_rest, last_index, stepped, stepped_back}
use Rattle.clru.specs.declared.cursor.CLruCacheIterMut.{CLruCacheIterMut}

module _ {K V : Type 0} (k : K) (x v : V) where
  -- with v at the index i, where the stretch goes up to `end`
  record IsPassed (i end : ℕ) (es : List (K × V)) : Type 0 where
    rest : drop i (take end es) ≡ (k, x) ∷ drop (suc i) (take end (with_value_at i v es))
    before : take (suc i) (take end (with_value_at i v es)) ≡ take i (take end es) ++ (k, v) ∷ []
    after : drop end (with_value_at i v es) ≡ drop end es

  passed : (i end : ℕ) (es : List (K × V)) → i < end → slice_get es i ≡ Some (k, x) → IsPassed i end es
  passed i zero es lt at = absurd (omega (arith, lt))
  passed i (suc n) [] lt at = cc
  passed zero (suc n) (e ∷ es) lt at =
      let same : e ≡ (k, x) = cc in record { rest = ap (λ d. d ∷ take n es) same; before = ap (λ d. (d.0, v) ∷ []) same; after = refl }
  passed (suc i) (suc n) (e ∷ es) lt at =
      let ih = passed i n es (omega (arith, lt)) at in record { rest = ih.rest; before = ap (λ l. e ∷ l) ih.before; after = ih.after }

  -- the same at its last index j
  record IsPassedBack (i j : ℕ) (es : List (K × V)) : Type 0 where
    rest : drop i (take (suc j) es) ≡ drop i (take j (with_value_at j v es)) ++ (k, x) ∷ []
    before : take i (take j (with_value_at j v es)) ≡ take i (take (suc j) es)
    after : drop j (with_value_at j v es) ≡ (k, v) ∷ drop (suc j) es

  passed_back : (i j : ℕ) (es : List (K × V)) → i ≤ j → slice_get es j ≡ Some (k, x) → IsPassedBack i j es
  passed_back i j [] le at = cc
  passed_back zero zero (e ∷ es) le at =
      let same : e ≡ (k, x) = cc in record { rest = ap (λ d. d ∷ []) same; before = refl; after = ap (λ d. (d.0, v) ∷ es) same }
  passed_back (suc i) zero (e ∷ es) le at = absurd (omega (arith, le))
  passed_back zero (suc j) (e ∷ es) le at =
      let ih = passed_back zero j es (omega arith) at in record { rest = ap (λ l. e ∷ l) ih.rest; before = refl; after = ih.after }
  passed_back (suc i) (suc j) (e ∷ es) le at =
      let ih = passed_back i j es (omega (arith, le)) at in record { rest = ih.rest; before = ap (λ l. e ∷ l) ih.before; after = ih.after }

module _ {X : Type 0} where
  -- past the end of a list is where it ends
  drop-min : (n : ℕ) (xs : List X) → drop (min n (length xs)) xs ≡ drop n xs
  drop-min zero xs = let none : min 0 (length xs) ≡ 0 = omega arith in ap (λ k. drop k xs) none
  drop-min (suc n) [] = let none : min (suc n) 0 ≡ 0 = omega arith in ap (λ k. drop {A = X} k []) none
  drop-min (suc n) (x ∷ xs) = let less : min (suc n) (suc (length xs)) ≡ suc (min n (length xs)) = omega arith in
      ap (λ k. drop k (x ∷ xs)) less ∙ drop-min n xs

module _ {K V S A H : Type 0} (c : CLruCacheIterMut K V S A H) where
  -- how many are left
  pub length-rest : length (cursor_rest c) ≡ min c.end (length c.cache.now.entries) - c.done
  length-rest = let es = c.cache.now.entries in omega (arith, length-drop c.done (take c.end es), length-take c.end es)

  pub passes : (k : K) (x v : V) → 0 < length (cursor_rest c) → slice_get c.cache.now.entries c.done ≡ Some (k, x)
      → Passes c x v (stepped c v)
  passes k x v left at =
      let es = c.cache.now.entries in let new = with_value_at c.done v es in
      let p = passed k x v c.done c.end es (omega (arith, left, length-rest)) at in
      let next : suc c.done ≡ c.done + 1 = omega arith in
      record {
        key = k;
        rest = p.rest ∙ ap (λ n. (k, x) ∷ drop n (take c.end new)) next;
        before = ap (λ n. take n (take c.end new)) (sym next) ∙ p.before;
        after = p.after;
        cache = refl;
      }

  pub passes_back : (k : K) (x v : V) → 0 < length (cursor_rest c) → slice_get c.cache.now.entries (last_index c) ≡ Some (k, x)
      → PassesBack c x v (stepped_back c v)
  passes_back k x v left at =
      let es = c.cache.now.entries in
      let p = passed_back k x v c.done (last_index c) es (omega (arith, left, length-rest)) at in
      let next : suc (last_index c) ≡ min c.end (length es) = omega (arith, left, length-rest) in
      record {
        key = k;
        rest = ap (drop c.done) (sym (take_min c.end es) ∙ ap (λ n. take n es) (sym next)) ∙ p.rest;
        before = p.before ∙ ap (take c.done) (ap (λ n. take n es) next ∙ take_min c.end es);
        after = p.after ∙ ap (λ l. (k, v) ∷ l) (ap (λ n. drop n es) next ∙ drop-min c.end es);
        cache = refl;
      }

  -- the first of those that are left, and the last
  pub first-left : (k : K) (x : V) → 0 < length (cursor_rest c) → slice_get c.cache.now.entries c.done ≡ Some (k, x)
      → slice_get (cursor_rest c) 0 ≡ Some (k, x)
  unfolding passes
  first-left k x left at = let p = passes k x x left at in ap (λ l. slice_get l 0) p.rest

  pub last-left : (k : K) (x : V) → 0 < length (cursor_rest c) → slice_get c.cache.now.entries (last_index c) ≡ Some (k, x)
      → slice_get (cursor_rest c) (length (cursor_rest c) - 1) ≡ Some (k, x)
  unfolding passes_back
  last-left k x left at =
      let p = passes_back k x x left at in
      ap (λ l. slice_get l (length l - 1)) p.rest ∙ (last_of (k, x) (cursor_rest (stepped_back c x))).0
