-- The marks of requests at two capacities, and after one more request.
use Rattle.std.proofs.Common.{◌≡◌, ℕ, ◌+◌, ◌≤◌, Bool, cond, not, List, [], arith}
use Rattle.std.proofs.Common.{◌∷◌, ◌++◌, reverse, refl, sym, ap, ◌∙◌, append_assoc, append-nil}
use Rattle.std.proofs.lemmas.List.{reverse-append}
use Rattle.std.proofs.lemmas.List.Sums.{sum_by-cons, sum_by-append, sum_by_push}
use Rattle.std.specs.List.{count_by}
use Rattle.clru_model.proofs.Cases.{split}
use Rattle.clru_model.specs.Requests.{hit, marks_after, marks, misses}

-- how many marks are false, with one more in front
pub count_by-not-cons : (m : Bool) (ms : List Bool) → count_by not (m ∷ ms) ≡ cond m 0 1 + count_by not ms
count_by-not-cons m ms = sum_by-cons (λ b. cond (not b) 1 0) m ms ∙ split m (λ t. rw t refl) (λ f. rw f refl)

-- how many marks are false, with one more at the end
pub count_by-not-push : (ms : List Bool) (m : Bool) → count_by not (ms ++ m ∷ []) ≡ count_by not ms + cond m 0 1
count_by-not-push ms m = sum_by_push (λ b. cond (not b) 1 0) ms m ∙ split m (λ t. rw t refl) (λ f. rw f refl)

-- how many marks of two lists in a row are false
pub count_by-not-append : (ms ns : List Bool) → count_by not (ms ++ ns) ≡ count_by not ms + count_by not ns
count_by-not-append = sum_by-append (λ b. cond (not b) 1 0)

-- what a mark misses of a size is that size at most
pub missed-le : (b : Bool) (z : ℕ) → cond b 0 z ≤ z
missed-le b z = split b (λ t. rw t (omega arith)) (λ f. rw f (omega arith))

module _ {K : Type 0} (eq : K → K → Bool) where
  -- a reversed list before another one, element by element
  pub reverse-cons-append : (x : K) (xs ys : List K) → reverse (x ∷ xs) ++ ys ≡ reverse xs ++ (x ∷ ys)
  reverse-cons-append x xs ys = ap (λ l. l ++ ys) (reverse-append (x ∷ []) xs) ∙ append_assoc (reverse xs) (x ∷ []) ys

  -- the marks of two lists of requests in a row
  pub marks_after-append : (past : List K) (k : ℕ) (xs ys : List K)
      → marks_after eq k past (xs ++ ys) ≡ marks_after eq k past xs ++ marks_after eq k (reverse xs ++ past) ys
  marks_after-append past k [] ys = refl
  marks_after-append past k (x ∷ xs) ys =
      ap (λ l. hit eq k x past ∷ l) (marks_after-append (x ∷ past) k xs ys
      ∙ ap (λ l. marks_after eq k (x ∷ past) xs ++ marks_after eq k l ys) (sym (reverse-cons-append x xs past)))

  -- the marks after one more request
  pub marks_after_push : (past : List K) (k : ℕ) (xs : List K) (x : K)
      → marks_after eq k past (xs ++ x ∷ []) ≡ marks_after eq k past xs ++ hit eq k x (reverse xs ++ past) ∷ []
  marks_after_push past k xs x = marks_after-append past k xs (x ∷ [])

  -- the same from the start
  pub marks_push : (k : ℕ) (xs : List K) (x : K) → marks eq k (xs ++ x ∷ []) ≡ marks eq k xs ++ hit eq k x (reverse xs) ∷ []
  marks_push k xs x = marks_after_push [] k xs x ∙ ap (λ l. marks eq k xs ++ hit eq k x l ∷ []) (append-nil (reverse xs))

  -- the misses after one more request
  pub misses_push : (k : ℕ) (xs : List K) (x : K) → misses eq k (xs ++ x ∷ []) ≡ misses eq k xs + cond (hit eq k x (reverse xs)) 0 1
  misses_push k xs x = ap (count_by not) (marks_push k xs x) ∙ count_by-not-push (marks eq k xs) (hit eq k x (reverse xs))
