-- The hits by size of requests, after one more request, and what sorted hits make of a curve.
use Rattle.std.proofs.Common.{◌≡◌, ℕ, ◌+◌, Bool, true, false, cond, not, nat_le, List, [], ◌∷◌, ◌++◌, reverse, append-nil, refl, sym, ap, ◌∙◌, arith}
use Rattle.std.proofs.lemmas.List.{length_push, reverse-append, reverse-reverse}
use Rattle.std.proofs.lemmas.List.Sums.{sum_by-cons, sum_by_push}
use Rattle.std.specs.List.{count_by}
use Rattle.clru_model.proofs.Cases.{split}
use Rattle.clru_model.proofs.Marks.{count_by-not-push, reverse-cons-append}
use Rattle.clru_model.specs.Requests.{holds, since, distinct}
use Rattle.clru_model.specs.Sizes.{total, hit_by_size, marks_by_size_after, misses_by_size, missed_size_after, missed_size}
use Rattle.clru_curve.specs.declared.sized.step.Step.{Step}
use Rattle.clru_curve.specs.SizedCurves.{step, hits_within}
use Rattle.clru_curve.specs.SizedPasses.{hit_size, AreHits}

pub count_by-cons : {X : Type 0} (p : X → Bool) (x : X) (xs : List X) → count_by p (x ∷ xs) ≡ cond (p x) 1 0 + count_by p xs
count_by-cons p x xs = sum_by-cons (λ y. cond (p y) 1 0) x xs

pub count_by_push : {X : Type 0} (p : X → Bool) (xs : List X) (x : X) → count_by p (xs ++ x ∷ []) ≡ count_by p xs + cond (p x) 1 0
count_by_push p xs x = sum_by_push (λ y. cond (p y) 1 0) xs x

module _ {K : Type 0} (eq : K → K → Bool) (weight : K → ℕ) (c : ℕ) where
  -- the marks after one more request
  marks_by_size_push : (past xs : List K) (x : K) → marks_by_size_after eq weight c past (xs ++ x ∷ [])
      ≡ marks_by_size_after eq weight c past xs ++ hit_by_size eq weight c x (reverse xs ++ past) ∷ []
  marks_by_size_push past [] x = refl
  marks_by_size_push past (y ∷ ys) x =
      ap (λ l. hit_by_size eq weight c y past ∷ l) (marks_by_size_push (y ∷ past) ys x
      ∙ ap (λ l. marks_by_size_after eq weight c (y ∷ past) ys ++ hit_by_size eq weight c x l ∷ []) (sym (reverse-cons-append eq y ys past)))

  -- and the size that is missed
  missed_size_push : (past xs : List K) (x : K) → missed_size_after eq weight c past (xs ++ x ∷ [])
      ≡ missed_size_after eq weight c past xs + cond (hit_by_size eq weight c x (reverse xs ++ past)) 0 (1 + weight x)
  missed_size_push past [] x = omega arith
  missed_size_push past (y ∷ ys) x =
      let ih = missed_size_push (y ∷ past) ys x in
      let turned = ap (λ l. cond (hit_by_size eq weight c x l) 0 (1 + weight x)) (reverse-cons-append eq y ys past) in
      omega (arith, ih, turned)

  turn : (past : List K) → reverse (reverse past) ++ [] ≡ past
  turn past = append-nil (reverse (reverse past)) ∙ reverse-reverse past

  misses_by_size-cons : (x : K) (past : List K)
      → misses_by_size eq weight c (reverse (x ∷ past)) ≡ misses_by_size eq weight c (reverse past) + cond (hit_by_size eq weight c x past) 0 1
  misses_by_size-cons x past =
      ap (misses_by_size eq weight c) (reverse-append (x ∷ []) past) ∙ ap (count_by not) (marks_by_size_push [] (reverse past) x)
      ∙ count_by-not-push (marks_by_size_after eq weight c [] (reverse past)) (hit_by_size eq weight c x (reverse (reverse past) ++ []))
      ∙ ap (λ l. misses_by_size eq weight c (reverse past) + cond (hit_by_size eq weight c x l) 0 1) (turn past)

  missed_size-cons : (x : K) (past : List K)
      → missed_size eq weight c (reverse (x ∷ past)) ≡ missed_size eq weight c (reverse past) + cond (hit_by_size eq weight c x past) 0 (1 + weight x)
  missed_size-cons x past =
      ap (missed_size eq weight c) (reverse-append (x ∷ []) past) ∙ missed_size_push [] (reverse past) x
      ∙ ap (λ l. missed_size eq weight c (reverse past) + cond (hit_by_size eq weight c x l) 0 (1 + weight x)) (turn past)

module _ {K : Type 0} (eq : K → K → Bool) (weight : K → ℕ) where
  pub AreHits-none : AreHits eq weight [] []
  AreHits-none = record { misses = λ c. refl; size = λ c. refl; again = refl }

  -- a key that was not requested before
  pub AreHits-new : (past : List K) (hits : List Step) (x : K) → AreHits eq weight past hits → holds eq x past ≡ false
      → AreHits eq weight (x ∷ past) hits
  AreHits-new past hits x are absent = record {
    misses = λ c.
        let pushed = misses_by_size-cons eq weight c x past in
        let miss : hit_by_size eq weight c x past ≡ false = rw absent refl in
        let one : misses_by_size eq weight c (reverse (x ∷ past)) ≡ misses_by_size eq weight c (reverse past) + 1 = rw miss at pushed in
        omega (arith, one, are.misses c);
    size = λ c.
        let pushed = missed_size-cons eq weight c x past in
        let miss : hit_by_size eq weight c x past ≡ false = rw absent refl in
        let one : missed_size eq weight c (reverse (x ∷ past)) ≡ missed_size eq weight c (reverse past) + (1 + weight x) = rw miss at pushed in
        omega (arith, one, are.size c, sum_by-cons (λ y. 1 + weight y) x past);
    again =
        let more : distinct eq (x ∷ past) ≡ 1 + distinct eq past = rw absent refl in
        omega (arith, more, are.again);
  }

  -- a key that was requested before, and its span
  pub AreHits-again : (past : List K) (hits : List Step) (x : K) → AreHits eq weight past hits → holds eq x past ≡ true
      → AreHits eq weight (x ∷ past) (hits ++ step (1 + weight x + total eq weight (since eq x past)) (1 + weight x) ∷ [])
  AreHits-again past hits x are held =
      let s : ℕ = 1 + weight x + total eq weight (since eq x past) in
      let h : Step = step s (1 + weight x) in
      record {
        misses = λ c.
            let pushed = misses_by_size-cons eq weight c x past in
            let more = count_by_push (λ g. nat_le g.capacity c) hits h in
            split (nat_le s c)
            (λ t. let here : hit_by_size eq weight c x past ≡ true = rw held t in
            let same : misses_by_size eq weight c (reverse (x ∷ past)) ≡ misses_by_size eq weight c (reverse past) + 0 = rw here at pushed in
            let one : hits_within c (hits ++ h ∷ []) ≡ hits_within c hits + 1 = rw t at more in
            omega (arith, same, one, are.misses c))
            (λ f. let here : hit_by_size eq weight c x past ≡ false = rw held f in
            let one : misses_by_size eq weight c (reverse (x ∷ past)) ≡ misses_by_size eq weight c (reverse past) + 1 = rw here at pushed in
            let same : hits_within c (hits ++ h ∷ []) ≡ hits_within c hits + 0 = rw f at more in
            omega (arith, same, one, are.misses c));
        size = λ c.
            let pushed = missed_size-cons eq weight c x past in
            let more = sum_by_push (λ g. cond (nat_le g.capacity c) g.missed_size 0) hits h in
            let all = sum_by-cons (λ y. 1 + weight y) x past in
            split (nat_le s c)
            (λ t. let here : hit_by_size eq weight c x past ≡ true = rw held t in
            let same : missed_size eq weight c (reverse (x ∷ past)) ≡ missed_size eq weight c (reverse past) + 0 = rw here at pushed in
            let one : hit_size c (hits ++ h ∷ []) ≡ hit_size c hits + (1 + weight x) = rw t at more in
            omega (arith, same, one, all, are.size c))
            (λ f. let here : hit_by_size eq weight c x past ≡ false = rw held f in
            let one : missed_size eq weight c (reverse (x ∷ past)) ≡ missed_size eq weight c (reverse past) + (1 + weight x) = rw here at pushed in
            let same : hit_size c (hits ++ h ∷ []) ≡ hit_size c hits + 0 = rw f at more in
            omega (arith, same, one, all, are.size c));
        again =
            let same : distinct eq (x ∷ past) ≡ distinct eq past = rw held refl in
            omega (arith, same, length_push hits h, are.again);
      }
