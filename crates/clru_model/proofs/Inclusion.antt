-- The entries that a run of calls leaves at a capacity begin those that it leaves at a greater one.
use Rattle.std.proofs.Common.{◌≡◌, ℕ, zero, suc, ◌+◌, ◌-◌, ◌<◌, ◌≤◌, leb, ltb, lt-ltb, Bool, true, List, [], ◌∷◌, ◌++◌, length, take, drop, refl, sym, ap, subst, arith, length-append}
use Rattle.std.proofs.lemmas.Bool.{leb-true, le-leb}
use Rattle.clru_model.specs.Entries.{without, fit}
use Rattle.clru_model.proofs.Cases.{split}
use Rattle.clru_model.specs.Runs.{Call, put_with_weight, pop, pop_front, pop_back, clear, peek, contains, after, after_all, IsTaken, AreTaken}

-- the first list begins the second
abbrev Begins : {X : Type 0} → List X → List X → Type 0
Begins {X} p es = (rest : List X) × (es ≡ p ++ rest)

begins-take : {X : Type 0} (m n : ℕ) (p rest : List X) → m ≤ n → Begins (take m p) (take n (p ++ rest))
begins-take zero n p rest less = (take n (p ++ rest), refl)
begins-take (suc m) zero p rest less = absurd (omega arith)
begins-take (suc m) (suc n) [] rest less = (take (suc n) rest, refl)
begins-take (suc m) (suc n) (x ∷ p) rest less = let (r, e) = begins-take m n p rest (omega arith) in (r, ap (λ l. x ∷ l) e)

begins-but_last : {X : Type 0} (p rest : List X) → Begins (take (length p - 1) p) (take (length (p ++ rest) - 1) (p ++ rest))
begins-but_last p rest = begins-take (length p - 1) (length (p ++ rest) - 1) p rest (omega (arith, length-append p rest))

begins-drop : {X : Type 0} (p rest : List X) → Begins (drop 1 p) (drop 1 (p ++ rest))
begins-drop [] rest = (drop 1 rest, refl)
begins-drop (x ∷ p) rest = (rest, refl)

module _ {K V : Type 0} (eq : K → K → Bool) where
  begins-without : (x : K) (p rest : List (K × V)) → Begins (without eq x p) (without eq x (p ++ rest))
  begins-without x [] rest = (without eq x rest, refl)
  begins-without x (e ∷ p) rest =
      split (eq x e.0) (λ t. (rest, rw t refl)) (λ f. let (r, same) = begins-without x p rest in (r, rw f (ap (λ l. e ∷ l) same)))

module _ {K V : Type 0} (weight : K → V → ℕ) where
  begins-fit : (c d : ℕ) (p rest : List (K × V)) → c ≤ d → Begins (fit weight c p) (fit weight d (p ++ rest))
  unfolding fit
  begins-fit c d [] rest less = (fit weight d rest, refl)
  begins-fit c d (e ∷ p) rest less =
      let w = 1 + weight e.0 e.1 in
      split (leb w c)
      (λ t. let there : leb w d ≡ true = le-leb w d (omega (arith, leb-true w c t)) in
      let (r, same) = begins-fit (c - w) (d - w) p rest (omega arith) in (r, rw (t, there) (ap (λ l. e ∷ l) same)))
      (λ f. (fit weight d (e ∷ (p ++ rest)), rw f refl))

module _ {K V : Type 0} (eq : K → K → Bool) (weight : K → V → ℕ) (c d : ℕ) (more : c ≤ d) where
  begins-put : (x : K) (v : V) (p rest : List (K × V)) → weight x v < c
      → Begins (after eq weight c (put_with_weight x v) p) (after eq weight d (put_with_weight x v) (p ++ rest))
  begins-put x v p rest light =
      let w = weight x v in
      let (r, same) = begins-without eq x p rest in
      let (r', all) = begins-fit weight (c - 1 - w) (d - 1 - w) (without eq x p) r (omega arith) in
      let at_c : ltb w c ≡ true = lt-ltb w c light in
      let at_d : ltb w d ≡ true = lt-ltb w d (omega arith) in
      (r', rw (at_c, at_d, same) (ap (λ l. (x, v) ∷ l) all))

  begins-call : (call : Call K V) (p rest : List (K × V)) → IsTaken weight c call
      → Begins (after eq weight c call p) (after eq weight d call (p ++ rest))
  begins-call (put_with_weight x v) p rest light = begins-put x v p rest light
  begins-call (pop x) p rest taken = begins-without eq x p rest
  begins-call pop_front p rest taken = begins-drop p rest
  begins-call pop_back p rest taken = begins-but_last p rest
  begins-call clear p rest taken = ([], refl)
  begins-call (peek x) p rest taken = (rest, refl)
  begins-call (contains x) p rest taken = (rest, refl)

  begins-calls : (calls : List (Call K V)) (p rest : List (K × V)) → AreTaken weight c calls
      → Begins (after_all eq weight c calls p) (after_all eq weight d calls (p ++ rest))
  begins-calls [] p rest taken = (rest, refl)
  begins-calls (call ∷ calls) p rest taken =
      let next = after eq weight c call p in
      let (r, same) = begins-call call p rest taken.0 in
      subst (λ l. Begins (after_all eq weight c calls next) (after_all eq weight d calls l)) (sym same) (begins-calls calls next r taken.1)

  -- from empty lists
  pub after_all_begins : (calls : List (Call K V)) → AreTaken weight c calls
      → (rest : List (K × V)) × (after_all eq weight d calls [] ≡ after_all eq weight c calls [] ++ rest)
  after_all_begins calls taken = begins-calls calls [] [] taken
