-- Paths along links, and how often a place is on them.
use Rattle.std.proofs.Common.{◌≡◌, ℕ, ◌+◌, ◌<◌, ◌≤◌, List, [], ◌∷◌, ◌++◌, refl, sym, ap, ◌∙◌, arith, subst}
use Rattle.clru_list.specs.Places.{put, count}
use Rattle.clru_list.specs.Links.{IsPath}
use Rattle.clru_list.proofs.Puts.{decide, put-here, put-other}

-- ---- counts

pub count-append : (k : ℕ) (ps qs : List ℕ) → count k (ps ++ qs) ≡ count k ps + count k qs
count-append k [] qs = omega arith
count-append k (p ∷ ps) qs = let ih = count-append k ps qs in omega arith

pub count-here : (k : ℕ) (ps : List ℕ) → count k (k ∷ ps) ≡ 1 + count k ps
count-here k ps = decide k k (λ _ t. rw t refl) (λ ne _. absurd (ne refl))

pub count-other : (k p : ℕ) (ps : List ℕ) → (k ≡ p → ⊥) → count k (p ∷ ps) ≡ count k ps
count-other k p ps ne = decide k p (λ e _. absurd (ne e)) (λ _ f. rw f (omega arith))

-- a place that is not counted with p is not p
pub apart_head : (k p : ℕ) (ps : List ℕ) → count k (p ∷ ps) ≡ 0 → k ≡ p → ⊥
apart_head k p ps h e = let P : ℕ → Type 0 = λ m. count m (p ∷ ps) ≡ 0 in let here = count-here p ps in absurd (omega (arith, subst P e h))

pub apart_tail : (k p : ℕ) (ps : List ℕ) → count k (p ∷ ps) ≡ 0 → count k ps ≡ 0
apart_tail k p ps h = omega arith

pub count-le-cons : (k p : ℕ) (ps : List ℕ) → count k ps ≤ count k (p ∷ ps)
count-le-cons k p ps = omega arith

-- the last of the places, or what comes before them
abbrev pub last_or : ℕ → List ℕ → ℕ
last_or a [] = a
last_or a (p ∷ ps) = last_or p ps

-- the first of the places, or what comes behind them
abbrev pub first_or : ℕ → List ℕ → ℕ
first_or b [] = b
first_or b (p ∷ ps) = p

pub last_or-counted : (a : ℕ) (ps : List ℕ) → 0 < count (last_or a ps) (a ∷ ps)
last_or-counted a [] = let here = count-here a [] in omega arith
last_or-counted a (p ∷ ps) = let ih = last_or-counted p ps in let le = count-le-cons (last_or p ps) a (p ∷ ps) in omega arith

pub first_or-counted : (b : ℕ) (ps : List ℕ) → 0 < count (first_or b ps) (b ∷ ps)
first_or-counted b [] = let here = count-here b [] in omega arith
first_or-counted b (p ∷ ps) = let here = count-here p ps in let le = count-le-cons p b (p ∷ ps) in omega arith

-- ---- paths

pub path_join : (f : ℕ → ℕ) (a : ℕ) (ps : List ℕ) (q : ℕ) (qs : List ℕ) (b : ℕ) → IsPath f a ps q → IsPath f q qs b → IsPath f a (ps ++ q ∷ qs) b
path_join f a [] q qs b first second = (first, second)
path_join f a (p ∷ ps) q qs b first second = (first.0, path_join f p ps q qs b first.1 second)

pub path_left : (f : ℕ → ℕ) (a : ℕ) (ps : List ℕ) (q : ℕ) (qs : List ℕ) (b : ℕ) → IsPath f a (ps ++ q ∷ qs) b → IsPath f a ps q
path_left f a [] q qs b h = h.0
path_left f a (p ∷ ps) q qs b h = (h.0, path_left f p ps q qs b h.1)

pub path_right : (f : ℕ → ℕ) (a : ℕ) (ps : List ℕ) (q : ℕ) (qs : List ℕ) (b : ℕ) → IsPath f a (ps ++ q ∷ qs) b → IsPath f q qs b
path_right f a [] q qs b h = h.1
path_right f a (p ∷ ps) q qs b h = path_right f p ps q qs b h.1

-- a link that is on no path's start
pub path-outside : (f : ℕ → ℕ) (k v a : ℕ) (ps : List ℕ) (b : ℕ) → count k (a ∷ ps) ≡ 0 → IsPath f a ps b → IsPath (put f k v) a ps b
path-outside f k v a [] b h path = put-other f k v a (apart_head k a [] h) ∙ path
path-outside f k v a (p ∷ ps) b h path =
    (put-other f k v a (apart_head k a (p ∷ ps) h) ∙ path.0, path-outside f k v p ps b (apart_tail k a (p ∷ ps) h) path.1)

-- the last link leads elsewhere
pub path-redirect : (f : ℕ → ℕ) (v a : ℕ) (ps : List ℕ) (b : ℕ) → ((k : ℕ) → count k (a ∷ ps) ≤ 1) → IsPath f a ps b
    → IsPath (put f (last_or a ps) v) a ps v
path-redirect f v a [] b once path = put-here f a v a refl
path-redirect f v a (p ∷ ps) b once path =
    let last = last_or-counted p ps in
    let ne : last_or p ps ≡ a → ⊥ = λ e.
    let P : ℕ → Type 0 = λ m. 0 < count m (p ∷ ps) in let held = subst P e last in let here = count-here a (p ∷ ps) in absurd (omega (arith, once a)) in (
      put-other f (last_or p ps) v a ne ∙ path.0,
      path-redirect f v p ps b (λ k. let le = count-le-cons k a (p ∷ ps) in omega (arith, once k)) path.1,
    )

-- where a path leads from its last place, and to its first
pub path_last : (f : ℕ → ℕ) (a : ℕ) (ps : List ℕ) (b : ℕ) → IsPath f a ps b → f (last_or a ps) ≡ b
path_last f a [] b path = path
path_last f a (p ∷ ps) b path = path_last f p ps b path.1

pub path_first : (f : ℕ → ℕ) (a : ℕ) (ps : List ℕ) (b : ℕ) → IsPath f a ps b → f a ≡ first_or b ps
path_first f a [] b path = path
path_first f a (p ∷ ps) b path = path.0

-- each link leads to a place of the path, or to its end
pub path_closed : (f : ℕ → ℕ) (a : ℕ) (ps : List ℕ) (b k : ℕ) → IsPath f a ps b → 0 < count k (a ∷ ps) → 0 < count (f k) (b ∷ ps)
path_closed f a [] b k path h =
    decide k a (λ e _. let here = count-here b [] in let P : ℕ → Type 0 = λ m. 0 < count m (b ∷ []) in subst P (sym (ap f e ∙ path)) (omega arith))
    (λ ne _. let none = count-other k a [] ne in absurd (omega arith))
path_closed f a (p ∷ ps) b k path h =
    decide k a
    (λ e _. let P : ℕ → Type 0 = λ m. 0 < count m (b ∷ (p ∷ ps)) in let here = count-here p ps in let le = count-le-cons p b (p ∷ ps) in
    subst P (sym (ap f e ∙ path.0)) (omega arith))
    (λ ne _. let other = count-other k a (p ∷ ps) ne in let ih = path_closed f p ps b k path.1 (omega arith) in omega arith)
