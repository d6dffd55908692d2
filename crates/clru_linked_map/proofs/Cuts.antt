-- A walk along a chain, seen from a place on it: a step further, a place put in there, and the next place taken out.
use Rattle.std.proofs.Common.{◌≡◌, ℕ, ◌+◌, ◌<◌, ◌≤◌, ◌==◌, true, List, [], ◌∷◌, ◌++◌, refl, sym, ap, ◌∙◌, subst, arith, inl, inr}
use Rattle.std.proofs.lemmas.Bool.{cases_eq, eq-eqb, ne_eqb}
use Rattle.clru_list.specs.Places.{nowhere, put, count, IsRest}
use Rattle.clru_linked_map.specs.Chained.{IsCut, IsCutBehind}
use Rattle.clru_list.proofs.Paths.{count-append}
use Rattle.clru_list.proofs.Puts.{put-here, put-other}
use Rattle.clru_linked_map.proofs.Chains.{count_here, reaches_meets, reaches_same, reaches_next, path_same, path_join}

-- the whole walk, seen from its start
pub whole_cut : (f met : ℕ → ℕ) (ps : List ℕ) → IsRest f (f nowhere) ps → ((q : ℕ) → count q (nowhere ∷ []) + count q ps ≡ met q)
    → IsCut f met nowhere
whole_cut f met ps path once = record { before = []; rest = ps; behind = refl; ahead = path; once = once }

-- the place at which a walk stands is met
pub cut_here : {f met : ℕ → ℕ} {at : ℕ} → IsCut f met at → 0 < met at
cut_here {f} {met} {at} c =
    let here : 0 < count at (nowhere ∷ c.before) = reaches_meets f nowhere c.before at c.behind in
    omega (arith, here, c.once at)

-- the next place, if there is one, stands first in the rest
pub rest_of_next : (f met : ℕ → ℕ) (at p : ℕ) (rest : List ℕ) → IsRest f (f at) rest → f at ≡ p → (p ≡ nowhere → ⊥)
    → (later : List ℕ) × (rest ≡ p ∷ later) × IsRest f (f p) later
rest_of_next f met at p [] path step is = absurd (is (sym step ∙ path))
rest_of_next f met at p (q ∷ qs) path step is =
    let same : q ≡ p = sym path.0 ∙ step in (qs, ap (λ x. x ∷ qs) same, subst (λ x. IsRest f (f x) qs) same path.1)

-- the next place is met
pub cut_next : {f met : ℕ → ℕ} {at : ℕ} → IsCut f met at → (p : ℕ) → f at ≡ p → (p ≡ nowhere → ⊥) → 0 < met p
cut_next {f} {met} {at} c p step is =
    let (later, same, path) = rest_of_next f met at p c.rest c.ahead step is in
    let there : 0 < count p c.rest = rw same (count_here p later) in
    omega (arith, there, c.once p)

-- it was not passed
pub next_not_passed : {f met : ℕ → ℕ} {at : ℕ} → (c : IsCut f met at) → (p : ℕ) → met p ≤ 1 → f at ≡ p → (p ≡ nowhere → ⊥)
    → (q : ℕ) → 0 < count q (nowhere ∷ c.before) → q ≡ p → ⊥
next_not_passed {f} {met} {at} c p single step is q passed e =
    let (later, same, path) = rest_of_next f met at p c.rest c.ahead step is in
    let there : 0 < count p c.rest = rw same (count_here p later) in
    let here = subst (λ x. 0 < count x (nowhere ∷ c.before)) e passed in
    omega (arith, there, here, c.once p, single)

-- one step further
abbrev pub cut_step : {f met : ℕ → ℕ} {at : ℕ} → IsCut f met at → (p : ℕ) → f at ≡ p → (p ≡ nowhere → ⊥) → IsCut f met p
cut_step {f} {met} {at} c p step is =
    let (later, same, path) = rest_of_next f met at p c.rest c.ahead step is in
    record {
      before = c.before ++ p ∷ [];
      rest = later;
      behind = reaches_next f nowhere c.before at p c.behind step;
      ahead = path;
      once = λ q. let all = rw same at (c.once q) in omega (arith, all, count-append q c.before (p ∷ []));
    }

-- a place that a walk passed, or where it stands, is met
pub passed_met : {f met : ℕ → ℕ} {behind at : ℕ} → (c : IsCutBehind f met behind at) → 0 < met behind
passed_met {f} {met} {behind} {at} c = omega (arith, c.passed, c.cut.once behind)

pub cut_passed : {f met : ℕ → ℕ} {at : ℕ} → (c : IsCut f met at) → 0 < count at (nowhere ∷ c.before)
cut_passed {f} {met} {at} c = reaches_meets f nowhere c.before at c.behind

-- at the start nothing is behind
pub behind_start : {f met : ℕ → ℕ} → IsCut f met nowhere → IsCutBehind f met nowhere nowhere
behind_start c = record { cut = c; passed = count_here nowhere c.before }

-- one step further, the walk has passed where it stood
pub behind_step : {f met : ℕ → ℕ} {behind at : ℕ} → IsCutBehind f met behind at → (p : ℕ) → f at ≡ p → (p ≡ nowhere → ⊥) → IsCutBehind f met at p
behind_step {f} {met} {behind} {at} c p step is = record {
  cut = cut_step c.cut p step is;
  passed = let here = cut_passed c.cut in omega (arith, here, count-append at c.cut.before (p ∷ []));
}

-- a walk that is at its end has no rest
rest_at_end : (f : ℕ → ℕ) (at : ℕ) (rest : List ℕ) → IsRest f (f at) rest → f at ≡ nowhere → count nowhere rest ≡ 0 → rest ≡ []
rest_at_end f at [] path step none = refl
rest_at_end f at (p ∷ ps) path step none =
    let t : (nowhere == p) ≡ true = eq-eqb nowhere p (sym step ∙ path.0) in let some = rw t at none in absurd (omega (arith, some))

-- the walk is the same where the steps of the places met are
pub cut_same : {f met : ℕ → ℕ} {at : ℕ} → IsCut f met at → (g met' : ℕ → ℕ) → ((q : ℕ) → 0 < met q → g q ≡ f q)
    → ((q : ℕ) → met' q ≡ met q) → met at ≤ 1 → IsCut g met' at
cut_same {f} {met} {at} c g met' same alike single = record {
  before = c.before;
  rest = c.rest;
  behind = reaches_same f g nowhere c.before at c.behind (omega (arith, c.once at, single))
      (λ q h n. same q (omega (arith, h, c.once q)));
  ahead = rw (same at (cut_here c)) (path_same f g (f at) c.rest c.ahead (λ q h. same q (omega (arith, h, c.once q))));
  once = λ q. c.once q ∙ sym (alike q);
}

-- a place that was not met is put in behind the place at which the walk stands
pub cut_insert : {f met : ℕ → ℕ} {at : ℕ} → IsCut f met at → (p : ℕ) (g met' : ℕ → ℕ) → met at ≤ 1 → met p ≡ 0
    → g at ≡ p → g p ≡ f at → ((q : ℕ) → 0 < met q → (q ≡ at → ⊥) → g q ≡ f q) → ((q : ℕ) → met' q ≡ put met p 1 q)
    → IsCut g met' nowhere
cut_insert {f} {met} {at} c p g met' single fresh to onward same alike =
    let behind = reaches_same f g nowhere c.before at c.behind (omega (arith, c.once at, single))
    (λ q h n. same q (omega (arith, h, c.once q)) n) in
    let apart : (q : ℕ) → 0 < count q c.rest → q ≡ at → ⊥ = λ q h e.
    let here : 0 < count at (nowhere ∷ c.before) = reaches_meets f nowhere c.before at c.behind in
    let there = rw e at h in omega (arith, there, here, c.once at, single) in
    let path : IsRest g (g at) (p ∷ c.rest) =
    (to, rw onward (path_same f g (f at) c.rest c.ahead (λ q h. same q (omega (arith, h, c.once q)) (apart q h)))) in
    whole_cut g met' (c.before ++ p ∷ c.rest) (path_join g nowhere c.before at (p ∷ c.rest) behind path)
    (λ q. let parts = count-append q c.before (p ∷ c.rest) in elim (cases_eq p q) [
      | inl e ↦ let one = put-here met p 1 q e in let none = rw e at fresh in let t = eq-eqb q p (sym e) in
          rw (alike q, one, parts, t) (omega (arith, c.once q, none))
      | inr n ↦ let old = put-other met p 1 q n in let t = ne_eqb q p (λ e. n (sym e)) in rw (alike q, old, parts, t) (omega (arith, c.once q))
    ])

-- the next place is taken out
pub cut_remove : {f met : ℕ → ℕ} {at : ℕ} → IsCut f met at → (p : ℕ) (g met' : ℕ → ℕ) → ((q : ℕ) → met q ≤ 1) → f at ≡ p
    → (p ≡ nowhere → ⊥) → g at ≡ f p → ((q : ℕ) → 0 < met q → (q ≡ at → ⊥) → (q ≡ p → ⊥) → g q ≡ f q)
    → ((q : ℕ) → met' q ≡ put met p 0 q) → IsCut g met' nowhere
cut_remove {f} {met} {at} c p g met' single step is to same alike =
    let (later, rest, path) = rest_of_next f met at p c.rest c.ahead step is in
    let all : (q : ℕ) → count q (nowhere ∷ c.before) + count q (p ∷ later) ≡ met q = λ q. rw rest at (c.once q) in
    let here : 0 < count at (nowhere ∷ c.before) = reaches_meets f nowhere c.before at c.behind in
    let out : 0 < count p (p ∷ later) = count_here p later in
    let only : count p later ≡ 0 = let t : (p == p) ≡ true = eq-eqb p p refl in let k = rw t at (all p) in omega (arith, k, single p) in
    let behind = reaches_same f g nowhere c.before at c.behind (omega (arith, all at, single at))
    (λ q h n. same q (omega (arith, h, all q)) n
    (λ e. let k = subst (λ x. 0 < count x (nowhere ∷ c.before)) e h in omega (arith, k, out, all p, single p))) in
    let ahead : IsRest g (g at) later = rw to (path_same f g (f p) later path (λ q h. same q (omega (arith, h, all q))
    (λ e. let k = rw e at h in omega (arith, k, here, all at, single at))
    (λ e. let k = rw e at h in omega (arith, k, only)))) in
    whole_cut g met' (c.before ++ later) (path_join g nowhere c.before at later behind ahead)
    (λ q. let parts = count-append q c.before later in elim (cases_eq p q) [
      | inl e ↦ let none = put-here met p 0 q e in let k = all p in
          rw (alike q, none, parts) (subst (λ x. count x (nowhere ∷ []) + (count x c.before + count x later) ≡ 0) e
          (omega (arith, k, out, single p, only)))
      | inr n ↦ let old = put-other met p 0 q n in let t = ne_eqb q p (λ e. n (sym e)) in let k = rw t at (all q) in rw (alike q, old, parts) (omega (arith, k))
    ])
