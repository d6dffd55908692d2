-- A walk along a chain to its end: it is short, it ends, and it comes to what is wanted.
use Rattle.std.proofs.Common.{◌≡◌, ℕ, zero, suc, ◌+◌, ◌<◌, ◌≤◌, ◌==◌, if◌then◌else◌, cond, List, [], ◌∷◌, length, refl, sym, ap, ◌∙◌, subst, arith, inl, inr}
use Rattle.std.proofs.lemmas.Bool.{cases_eq, eq-eqb, ne_eqb}
use Rattle.clru_list.specs.Places.{nowhere, count, IsRest}
use Rattle.clru_linked_map.specs.Chained.{Reaches, IsCut, IsPlace, IsWalk, steps_left}
use Rattle.clru_linked_map.proofs.Chains.{count_here, count_later, reaches_meets}

-- the list less the first p
abbrev less : ℕ → List ℕ → List ℕ
less p [] = []
less p (q ∷ qs) = cond (p == q) qs (q ∷ less p qs)

less_count : (p : ℕ) (qs : List ℕ) → 0 < count p qs → (q : ℕ) → count q (less p qs) + (if q == p then 1 else 0) ≡ count q qs
less_count p [] h q = absurd (omega arith)
less_count p (x ∷ qs) h q = elim (cases_eq p x) [
  | inl e ↦ rw (eq-eqb p x e, e) (omega arith)
  | inr n ↦
      let there = rw (ne_eqb p x n) at h in let ih = less_count p qs (omega (arith, there)) q in rw (ne_eqb p x n) (omega (arith, ih))
]

less_length : (p : ℕ) (qs : List ℕ) → 0 < count p qs → suc (length (less p qs)) ≡ length qs
less_length p [] h = absurd (omega arith)
less_length p (x ∷ qs) h = elim (cases_eq p x) [
  | inl e ↦ rw (eq-eqb p x e) refl
  | inr n ↦
      let there = rw (ne_eqb p x n) at h in let ih = less_length p qs (omega (arith, there)) in rw (ne_eqb p x n) (ap suc ih)
]

-- a list is no longer than one in which each number stands as often
pub length_within : (ps qs : List ℕ) → ((q : ℕ) → count q ps ≤ count q qs) → length ps ≤ length qs
length_within [] qs within = omega arith
length_within (p ∷ ps) qs within =
    let here : 0 < count p qs = let h = count_here p ps in omega (arith, h, within p) in
    let ih = length_within ps (less p qs) (λ q. omega (arith, within q, less_count p qs here q)) in
    omega (arith, ih, less_length p qs here)

-- at the start nothing was passed
pub none_before : (f : ℕ → ℕ) (before : List ℕ) → Reaches f nowhere before nowhere → count nowhere (nowhere ∷ before) ≤ 1 → before ≡ []
none_before f [] r once = refl
none_before f (p ∷ ps) r once = let met = reaches_meets f p ps nowhere r.1 in absurd (omega (arith, met, once))

-- from the start all places that a chain meets lie ahead
pub walk_start : {f met : ℕ → ℕ} → (c : IsCut f met nowhere) → (alive wanted : ℕ → Type 0) (len : ℕ) (places : List ℕ) → met nowhere ≤ 1
    → ((q : ℕ) → (q ≡ nowhere → ⊥) → 0 < met q → alive q)
    → ((q : ℕ) → (q ≡ nowhere → ⊥) → met q ≤ count q places) → length places ≤ len
    → ((q : ℕ) → wanted q → (q ≡ nowhere → ⊥) × (0 < met q)) → IsWalk f alive wanted (f nowhere) len
walk_start {f} {met} c alive wanted len places start living few short held =
    let first : c.before ≡ [] = none_before f c.before c.behind (omega (arith, c.once nowhere, start)) in
    let all : (q : ℕ) → count q (nowhere ∷ []) + count q c.rest ≡ met q = λ q. rw first at (c.once q) in
    let off : (q : ℕ) → 0 < count q c.rest → q ≡ nowhere → ⊥ = λ q h e. let k = rw e at h in omega (arith, k, all nowhere, start) in
    record {
      rest = c.rest;
      ahead = c.ahead;
      living = λ q h. living q (off q h) (omega (arith, h, all q));
      short = let n : length c.rest ≤ length places = length_within c.rest places (λ q. elim (cases_eq (count q c.rest) 0) [
        | inl e ↦ omega (arith, e)
        | inr n ↦ omega (arith, all q, few q (off q (omega (arith, n))))
      ]) in omega arith;
      held = λ q w. let h = held q w in let t = ne_eqb q nowhere h.0 in let k = rw t at (all q) in omega (arith, k, h.1);
    }

-- a walk is one by a weaker word for what is alive, and with a greater bound
pub walk_weaker : {f : ℕ → ℕ} {alive alive' wanted : ℕ → Type 0} {next len len' : ℕ} → IsWalk f alive wanted next len
    → ((q : ℕ) → alive q → alive' q) → len ≤ len' → IsWalk f alive' wanted next len'
walk_weaker w weaker more = record {
  rest = w.rest;
  ahead = w.ahead;
  living = λ q h. weaker q (w.living q h);
  short = omega (arith, w.short, more);
  held = w.held;
}

module _ {f : ℕ → ℕ} {alive wanted : ℕ → Type 0} {next len : ℕ} (w : IsWalk f alive wanted next len) (none : alive nowhere → ⊥) where
  rest_of_alive : (rest : List ℕ) → IsRest f next rest → (next ≡ nowhere → ⊥) → (later : List ℕ) × (rest ≡ next ∷ later) × IsRest f (f next) later
  rest_of_alive [] path is = absurd (is path)
  rest_of_alive (p ∷ ps) path is = let same : p ≡ next = sym path.0 in (ps, ap (λ x. x ∷ ps) same, subst (λ x. IsRest f (f x) ps) same path.1)

  -- where a walk comes to is alive, unless it ends
  pub walk_alive : (next ≡ nowhere → ⊥) → alive next
  walk_alive is = let (later, same, path) = rest_of_alive w.rest w.ahead is in w.living next (rw same (count_here next later))

  -- a walk ends where nothing is alive
  pub walk_over : (alive next → ⊥) → next ≡ nowhere
  walk_over dead = elim (cases_eq next nowhere) [ inl e ↦ e | inr n ↦ absurd (dead (walk_alive n)) ]

  -- then nothing was wanted
  pub walk_missed : (alive next → ⊥) → (q : ℕ) → wanted q → ⊥
  walk_missed dead q is =
      let gone : (rest : List ℕ) → IsRest f next rest → ((p : ℕ) → 0 < count p rest → alive p) → 0 < count q rest → ⊥ = λ rest. elim rest as
      (λ r. IsRest f next r → ((p : ℕ) → 0 < count p r → alive p) → 0 < count q r → ⊥) [
        | [] ↦ λ path living h. omega (arith, h)
        | p ∷ ps ↦ λ path living h. dead (subst alive (sym path.0) (living p (count_here p ps)))
      ] in
      gone w.rest w.ahead w.living (w.held q is)

  -- a walk that looks for a place, or for its own end, has not ended before
  pub walk_goes_on : (place : ℕ) → ((q : ℕ) → IsPlace place q → wanted q) → (next ≡ place → ⊥) → next ≡ nowhere → ⊥
  walk_goes_on place wants other e = elim (cases_eq place nowhere) [
    | inl p ↦ other (e ∙ sym p)
    | inr n ↦ walk_missed (λ h. none (subst alive e h)) place (wants place (refl, n))
  ]

  -- a step further, where what is wanted still is not the place that is left
  pub walk_step : (next ≡ nowhere → ⊥) → (still : ℕ → Type 0) → ((q : ℕ) → still q → wanted q) → (still next → ⊥)
      → IsWalk f alive still (f next) len
  walk_step is still wants left =
      let (later, same, path) = rest_of_alive w.rest w.ahead is in
      record {
        rest = later;
        ahead = path;
        living = λ q h. w.living q (rw same (count_later q next later h));
        short = omega (arith, w.short, ap length same);
        held = λ q s.
            let all = rw same at (w.held q (wants q s)) in
            let t = ne_eqb q next (λ e. left (subst still e s)) in let k = rw t at all in omega (arith, k);
      }

-- a walk that comes to its last place, or to its end, where nothing was wanted before
pub walk_last : {f : ℕ → ℕ} {alive wanted : ℕ → Type 0} {next len : ℕ} → (w : IsWalk f alive wanted next len) → (alive nowhere → ⊥)
    → ((next ≡ nowhere → ⊥) → wanted next → ⊥) → ((next ≡ nowhere → ⊥) → f next ≡ nowhere) → (q : ℕ) → wanted q → ⊥
walk_last {f} {alive} {wanted} {next} {len} w none other ends q is = elim (cases_eq next nowhere) [
  | inl e ↦ walk_missed w none (λ a. none (subst alive e a)) q is
  | inr off ↦ walk_missed (walk_step w none off wanted (λ p h. h) (other off)) none (λ a. none (subst alive (ends off) a)) q is
]

steps_of_path : (f : ℕ → ℕ) (next : ℕ) (rest : List ℕ) (n : ℕ) → IsRest f next rest → ((q : ℕ) → 0 < count q rest → q ≡ nowhere → ⊥) → length rest ≤ n
    → steps_left f next n ≡ length rest
steps_of_path f next [] zero path off short = refl
steps_of_path f next [] (suc n) path off short = rw (eq-eqb next nowhere path) refl
steps_of_path f next (p ∷ ps) zero path off short = absurd (omega arith)
steps_of_path f next (p ∷ ps) (suc n) path off short =
    let is : next ≡ nowhere → ⊥ = λ e. off p (count_here p ps) (sym path.0 ∙ e) in
    let ih = steps_of_path f (f p) ps n path.1 (λ q h. off q (count_later q p ps h)) (omega arith) in
    rw (ne_eqb next nowhere is) (ap suc (rw path.0 ih))

-- a step brings a walk nearer to its end
pub walk_nearer : {f : ℕ → ℕ} {alive wanted : ℕ → Type 0} {next len : ℕ} → IsWalk f alive wanted next len → (alive nowhere → ⊥)
    → (next ≡ nowhere → ⊥) → steps_left f (f next) len < steps_left f next len
walk_nearer {f} {alive} {wanted} {next} {len} w none is =
    let (later, same, path) = rest_of_alive w none w.rest w.ahead is in
    let off : (q : ℕ) → 0 < count q w.rest → q ≡ nowhere → ⊥ = λ q h e. none (subst alive e (w.living q h)) in
    let n = ap length same in
    let here = steps_of_path f next w.rest len w.ahead off w.short in
    let there = steps_of_path f (f next) later len path (λ q h. off q (rw same (count_later q next later h))) (omega (arith, w.short, n)) in
    omega (arith, here, there, n)
