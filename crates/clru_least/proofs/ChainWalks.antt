-- Chains of positions: a walk along one, and a position that is cut out.
use Rattle.std.proofs.Common.{◌≡◌, ℕ, suc, ◌-◌, ◌<◌, ◌≤◌, Bool, true, false, List, [], ◌∷◌, ◌++◌, length, get_or, Some, None, refl, sym, ap, ◌∙◌, subst, append_assoc, arith}
use Rattle.std.proofs.lemmas.Option.{slice_get-get_or}
use Rattle.std.specs.List.{AllByRecursion, slice_get}
use Rattle.clru_list.proofs.Retaining.{some_injective}
use Rattle.clru_model.proofs.Cases.{split}
use Rattle.clru_model.proofs.Parts.{all-append}
use Rattle.clru_least.specs.Chains.{IsChain, IsWalked, LeadsAlong, first_of, last_number, same_at}

-- the element that was read is the one there
pub element_there : {X : Type 0} (xs : List X) (i : ℕ) (y : X) → i < length xs → y ≡ get_or xs i y → slice_get xs i ≡ Some y
element_there xs i y within is = slice_get-get_or xs i y within ∙ ap Some (sym is)

pub last_number-append : (ps : List ℕ) (p : ℕ) → last_number (ps ++ p ∷ []) ≡ suc p
last_number-append [] p = refl
last_number-append (q ∷ []) p = refl
last_number-append (q ∷ r ∷ ps) p = last_number-append (r ∷ ps) p

pub all_map : {X : Type 0} (P Q : X → Type 0) (xs : List X) → ((x : X) → P x → Q x) → AllByRecursion P xs → AllByRecursion Q xs
all_map P Q [] f all = tt
all_map P Q (x ∷ xs) f all = (f x all.0, all_map P Q xs f all.1)

pub all_left : {X : Type 0} (P : X → Type 0) (xs ys : List X) → AllByRecursion P (xs ++ ys) → AllByRecursion P xs
all_left P [] ys all = tt
all_left P (x ∷ xs) ys all = (all.0, all_left P xs ys all.1)

pub all_right : {X : Type 0} (P : X → Type 0) (xs ys : List X) → AllByRecursion P (xs ++ ys) → AllByRecursion P ys
all_right P [] ys all = all
all_right P (x ∷ xs) ys all = all_right P xs ys all.1

-- what holds of all holds without one of them
pub all_without : {X : Type 0} (P : X → Type 0) (xs : List X) (y : X) (ys : List X) → AllByRecursion P (xs ++ y ∷ ys) → AllByRecursion P (xs ++ ys)
all_without P [] y ys all = all.1
all_without P (x ∷ xs) y ys all = (all.0, all_without P xs y ys all.1)

-- the last position of a list that has one
pub last_split : (p : ℕ) (ps : List ℕ) → (b : ℕ) × (bs : List ℕ) × (p ∷ ps ≡ bs ++ b ∷ []) × (last_number (p ∷ ps) ≡ suc b)
last_split p [] = (p, [], refl, refl)
last_split p (q ∷ ps) = let r = last_split q ps in (r.0, p ∷ r.1, ap (λ l. p ∷ l) r.2, r.3)

-- a chain of which no number changed
pub leads_same : (f f' : ℕ → ℕ) (n : ℕ) (ps : List ℕ) → AllByRecursion (λ p. f' p ≡ f p) ps → LeadsAlong f n ps → LeadsAlong f' n ps
leads_same f f' n [] same leads = leads
leads_same f f' n (p ∷ ps) same leads =
    (leads.0, rw same.0 leads.1, rw same.0 (leads_same f f' (f p) ps same.1 leads.2))

module _ (f : ℕ → ℕ) where
  -- a number that is not 0 names a position below i, from which a shorter chain leads on
  pub leads_on : (n i : ℕ) → ((chain : List ℕ) × IsChain f n i chain) → 0 < n
      → (n - 1 < i) × (f (n - 1) < n) × ((rest : List ℕ) × IsChain f (f (n - 1)) i rest)
  leads_on n i ahead some = step ahead.0 ahead.1.leads ahead.1.below
    where
      step : (ps : List ℕ) → LeadsAlong f n ps → AllByRecursion (λ p. p < i) ps
          → (n - 1 < i) × (f (n - 1) < n) × ((rest : List ℕ) × IsChain f (f (n - 1)) i rest)
      step [] leads below = absurd (omega (arith, some, leads))
      step (p ∷ ps) leads below =
          let here : n - 1 ≡ p = omega (arith, leads.0) in
          rw here (below.0, omega (arith, leads.0, leads.1), (ps, record { leads = leads.2; below = below.1 }))

  -- a chain of positions below i begins with a number up to i
  pub leads_within : (n i : ℕ) → ((chain : List ℕ) × IsChain f n i chain) → n ≤ i
  leads_within n i ahead = first ahead.0 ahead.1.leads ahead.1.below
    where
      first : (ps : List ℕ) → LeadsAlong f n ps → AllByRecursion (λ p. p < i) ps → n ≤ i
      first [] leads below = omega (arith, leads)
      first (p ∷ ps) leads below = omega (arith, leads.0, below.0)

  -- each position of a chain is below its number
  pub leads_below : (n m : ℕ) (ps : List ℕ) → LeadsAlong f n ps → n ≤ m → AllByRecursion (λ p. p < m) ps
  leads_below n m [] leads within = tt
  leads_below n m (p ∷ ps) leads within =
      (omega (arith, leads.0, within), leads_below (f p) m ps leads.2 (omega (arith, leads.0, leads.1, within)))

-- of two positions in a row the first links to the second
pub leads_pair : (f : ℕ → ℕ) (n b p : ℕ) (bs rest : List ℕ) → LeadsAlong f n ((bs ++ b ∷ []) ++ p ∷ rest) → (f b ≡ suc p) × (f b ≤ b) × (f p ≤ p)
leads_pair f n b p [] rest leads = (leads.2.0, leads.1, leads.2.1)
leads_pair f n b p (q ∷ bs) rest leads = leads_pair f (f q) b p bs rest leads.2

-- a chain whose position b leads past p
pub leads_cut : (f f' : ℕ → ℕ) (m n b p : ℕ) (bs rest : List ℕ) → f' b ≡ f p
    → ((q : ℕ) → q < m → (q ≡ b → ⊥) → (q ≡ p → ⊥) → f' q ≡ f q) → n ≤ m → LeadsAlong f n ((bs ++ b ∷ []) ++ p ∷ rest)
    → LeadsAlong f' n ((bs ++ b ∷ []) ++ rest)
leads_cut f f' m n b p [] rest past others within leads =
    let on = leads.2 in
    let below = leads_below f (f p) p rest on.2 on.1 in
    let less : p < b = omega (arith, leads.1, on.0) in
    let inside : b < m = omega (arith, leads.0, within) in
    let low : f' b ≤ b = omega (arith, past, on.1, less) in (
      leads.0,
      low,
      subst (λ k. LeadsAlong f' k rest) (sym past)
          (leads_same f f' (f p) rest (all_map (λ q. q < p) (λ q. f' q ≡ f q) rest
          (λ q lt. others q (omega (arith, lt, less, inside)) (λ e. omega (arith, e, lt, less)) (λ e. omega (arith, e, lt))) below) on.2),
    )
leads_cut f f' m n b p (q ∷ bs) rest past others within leads =
    let below = leads_below f (f q) q ((bs ++ b ∷ []) ++ p ∷ rest) leads.2 leads.1 in
    let p_below = (all_right (λ k. k < q) (bs ++ b ∷ []) (p ∷ rest) below).0 in
    let b_below = (all_right (λ k. k < q) bs (b ∷ []) (all_left (λ k. k < q) (bs ++ b ∷ []) (p ∷ rest) below)).0 in
    let same : f' q ≡ f q = others q (omega (arith, leads.0, within)) (λ e. omega (arith, e, b_below)) (λ e. omega (arith, e, p_below)) in (
      leads.0,
      rw same leads.1,
      rw same (leads_cut f f' m (f q) b p bs rest past others (omega (arith, leads.0, leads.1, within)) leads.2),
    )

module _ {K : Type 0} (eq : K → K → Bool) (keys : List K) where
  pub same_there : (x y : K) (p : ℕ) → slice_get keys p ≡ Some y → same_at eq keys x p ≡ eq x y
  same_there x y p there = rw there refl

  -- a comparison of two keys that were read
  pub same_read : (x a b : K) (i p : ℕ) → slice_get keys i ≡ Some x → i < length keys → a ≡ get_or keys i a → p < length keys
      → b ≡ get_or keys p b → same_at eq keys x p ≡ eq a b
  same_read x a b i p is inside a_is within b_is =
      same_there x b p (element_there keys p b within b_is)
      ∙ ap (λ y. eq y b) (some_injective (sym is ∙ element_there keys i a inside a_is))

  -- the start of a walk
  pub walked_none : (f : ℕ → ℕ) (x : K) (chain : List ℕ) (n : ℕ) → LeadsAlong f n chain → IsWalked eq keys f x chain 0 n
  walked_none f x chain n leads = record {
    before = [];
    rest = chain;
    split = refl;
    passed = tt;
    last = refl;
    leads = leads;
  }

  -- one step of a walk
  pub walked_more : (f : ℕ → ℕ) (x : K) (chain : List ℕ) (behind n : ℕ) → IsWalked eq keys f x chain behind n → 0 < n
      → same_at eq keys x (n - 1) ≡ false → IsWalked eq keys f x chain n (f (n - 1))
  walked_more f x chain behind n s some other = step s.before s.rest s.split s.passed s.leads
    where
      step : (before rest : List ℕ) → chain ≡ before ++ rest → AllByRecursion (λ p. same_at eq keys x p ≡ false) before
          → LeadsAlong f n rest → IsWalked eq keys f x chain n (f (n - 1))
      step before [] split passed leads = absurd (omega (arith, some, leads))
      step before (p ∷ rest) split passed leads =
          let here : n - 1 ≡ p = omega (arith, leads.0) in
          record {
            before = before ++ p ∷ [];
            rest = rest;
            split = split ∙ sym (append_assoc before (p ∷ []) rest);
            passed = all-append (λ q. same_at eq keys x q ≡ false) before (p ∷ []) passed (rw here at other, tt);
            last = leads.0 ∙ sym (last_number-append before p);
            leads = rw here leads.2;
          }

  -- the first of some positions, of which one is cut out
  pub first_of_cut : (z : K) (p : ℕ) (before rest : List ℕ) → same_at eq keys z p ≡ false
      → first_of eq keys z (before ++ rest) ≡ first_of eq keys z (before ++ p ∷ rest)
  first_of_cut z p [] rest other = rw other refl
  first_of_cut z p (q ∷ before) rest other =
      let ih = first_of_cut z p before rest other in split (same_at eq keys z q) (λ t. rw t refl) (λ f. rw f ih)

  pub first_of_passed : (x : K) (p : ℕ) (before rest : List ℕ) → AllByRecursion (λ q. same_at eq keys x q ≡ false) before
      → same_at eq keys x p ≡ true → first_of eq keys x (before ++ p ∷ rest) ≡ Some p
  first_of_passed x p [] rest passed same = rw same refl
  first_of_passed x p (q ∷ before) rest passed same = rw passed.0 (first_of_passed x p before rest passed.1 same)

  pub first_of_none : (x : K) (ps : List ℕ) → AllByRecursion (λ q. same_at eq keys x q ≡ false) ps → first_of eq keys x (ps ++ []) ≡ None
  first_of_none x [] passed = refl
  first_of_none x (q ∷ ps) passed = rw passed.0 (first_of_none x ps passed.1)
