-- Runs that get longer by one step at their end, with which keys were held before their steps, or with how many were not.
use Rattle.std.proofs.Common.{◌≡◌, ℕ, ◌+◌, Bool, true, false, cond, not, Some, List, [], ◌∷◌, ◌++◌, length, is_some, refl, sym, ap, ◌∙◌, arith}
use Rattle.std.proofs.lemmas.Map.Made.{is_some-lookup}
use Rattle.std.specs.List.{slice_get, count_by}
use Rattle.std.specs.Map.{keys_of, lookup}
use Rattle.std.specs.Option.{option_to_list}
use Rattle.clru_model.specs.Entries.{touch, plain_drop}
use Rattle.clru_model.specs.Requests.{holds}
use Rattle.clru_model.specs.Runs.{IsRunOf, IsGetOr, drops, held_before}
use Rattle.clru_model.specs.SizedRuns.{marks_where}
use Rattle.clru_model.proofs.Cases.{split}
use Rattle.clru_model.proofs.Finding.{missed, touch-missed}
use Rattle.clru_model.proofs.Marks.{count_by-not-push}

-- the last of some elements
abbrev pub last_of : {X : Type 0} → X → List X → X
last_of x [] = x
last_of x (y ∷ ys) = last_of y ys

pub last_of-push : {X : Type 0} (x : X) (ys : List X) (z : X) → last_of x (ys ++ z ∷ []) ≡ z
last_of-push x [] z = refl
last_of-push x (y ∷ ys) z = last_of-push y ys z

module _ {R K V : Type 0} (step : R → List (K × V) → List (K × V) → Type 0) where
  pub run_push : (first : List (K × V)) (later : List (List (K × V))) (rs : List R) (r : R) (next : List (K × V))
      → IsRunOf step (first ∷ later) rs → step r (last_of first later) next → IsRunOf step (first ∷ (later ++ next ∷ [])) (rs ++ r ∷ [])
  run_push first [] [] r next run made = (made, refl)
  run_push first (l ∷ later) [] r next run made = cc
  run_push first [] (q ∷ rs) r next run made = absurd run.0
  run_push first (l ∷ later) (q ∷ rs) r next run made = (run.0, run_push l later rs r next run.1 made)

module _ {K V : Type 0} (eq : K → K → Bool) (step : K → List (K × V) → List (K × V) → Type 0) where
  held_push : (first : List (K × V)) (later : List (List (K × V))) (rs : List K) (x : K) (next : List (K × V)) → IsRunOf step (first ∷ later) rs
      → held_before eq (first ∷ (later ++ next ∷ [])) (rs ++ x ∷ [])
      ≡ held_before eq (first ∷ later) rs ++ holds eq x (keys_of (last_of first later)) ∷ []
  held_push first [] [] x next run = refl
  held_push first (l ∷ later) [] x next run = cc
  held_push first [] (y ∷ rs) x next run = absurd run.0
  held_push first (l ∷ later) (y ∷ rs) x next run = ap (λ bs. holds eq y (keys_of first) ∷ bs) (held_push l later rs x next run.1)

  drops_push : (k : ℕ) (first : List (K × V)) (later : List (List (K × V))) (rs : List K) (x : K) (next : List (K × V))
      → IsRunOf step (first ∷ later) rs
      → drops eq k (first ∷ (later ++ next ∷ [])) (rs ++ x ∷ [])
      ≡ drops eq k (first ∷ later) rs + length (option_to_list (plain_drop eq k x (last_of first later)))
  drops_push k first [] [] x next run = omega arith
  drops_push k first (l ∷ later) [] x next run = cc
  drops_push k first [] (y ∷ rs) x next run = absurd run.0
  drops_push k first (l ∷ later) (y ∷ rs) x next run = omega (arith, drops_push k l later rs x next run.1)

  -- after as many steps as there are keys a run has come to its end
  pub run_ends : (first : List (K × V)) (later : List (List (K × V))) (rs : List K) → IsRunOf step (first ∷ later) rs
      → slice_get (first ∷ later) (length rs) ≡ Some (last_of first later)
  run_ends first [] [] run = refl
  run_ends first (l ∷ later) [] run = cc
  run_ends first [] (y ∷ rs) run = absurd run.0
  run_ends first (l ∷ later) (y ∷ rs) run = run_ends l later rs run.1

  -- each key was held or not
  length-held : (first : List (K × V)) (later : List (List (K × V))) (rs : List K) → IsRunOf step (first ∷ later) rs
      → length (held_before eq (first ∷ later) rs) ≡ length rs
  length-held first [] [] run = refl
  length-held first (l ∷ later) [] run = cc
  length-held first [] (y ∷ rs) run = absurd run.0
  length-held first (l ∷ later) (y ∷ rs) run = omega (arith, length-held l later rs run.1)

  -- a run of steps for the keys from the empty list, with the entries at its end and which keys were held before their steps
  pub record Runs (rs : List K) (es : List (K × V)) (held : List Bool) : Type 0 where
    pub later : List (List (K × V))
    pub run : IsRunOf step ([] ∷ later) rs
    pub ends : last_of [] later ≡ es
    pub held_are : held ≡ held_before eq ([] ∷ later) rs

  -- one more step
  pub Runs-push : {rs : List K} {es next : List (K × V)} {held held' : List Bool} (x : K) (before : Bool) → Runs rs es held
      → before ≡ is_some (lookup (eq x) es) → step x es next → held' ≡ held ++ before ∷ [] → Runs (rs ++ x ∷ []) next held'
  Runs-push {rs} {es} {next} {held} x before r is made pushed = record {
    later = r.later ++ next ∷ [];
    run = run_push step [] r.later rs x next r.run (rw r.ends made);
    ends = last_of-push [] r.later next;
    held_are = pushed ∙ ap (λ bs. bs ++ before ∷ []) r.held_are
        ∙ ap (λ b. held_before eq ([] ∷ r.later) rs ++ b ∷ []) (is ∙ is_some-lookup (eq x) es ∙ ap (λ l. holds eq x (keys_of l)) (sym r.ends))
        ∙ sym (held_push [] r.later rs x next r.run);
  }

  pub Runs-length : {rs : List K} {es : List (K × V)} {held : List Bool} → Runs rs es held → length held ≡ length rs
  Runs-length {rs} r = ap length r.held_are ∙ length-held [] r.later rs r.run

  -- the same with how many pairs plain puts drop
  pub record DroppedRuns (k : ℕ) (rs : List K) (es : List (K × V)) (dropped : ℕ) : Type 0 where
    pub later : List (List (K × V))
    pub run : IsRunOf step ([] ∷ later) rs
    pub ends : slice_get ([] ∷ later) (length rs) ≡ Some es
    pub drops_are : dropped ≡ drops eq k ([] ∷ later) rs
    pub last : last_of [] later ≡ es

  pub DroppedRuns-none : (k : ℕ) → DroppedRuns k [] [] 0
  DroppedRuns-none k = record { later = []; run = refl; ends = refl; drops_are = refl; last = refl }

  pub DroppedRuns-push : {k : ℕ} {rs : List K} {es next : List (K × V)} {dropped dropped' : ℕ} (x : K) → DroppedRuns k rs es dropped
      → step x es next → dropped' ≡ dropped + length (option_to_list (plain_drop eq k x es)) → DroppedRuns k (rs ++ x ∷ []) next dropped'
  DroppedRuns-push {k} {rs} {es} {next} {dropped} {dropped'} x r made more =
      let run = run_push step [] r.later rs x next r.run (rw r.last made) in
      let last = last_of-push [] r.later next in
      let all = drops_push k [] r.later rs x next r.run in
      record {
        later = r.later ++ next ∷ [];
        run = run;
        ends = run_ends [] (r.later ++ next ∷ []) (rs ++ x ∷ []) run ∙ ap (λ (l : List (K × V)). Some l) last;
        drops_are = omega (arith, more, r.drops_are, all, ap (λ l. length (option_to_list (plain_drop eq k x l))) r.last);
        last = last;
      }

  -- the same with how many keys were not held
  pub record CountedRuns (rs : List K) (es : List (K × V)) (misses : ℕ) : Type 0 where
    pub later : List (List (K × V))
    pub run : IsRunOf step ([] ∷ later) rs
    pub ends : last_of [] later ≡ es
    pub missed : misses ≡ count_by not (held_before eq ([] ∷ later) rs)

  pub CountedRuns-push : {rs : List K} {es next : List (K × V)} {misses misses' : ℕ} (x : K) (before : Bool) → CountedRuns rs es misses
      → before ≡ is_some (lookup (eq x) es) → step x es next → misses' ≡ misses + cond before 0 1 → CountedRuns (rs ++ x ∷ []) next misses'
  CountedRuns-push {rs} {es} {next} x before r is made counted =
      let held = held_before eq ([] ∷ r.later) rs in
      let s = Runs-push {held = held} {held' = held ++ before ∷ []} x before
      (record { later = r.later; run = r.run; ends = r.ends; held_are = refl }) is made refl in
      record {
        later = s.later;
        run = s.run;
        ends = s.ends;
        missed = counted ∙ ap (λ n. n + cond before 0 1) r.missed ∙ sym (count_by-not-push held before) ∙ ap (count_by not) s.held_are;
      }

  -- a look-up that finds the key
  pub IsGetOr-held : (x : K) (es next : List (K × V)) → is_some (lookup (eq x) es) ≡ true → next ≡ touch eq x es → IsGetOr step eq x es next
  IsGetOr-held x es next found touched = record { held = λ h. touched; missed = λ h. let t = sym (is_some-lookup (eq x) es) ∙ found in cc }

  -- and one that finds nothing, after which the step is made
  pub IsGetOr-missed : (x : K) (es next : List (K × V)) → is_some (lookup (eq x) es) ≡ false → step x es next → IsGetOr step eq x es next
  IsGetOr-missed x es next none made = record { held = λ h. let f = sym (is_some-lookup (eq x) es) ∙ none in cc; missed = λ h. made }

-- a look-up that finds nothing leaves the entries
pub touch-none : {X K V : Type 0} (eq : X → K → Bool) (x : X) (es : List (K × V)) → is_some (lookup (eq x) es) ≡ false → touch eq x es ≡ es
touch-none eq x es none = touch-missed eq x (missed (eq x) (sym none))

-- one more mark and its request
pub marks_where-push : {K : Type 0} (test : K → Bool) (ms : List Bool) (rs : List K) (m : Bool) (x : K) → length ms ≡ length rs
    → marks_where test (ms ++ m ∷ []) (rs ++ x ∷ []) ≡ marks_where test ms rs ++ cond (test x) (m ∷ []) []
marks_where-push test [] [] m x same = split (test x) (λ t. rw t refl) (λ f. rw f refl)
marks_where-push test [] (y ∷ rs) m x same = absurd (omega (arith, same))
marks_where-push test (n ∷ ms) [] m x same = absurd (omega (arith, same))
marks_where-push test (n ∷ ms) (y ∷ rs) m x same =
    let rest = marks_where-push test ms rs m x (omega (arith, same)) in
    split (test y) (λ t. rw (t, rest) refl) (λ f. rw (f, rest) refl)
