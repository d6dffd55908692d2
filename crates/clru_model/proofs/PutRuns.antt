-- Runs of puts hold the keys that hit.
use Rattle.std.proofs.Common.{◌≡◌, ℕ, zero, suc, ◌+◌, ◌-◌, ◌≤◌, Bool, not, Some, List, [], ◌∷◌, length, take}
use Rattle.std.proofs.Common.{refl, sym, ap, subst, arith}
use Rattle.std.specs.Cmp.{IsEquivalence}
use Rattle.std.proofs.lemmas.Option.{same_Some}
use Rattle.std.proofs.lemmas.Map.Made.{is_some-lookup}
use Rattle.std.specs.List.{slice_get, count_by}
use Rattle.std.specs.Option.{option_to_list}
use Rattle.std.specs.Map.{keys_of}
use Rattle.clru_model.specs.Schedule.{IsCompetitive, IsCompetitiveFromAnyStart}
use Rattle.clru_model.specs.Requests.{holds, marks_after, marks, misses}
use Rattle.clru_model.specs.Runs.{IsPutRun, drops, held_before}
use Rattle.clru_model.proofs.Cases.{split}
use Rattle.clru_model.proofs.Marks.{count_by-not-cons}
use Rattle.clru_model.proofs.Bound.{competitive, competitive_from_any_start}
use Rattle.clru_model.proofs.Hits.{HoldsHits, HoldsHits_none, HoldsHits_held, HoldsHits_put}
use Rattle.clru_model.proofs.PutSteps.{length-put, length-without_held}

-- a list of an element too many is the others and that one
length-dropped : {X : Type 0} (n : ℕ) (xs : List X) → length xs ≤ suc n → length (take n xs) + length (option_to_list (slice_get xs n)) ≡ length xs
length-dropped zero [] short = refl
length-dropped (suc n) [] short = refl
length-dropped zero (x ∷ []) short = refl
length-dropped zero (x ∷ y ∷ xs) short = absurd (omega (arith, short))
length-dropped (suc n) (x ∷ xs) short = let rest = length-dropped n xs (omega (arith, short)) in omega (arith, rest)

module _ {K V : Type 0} (eq : K → K → Bool) (laws : IsEquivalence eq) (k : ℕ) (some : 1 ≤ k) where
  held_after : (past : List K) (es : List (K × V)) (later : List (List (K × V))) (rs : List K) → length es ≤ k → HoldsHits eq k past (keys_of es)
      → IsPutRun eq k (es ∷ later) rs → held_before eq (es ∷ later) rs ≡ marks_after eq k past rs
  held_after past es later [] short keeps run = refl
  held_after past es [] (x ∷ rs) short keeps run = absurd run.0
  held_after past es (next ∷ later) (x ∷ rs) short keeps run =
      let p = run.0 in
      let held = HoldsHits_held eq x es short keeps in
      let rest = held_after (x ∷ past) next later rs (length-put eq k x es next some short p)
      (HoldsHits_put eq laws x es next keeps p) run.1 in
      rw (held, rest) refl

  -- what a run drops and leaves is what it began with and missed
  drops_after : (es : List (K × V)) (later : List (List (K × V))) (rs : List K) (left : List (K × V)) → length es ≤ k
      → IsPutRun eq k (es ∷ later) rs → slice_get (es ∷ later) (length rs) ≡ Some left
      → drops eq k (es ∷ later) rs + length left ≡ count_by not (held_before eq (es ∷ later) rs) + length es
  drops_after es later [] left short run ends = ap (λ l. 0 + length l) (sym (same_Some es left ends))
  drops_after es [] (x ∷ rs) left short run ends = absurd run.0
  drops_after es (next ∷ later) (x ∷ rs) left short run ends =
      let p = run.0 in
      let rest = drops_after next later rs left (length-put eq k x es next some short p) run.1 ends in
      let after = ap length p.entries in
      rw (count_by-not-cons (holds eq x (keys_of es)), is_some-lookup (eq x) es) (split (holds eq x (keys_of es))
      (λ t. let whole = rw t at after in rw t (omega (arith, rest, whole, length-without_held eq x es t)))
      (λ f. let whole = rw f at after in rw f (omega (arith, rest, whole, length-dropped (k - 1) es (omega (arith, short, some))))))

  module _ (rs : List K) (later : List (List (K × V))) (run : IsPutRun eq k ([] ∷ later) rs) where
    -- a run of puts holds a key before its put exactly where the request hits
    pub held_before_marks : held_before eq ([] ∷ later) rs ≡ marks eq k rs
    held_before_marks = held_after [] [] later rs (omega arith) (HoldsHits_none eq k) run

    -- so the puts whose key is not held before them are the misses
    not_held_misses : count_by not (held_before eq ([] ∷ later) rs) ≡ misses eq k rs
    not_held_misses = ap (count_by not) held_before_marks

    pub puts_compete : IsCompetitive eq k rs (count_by not (held_before eq ([] ∷ later) rs))
    puts_compete = subst (IsCompetitive eq k rs) (sym not_held_misses) (competitive eq laws k rs)

    pub puts_compete_from_any_start : IsCompetitiveFromAnyStart eq k rs (count_by not (held_before eq ([] ∷ later) rs))
    puts_compete_from_any_start = subst (IsCompetitiveFromAnyStart eq k rs) (sym not_held_misses) (competitive_from_any_start eq laws k rs)

    -- what plain puts drop, and what they leave, is as much as misses
    pub drops_are_misses : (left : List (K × V)) → slice_get ([] ∷ later) (length rs) ≡ Some left
        → drops eq k ([] ∷ later) rs + length left ≡ misses eq k rs
    drops_are_misses left ends = omega (arith, drops_after [] later rs left (omega arith) run ends, not_held_misses)
