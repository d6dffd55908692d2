-- What each form of a put leaves at weight zero is what a put of a run leaves.
use Rattle.std.proofs.Common.{◌≡◌, ℕ, zero, suc, ◌-◌, ◌≤◌, Bool, true, false, List, [], ◌∷◌, length, take, leb, Option, Some, None}
use Rattle.std.proofs.Common.{refl, ap, ◌∙◌, arith, length-take, take_all}
use Rattle.std.proofs.lemmas.Bool.{le-leb}
use Rattle.std.specs.Cmp.{IsEquivalence}
use Rattle.std.specs.Map.{keys_of, lookup_entry}
use Rattle.std.specs.Option.{option_map_or, MatchOption}
use Rattle.clru_model.specs.Entries.{without, plain_put, weighted_put, fit}
use Rattle.clru_model.proofs.Cases.{split}
use Rattle.clru_model.specs.Requests.{holds}
use Rattle.clru_model.specs.Runs.{IsPut}

module _ {K V : Type 0} (eq : K → K → Bool) where
  -- without its pair a list that holds a key is shorter by one
  pub length-without_held : (x : K) (es : List (K × V)) → holds eq x (keys_of es) ≡ true → suc (length (without eq x es)) ≡ length es
  length-without_held x [] h = cc
  length-without_held x (e ∷ es) h =
      split (eq x e.0) (λ t. rw t refl) (λ f. let here = rw f at h in rw f (ap suc (length-without_held x es here)))

  -- a put keeps a list within the capacity
  pub length-put : (k : ℕ) (x : K) (es next : List (K × V)) → 1 ≤ k → length es ≤ k → IsPut eq k x es next → length next ≤ k
  length-put k x es next some short p = rw p.entries (split (holds eq x (keys_of es))
      (λ t. rw t (omega (arith, length-without_held x es t)))
      (λ f. rw f (omega (arith, length-take (k - 1) es))))

  -- without a key that is not held a list is itself
  without_not_held : (x : K) (es : List (K × V)) → holds eq x (keys_of es) ≡ false → without eq x es ≡ es
  without_not_held x [] h = refl
  without_not_held x (e ∷ es) h =
      split (eq x e.0) (λ t. cc (rw t at h)) (λ f. let here = rw f at h in rw f (ap (λ l. e ∷ l) (without_not_held x es here)))

  -- what the entry found for x tells
  lookup_entry_tells : (x : K) (es : List (K × V))
      → MatchOption (lookup_entry (eq x) es) (holds eq x (keys_of es) ≡ false) (λ e. (eq x e.0 ≡ true) × (holds eq x (keys_of es) ≡ true))
  lookup_entry_tells x [] = refl
  lookup_entry_tells x (e ∷ es) = split (eq x e.0) (λ t. rw t (t, refl)) (λ f. rw f (lookup_entry_tells x es))

module _ {K V : Type 0} (weight : K → V → ℕ) (none : (x : K) (v : V) → weight x v ≡ 0) where
  -- at weight zero the number of entries alone decides what fits
  pub fit-weightless : (c : ℕ) (es : List (K × V)) → fit weight c es ≡ take c es
  unfolding fit
  fit-weightless zero [] = refl
  fit-weightless (suc c) [] = refl
  fit-weightless zero (e ∷ es) = rw (none e.0 e.1) refl
  fit-weightless (suc c) (e ∷ es) =
      let left : suc c - 1 ≡ c = omega arith in
      let room : leb 1 (suc c) ≡ true = le-leb 1 (suc c) (omega arith) in
      rw (none e.0 e.1, room, left) (ap (λ l. e ∷ l) (fit-weightless c es))

module _ {K V : Type 0} (eq : K → K → Bool) (laws : IsEquivalence eq) (k : ℕ) (x : K) (v : V) (es next : List (K × V)) where
  put_found : (o : Option (K × V)) → MatchOption o (holds eq x (keys_of es) ≡ false) (λ e. (eq x e.0 ≡ true) × (holds eq x (keys_of es) ≡ true))
      → next ≡ option_map_or (λ e. (e.0, v) ∷ without eq x es) o ((x, v) ∷ take (k - 1) es) → IsPut eq k x es next
  put_found None f e = record { key = x; value = v; same = laws.refl x; entries = rw f e }
  put_found (Some p) t e = record { key = p.0; value = v; same = t.0; entries = rw t.1 e }

  -- a plain put
  pub IsPut-plain : next ≡ plain_put eq k x v es → IsPut eq k x es next
  IsPut-plain e = put_found (lookup_entry (eq x) es) (lookup_entry_tells eq x es) e

  -- a weighted put
  pub IsPut-weightless : (weight : K → V → ℕ) → ((y : K) (w : V) → weight y w ≡ 0) → length es ≤ k → next ≡ weighted_put eq weight k x v es
      → IsPut eq k x es next
  IsPut-weightless weight none short e =
      let rest = without eq x es in
      let room : k - 1 - weight x v ≡ k - 1 = rw (none x v) (omega arith) in
      let kept : fit weight (k - 1 - weight x v) rest ≡ take (k - 1) rest = rw room (fit-weightless weight none (k - 1) rest) in
      record {
        key = x;
        value = v;
        same = laws.refl x;
        entries = e ∙ ap (λ l. (x, v) ∷ l) (kept ∙ split (holds eq x (keys_of es))
            (λ t. rw t (take_all (k - 1) rest (omega (arith, length-without_held eq x es t))))
            (λ f. rw (f, without_not_held eq x es f) refl));
      }
