-- Pairs that are dropped from the back, one by one, and handed out.
use Rattle.std.proofs.Common.{◌≡◌, ℕ, zero, suc, ◌+◌, ◌-◌, ◌<◌, ◌≤◌, Bool, None, Some, List, [], ◌∷◌, ◌++◌, length, take, drop, reverse, slice_get}
use Rattle.std.proofs.Common.{refl, sym, ap, ◌∙◌, arith, append_assoc, take_all, length-append, length-drop}
use Rattle.std.specs.Map.{lookup_entry}
use Rattle.std.specs.Option.{option_to_list}
use Rattle.std.proofs.lemmas.List.{reverse-append, drop-append-le, length-reverse}
use Rattle.std.proofs.Math.Seq.{drop-append_seam, drop-length}
use Rattle.clru_model.specs.Entries.{without, fit, plain_drop, weighted_drops, weighted_put}
use Rattle.clru_model.proofs.Finding.{held_at, missed_at}
use Rattle.clru_model.proofs.Fitting.{fit_is_longest}
use Rattle.clru_model.proofs.PutSteps.{fit-weightless}
use Rattle.clru_model.proofs.Sublists.{sublist_remove_entry, length-sublist}

module _ {X : Type 0} (es p left rest : List X) (x : X) where
  -- while p is the beginning of the list that is left, and x its last: what went, from the back, then x, then what is still to go
  pub reverse-drop : (n : ℕ) → es ≡ p ++ rest → p ≡ left ++ x ∷ [] → n ≤ length left
      → reverse (drop n es) ≡ reverse (drop (length p) es) ++ x ∷ reverse (drop n left)
  reverse-drop n begins is within =
      let past : drop (length p) es ≡ rest = ap (λ l. drop (length p) l) begins ∙ drop-append_seam p rest in
      let whole : es ≡ left ++ x ∷ rest = begins ∙ ap (λ l. l ++ rest) is ∙ append_assoc left (x ∷ []) rest in
      ap (λ l. reverse (drop n l)) whole ∙ ap (λ l. reverse l) (drop-append-le n left (x ∷ rest) within)
      ∙ reverse-append (drop n left) (x ∷ rest) ∙ ap (λ l. l ++ reverse (drop n left)) (reverse-append (x ∷ []) rest)
      ∙ append_assoc (reverse rest) (x ∷ []) (reverse (drop n left)) ∙ ap (λ l. reverse l ++ x ∷ reverse (drop n left)) (sym past)

  -- once x went too
  pub reverse-drop-last : es ≡ p ++ rest → p ≡ left ++ x ∷ [] → reverse (drop (length left) es) ≡ reverse (drop (length p) es) ++ x ∷ []
  reverse-drop-last begins is =
      reverse-drop (length left) begins is (omega arith) ∙ ap (λ l. reverse (drop (length p) es) ++ x ∷ reverse l) (drop-length left)

-- of a list that is too long by one at most, the last goes
past_take : {X : Type 0} (n : ℕ) (es : List X) → length es ≤ n + 1 → reverse (drop (length (take n es)) es) ≡ option_to_list (slice_get es n)
past_take zero [] within = refl
past_take (suc n) [] within = refl
past_take zero (e ∷ []) within = refl
past_take zero (e ∷ (d ∷ es)) within = absurd (omega arith)
past_take (suc n) (e ∷ es) within = past_take n es (omega arith)

-- at weight zero a weighted put drops what a plain one does
pub weightless_drops : {K V : Type 0} (eq : K → K → Bool) (weight : K → V → ℕ) → ((y : K) (w : V) → weight y w ≡ 0) → (c : ℕ) (x : K) (v : V) (es : List (K × V))
    → 0 < c → length es ≤ c → weighted_drops eq weight c x v es ≡ option_to_list (plain_drop eq c x es)
weightless_drops eq weight none c x v es some within =
    let room : c - 1 - weight x v ≡ c - 1 = rw (none x v) (omega arith) in let rest = without eq x es in
    let kept : fit weight (c - 1 - weight x v) rest ≡ take (c - 1) rest = rw room (fit-weightless weight none (c - 1) rest) in
    ap (λ l. reverse (drop (length l) rest)) kept ∙
    ((elim (lookup_entry (eq x) es) as (λ o. lookup_entry (eq x) es ≡ o
    → reverse (drop (length (take (c - 1) rest)) rest) ≡ option_to_list (plain_drop eq c x es)) [
      | None ↦ λ e. let m = missed_at (eq x) (sym e) in rw (m.value, m.removed) (past_take (c - 1) es (omega (arith, some, within)))
      | Some d ↦ λ e. let h = held_at (eq x) (sym e) in
          rw (h.value, take_all (c - 1) rest (omega (arith, h.shorter, within)), drop-length rest) refl
    ]) refl)

-- no more pairs are dropped than there were
pub length-weighted_drops : {K V : Type 0} (eq : K → K → Bool) (weight : K → V → ℕ) (c : ℕ) (x : K) (v : V) (es : List (K × V))
    → length (weighted_drops eq weight c x v es) ≤ length es
length-weighted_drops eq weight c x v es =
    let rest = without eq x es in let kept = fit weight (c - 1 - weight x v) rest in
    omega (arith, length-reverse (drop (length kept) rest), length-drop (length kept) rest, length-sublist (sublist_remove_entry (eq x) es))

-- and one entry at most comes in
pub length-weighted_put : {K V : Type 0} (eq : K → K → Bool) (weight : K → V → ℕ) (c : ℕ) (x : K) (v : V) (es : List (K × V))
    → length (weighted_put eq weight c x v es) ≤ length es + 1
length-weighted_put eq weight c x v es =
    let rest = without eq x es in let longest = fit_is_longest weight (c - 1 - weight x v) rest in
    omega (arith, ap length longest.begins, length-append (fit weight (c - 1 - weight x v) rest) longest.rest, length-sublist (sublist_remove_entry (eq x) es))
