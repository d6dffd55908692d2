-- One more object of those whose sizes are looked at.
use Rattle.std.proofs.Common.{◌≡◌, ℕ, ◌+◌, ◌<◌, true, false, cond, List, [], ◌∷◌, ◌++◌, length, length-take-le, map, max, set, append_assoc, Option, Some, nat_eq, drop, take, get_or, suc, add-one, drop-cons, take-suc, refl, sym, ap, ◌∙◌, arith}
use Rattle.std.specs.List.{zip}
use Rattle.std.proofs.Math.Seq.{set-append_seam}
use Rattle.std.proofs.lemmas.Bool.{eqb-true}
use Rattle.std.proofs.lemmas.List.{length-map, map-append}
use Rattle.std.proofs.lemmas.Slice.Zip.{length-zip, get_or-zip}
use Rattle.clru_c.specs.OneSize.{came_otherwise, first_other, greatest_of_key, is_another}
use Rattle.clru_model.proofs.Cases.{split}

-- the objects are the keys with their sizes, one by one
module _ (keys sizes : List ℕ) (same : length sizes ≡ length keys) (i : ℕ) (low : i < length keys) where
  abbrev next : ℕ × ℕ
  next = (get_or keys i 0, get_or sizes i 0)

  inside : i < length (zip keys sizes)
  inside = omega (arith, length-zip keys sizes, low, same)

  next_is : get_or (zip keys sizes) i (0, 0) ≡ next
  next_is = get_or-zip keys sizes i (0, 0) low (omega (arith, low, same))

  pub one_more : take (i + 1) (zip keys sizes) ≡ take i (zip keys sizes) ++ next ∷ []
  one_more = ap (λ j. take j (zip keys sizes)) (add-one i) ∙ take-suc (zip keys sizes) i (0, 0) inside
      ∙ ap (λ p. take i (zip keys sizes) ++ p ∷ []) next_is

  pub next_of : drop i (zip keys sizes) ≡ next ∷ drop (i + 1) (zip keys sizes)
  next_of = drop-cons (zip keys sizes) i (0, 0) inside ∙ ap (λ p. p ∷ drop (suc i) (zip keys sizes)) next_is
      ∙ ap (λ j. next ∷ drop j (zip keys sizes)) (sym (add-one i))

-- one more object has the greatest size of its key, or does not change it
pub greatest_more : (objects : List (ℕ × ℕ)) (key size other : ℕ) → greatest_of_key (objects ++ (key, size) ∷ []) other
    ≡ cond (nat_eq key other) (max (greatest_of_key objects other) size) (greatest_of_key objects other)
greatest_more [] key size other = split (nat_eq key other) (λ t. rw t (omega arith)) (λ f. rw f refl)
greatest_more (o ∷ objects) key size other =
    let ih = greatest_more objects key size other in
    split (nat_eq o.0 other)
    (λ t. split (nat_eq key other)
    (λ u. let more = rw u at ih in rw (t, u) (omega (arith, more)))
    (λ u. let more = rw u at ih in rw (t, u) (ap (max o.1) more)))
    (λ f. rw f ih)

-- after one more object whose key had no other size before, another one is told from the held sizes as before
pub came_more : (past : List (ℕ × ℕ)) (find after : ℕ → Option ℕ) (key size : ℕ)
    → ((p : ℕ × ℕ) → came_otherwise past p ≡ is_another (find p.0) p.1)
    → ((k : ℕ) → after k ≡ cond (nat_eq key k) (Some size) (find k))
    → is_another (find key) size ≡ false
    → (p : ℕ × ℕ) → came_otherwise ((key, size) ∷ past) p ≡ is_another (after p.0) p.1
came_more past find after key size has finds none p =
    split (nat_eq key p.0)
    (λ t. let e = eqb-true key p.0 t in
    split (nat_eq size p.1)
    (λ u. let v = eqb-true size p.1 u in
    let before : came_otherwise past p ≡ false = has p ∙ ap (λ k. is_another (find k) p.1) (sym e) ∙ ap (is_another (find key)) (sym v) ∙ none in
    rw (finds p.0, t, u) before)
    (λ u. rw (finds p.0, t, u) refl))
    (λ f. rw (finds p.0, f) (has p))

-- the first object is such a one, or what is looked for stands behind it
pub first_here : (past rest : List (ℕ × ℕ)) (p : ℕ × ℕ) → came_otherwise past p ≡ true → first_other past (p ∷ rest) ≡ 0
first_here past rest p t = rw t refl

pub first_behind : (past rest : List (ℕ × ℕ)) (p : ℕ × ℕ) → came_otherwise past p ≡ false
    → first_other past (p ∷ rest) ≡ 1 + first_other (p ∷ past) rest
first_behind past rest p f = rw f refl

-- one more element is written
pub one_written : (f : ℕ → ℕ) (keys before now : List ℕ) (i : ℕ) → i < length keys → length before ≡ length keys
    → now ≡ map f (take i keys) ++ drop i before
    → set now i (f (get_or keys i 0)) ≡ map f (take (i + 1) keys) ++ drop (i + 1) before
one_written f keys before now i low same is =
    let done = map f (take i keys) in let left = drop (suc i) before in let value = f (get_or keys i 0) in
    let long : length done ≡ i = length-map (take i keys) f ∙ length-take-le i keys (omega (arith, low)) in
    let split_at : now ≡ done ++ get_or before i 0 ∷ left =
    is ∙ ap (λ ls. done ++ ls) (drop-cons before i 0 (omega (arith, low, same))) in
    let more : map f (take (suc i) keys) ≡ done ++ value ∷ [] =
    ap (map f) (take-suc keys i 0 low) ∙ map-append f (take i keys) (get_or keys i 0 ∷ []) in
    ap (λ ls. set ls i value) split_at
    ∙ ap (λ j. set (done ++ get_or before i 0 ∷ left) j value) (sym long)
    ∙ set-append_seam done (get_or before i 0) left value
    ∙ sym (ap (λ ls. ls ++ left) more ∙ append_assoc done (value ∷ []) left)
    ∙ ap (λ j. map f (take j keys) ++ drop j before) (sym (add-one i))
