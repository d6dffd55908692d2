-- What a pass has noted of later requests: one more request, and the positions of the next ones.
use Rattle.std.proofs.Common.{◌≡◌, ℕ, zero, suc, ◌+◌, ◌^◌, ◌<◌, ◌≤◌, Bool, true, false, eqb, ◌||◌, Option, Some, None, is_some, IfSome, map}
use Rattle.std.proofs.Common.{List, [], ◌∷◌, ◌++◌, length, get_or, set, reverse, refl, sym, ap, ◌∙◌, subst, arith}
use Rattle.std.proofs.lemmas.Bool.{eqb-true, or_left, or_right, or_parts}
use Rattle.std.proofs.lemmas.Grind.{reverse_onto}
use Rattle.std.proofs.lemmas.List.{length-reverse, set-append_left}
use Rattle.std.specs.Cmp.{IsEquivalence}
use Rattle.clru_list.specs.Packed.{Packed, greatest_by}
use Rattle.clru_model.specs.Requests.{IsLatestOf, holds, since}
use Rattle.clru_model.proofs.Cases.{split}
use Rattle.clru_model.proofs.Distinct.{holds-append, holds_same, since-cons}
use Rattle.clru_model.proofs.Positions.{holds-reverse}
use Rattle.clru_least.specs.Next.{until, next_from}
use Rattle.clru_least.specs.Passes.{next_or, later_at, later_from, IsForesight}
use Rattle.clru_least.proofs.Until.{until_not_held}

-- while there are fewer than 2^32 numbers, one more leaves them at 4 bytes each
pub narrow_behind : (old wide new : Packed) → (length old.numbers < 2 ^ 32 → old.greatest ≡ greatest_by true)
    → (length old.numbers ≤ old.greatest → wide ≡ old) → length new.numbers ≡ length old.numbers + 1 → new.greatest ≡ wide.greatest
    → length new.numbers < 2 ^ 32 → new.greatest ≡ greatest_by true
narrow_behind old wide new narrow stays more same few =
    let before = narrow (omega (arith, more, few)) in
    same ∙ ap (λ p. p.greatest) (stays (omega (arith, before, more, few))) ∙ before

next_or_some : (n m : ℕ) → 0 < m → next_or n m ≡ m
next_or_some n m h = split (eqb m 0) (λ t. absurd (omega (arith, eqb-true m 0 t, h))) (λ f. rw f refl)

-- what is read of the positions
pub next_read : (later : List ℕ) (n i read next : ℕ) → i < length later → read ≡ get_or later i 0 → next ≡ next_or n read
    → next ≡ get_or (map (next_or n) later) i 0
next_read [] n i read next h at is = absurd (omega (arith, h))
next_read (l ∷ later) n zero read next h at is = is ∙ ap (next_or n) at
next_read (l ∷ later) n (suc i) read next h at is = next_read later n i read next (omega (arith, h)) at is

module _ {K : Type 0} (eq : K → K → Bool) where
  length-later_from : (i : ℕ) (rs : List K) → length (later_from eq i rs) ≡ length rs
  length-later_from i [] = refl
  length-later_from i (x ∷ rs) = ap suc (length-later_from (i + 1) rs)

  -- there are as many numbers as requests
  pub foresight_length : (past : List K) (later : List ℕ) → IsForesight eq past later → length later ≡ length (reverse past)
  foresight_length past later is = ap (λ l. length l) is ∙ length-later_from 0 (reverse past)

  nexts_from : (i n : ℕ) (rs : List K) → n ≡ i + length rs → map (next_or n) (later_from eq i rs) ≡ next_from eq i rs
  nexts_from i n [] e = refl
  nexts_from i n (x ∷ rs) e =
      ap (λ m. m ∷ map (next_or n) (later_from eq (i + 1) rs)) first
      ∙ ap (λ l. (i + 1 + until eq x rs) ∷ l) (nexts_from (i + 1) n rs (omega (arith, e)))
    where
      first : next_or n (later_at eq i x rs) ≡ i + 1 + until eq x rs
      first = split (holds eq x rs)
          (λ t. rw t (next_or_some n (i + 1 + until eq x rs) (omega arith)))
          (λ f. rw f (omega (arith, e, until_not_held eq x rs f)))

  -- they say where each key is requested next
  pub nexts_are : (past : List K) (later : List ℕ) (n : ℕ) → IsForesight eq past later → n ≡ length later
      → map (next_or n) later ≡ next_from eq 0 (reverse past)
  nexts_are past later n is many =
      ap (map (next_or n)) is ∙ nexts_from 0 n (reverse past) (omega (arith, many, foresight_length past later is))

  -- whether a key is held, with a request of another one behind, or of itself
  held_behind : (y x : K) (rs : List K) → eq y x ≡ false → holds eq y (rs ++ x ∷ []) ≡ holds eq y rs
  held_behind y x [] f = rw f refl
  held_behind y x (z ∷ rs) f = ap (λ b. eq y z || b) (held_behind y x rs f)

  held_last : (y x : K) (rs : List K) → eq y x ≡ true → holds eq y (rs ++ x ∷ []) ≡ true
  held_last y x [] t = rw t refl
  held_last y x (z ∷ rs) t = or_right (eq y z) (holds eq y (rs ++ x ∷ [])) (held_last y x rs t)

  held_more : (y x : K) (rs : List K) → holds eq y rs ≡ true → holds eq y (rs ++ x ∷ []) ≡ true
  held_more y x rs h = holds-append eq y rs (x ∷ []) ∙ or_left (holds eq y rs) (holds eq y (x ∷ [])) h

  -- and how far it is
  until_held : (z x : K) (rs : List K) → holds eq z rs ≡ true → until eq z (rs ++ x ∷ []) ≡ until eq z rs
  until_held z x [] h = cc
  until_held z x (y ∷ rs) h = split (eq z y) (λ t. rw t refl) (λ f. rw f (ap suc (until_held z x rs (rw f at h))))

  until_last : (z x : K) (rs : List K) → holds eq z rs ≡ false → eq z x ≡ true → until eq z (rs ++ x ∷ []) ≡ length rs
  until_last z x [] h t = rw t refl
  until_last z x (y ∷ rs) h t =
      let parts = or_parts (eq z y) (holds eq z rs) h in rw parts.0 (ap suc (until_last z x rs parts.1 t))

  -- a key that is held, or not the one behind, is requested next where it was
  later_behind : (i : ℕ) (y x : K) (rs : List K) → (holds eq y rs ≡ false → eq y x ≡ false)
      → later_at eq i y (rs ++ x ∷ []) ≡ later_at eq i y rs
  later_behind i y x rs apart = split (holds eq y rs)
      (λ t. rw (t, held_more y x rs t, until_held y x rs t) refl)
      (λ f. rw (f, held_behind y x rs (apart f) ∙ f) refl)

  -- the latest request of x stands at the position p
  abbrev LastAt : K → ℕ → List K → Type 0
  LastAt x p [] = ⊥
  LastAt x zero (y ∷ rs) = (eq x y ≡ true) × (holds eq x rs ≡ false)
  LastAt x (suc p) (y ∷ rs) = LastAt x p rs

  last_held : (x : K) (p : ℕ) (rs : List K) → LastAt x p rs → holds eq x rs ≡ true
  last_held x p [] at = absurd at
  last_held x zero (y ∷ rs) at = or_left (eq x y) (holds eq x rs) at.0
  last_held x (suc p) (y ∷ rs) at = or_right (eq x y) (holds eq x rs) (last_held x p rs at)

  last_within : (x : K) (p : ℕ) (rs : List K) → LastAt x p rs → p < length rs
  last_within x p [] at = absurd at
  last_within x zero (y ∷ rs) at = omega arith
  last_within x (suc p) (y ∷ rs) at = let less = last_within x p rs at in omega (arith, less)

  last_behind : (x y : K) (p : ℕ) (rs : List K) → eq x y ≡ false → LastAt x p rs → LastAt x p (rs ++ y ∷ [])
  last_behind x y p [] f at = absurd at
  last_behind x y zero (z ∷ rs) f at = (at.0, held_behind x y rs f ∙ at.1)
  last_behind x y (suc p) (z ∷ rs) f at = last_behind x y p rs f at

  last_end : (x y : K) (rs : List K) → eq x y ≡ true → LastAt x (length rs) (rs ++ y ∷ [])
  last_end x y [] t = (t, refl)
  last_end x y (z ∷ rs) t = last_end x y rs t

  last_latest : (x : K) (p : ℕ) (past : List K) → holds eq x past ≡ true → p + 1 + length (since eq x past) ≡ length past
      → LastAt x p (reverse past)
  last_latest x p [] h e = cc
  last_latest x p (y ∷ past) h e = split (eq x y)
      (λ t. let none : length (since eq x (y ∷ past)) ≡ 0 = rw (since-cons eq x y past, t) refl in
      let here : length (reverse past) ≡ p = omega (arith, e, none, length-reverse past) in
      subst (λ l. LastAt x p l) (sym (reverse_onto past y []))
      (subst (λ q. LastAt x q (reverse past ++ y ∷ [])) here (last_end x y (reverse past) t)))
      (λ f. let more : length (since eq x (y ∷ past)) ≡ suc (length (since eq x past)) = rw (since-cons eq x y past, f) refl in
      subst (λ l. LastAt x p l) (sym (reverse_onto past y []))
      (last_behind x y p (reverse past) f (last_latest x p past (rw f at h) (omega (arith, e, more)))))

module _ {K : Type 0} (eq : K → K → Bool) (laws : IsEquivalence eq) where
  -- one more request, of a key that was not requested
  later_first : (i : ℕ) (x : K) (rs : List K) → holds eq x rs ≡ false
      → later_from eq i (rs ++ x ∷ []) ≡ later_from eq i rs ++ 0 ∷ []
  later_first i x [] h = refl
  later_first i x (y ∷ rs) h =
      let parts = or_parts (eq x y) (holds eq x rs) h in
      ap (λ m. m ∷ later_from eq (i + 1) (rs ++ x ∷ [])) (later_behind eq i y x rs (λ _. laws.symm y x ∙ parts.0))
      ∙ ap (λ l. later_at eq i y rs ∷ l) (later_first (i + 1) x rs parts.1)

  -- and of one whose latest request is at p
  later_again : (i p : ℕ) (x : K) (rs : List K) → LastAt eq x p rs
      → later_from eq i (rs ++ x ∷ []) ≡ set (later_from eq i rs) p (i + length rs) ++ 0 ∷ []
  later_again i p x [] at = absurd at
  later_again i zero x (y ∷ rs) at =
      let back : eq y x ≡ true = laws.symm y x ∙ at.0 in
      let none : holds eq y rs ≡ false = sym (holds_same eq laws x y rs at.0) ∙ at.1 in
      let here : later_at eq i y (rs ++ x ∷ []) ≡ i + suc (length rs) =
      rw (held_last eq y x rs back) (omega (arith, until_last eq y x rs none back)) in
      ap (λ m. m ∷ later_from eq (i + 1) (rs ++ x ∷ [])) here
      ∙ ap (λ l. (i + suc (length rs)) ∷ l) (later_first (i + 1) x rs at.1)
  later_again i (suc p) x (y ∷ rs) at =
      let apart : holds eq y rs ≡ false → eq y x ≡ false =
      λ f. split (eq y x) (λ t. let e = holds_same eq laws y x rs t in let h = last_held eq x p rs at in cc) (λ g. g) in
      let count : (i + 1) + length rs ≡ i + suc (length rs) = omega arith in
      ap (λ m. m ∷ later_from eq (i + 1) (rs ++ x ∷ [])) (later_behind eq i y x rs apart)
      ∙ ap (λ l. later_at eq i y rs ∷ l) (later_again (i + 1) p x rs at
      ∙ ap (λ n. set (later_from eq (i + 1) rs) p n ++ 0 ∷ []) count)

  module _ (past : List K) (later : List ℕ) (is : IsForesight eq past later) (x : K) where
    -- a pass takes a request of a key that was not requested
    foresight_first : holds eq x past ≡ false → IsForesight eq (x ∷ past) (later ++ 0 ∷ [])
    foresight_first new =
        ap (λ l. l ++ 0 ∷ []) is ∙ sym (later_first 0 x (reverse past) (holds-reverse eq x past ∙ new))
        ∙ ap (λ l. later_from eq 0 l) (sym (reverse_onto past x []))

    -- and of one that was
    foresight_again : (p : ℕ) → holds eq x past ≡ true → p + 1 + length (since eq x past) ≡ length past
        → IsForesight eq (x ∷ past) (set (later ++ 0 ∷ []) p (length later))
    foresight_again p held at =
        let last = last_latest eq x p past held at in
        let many = foresight_length eq past later is in
        let within : p < length later = omega (arith, many, last_within eq x p (reverse past) last) in
        set-append_left later (0 ∷ []) p (length later) within
        ∙ ap (λ l. set l p (length later) ++ 0 ∷ []) is
        ∙ ap (λ n. set (later_from eq 0 (reverse past)) p n ++ 0 ∷ []) (omega (arith, many))
        ∙ sym (later_again 0 p x (reverse past) last)
        ∙ ap (λ l. later_from eq 0 l) (sym (reverse_onto past x []))

    -- what a pass is told of the latest request of x
    module _ (latest : Option ℕ) (of : IsLatestOf eq past x latest) where
      pub noted_first : (pushed : List ℕ) → latest ≡ None → pushed ≡ later ++ 0 ∷ [] → IsForesight eq (x ∷ past) pushed
      noted_first pushed none at = at ∙ foresight_first (sym of.known ∙ ap is_some none)

      module _ (p : ℕ) (some : latest ≡ Some p) where
        held : holds eq x past ≡ true
        held = sym of.known ∙ ap is_some some

        there : p + 1 + length (since eq x past) ≡ length past
        there = subst (λ o. IfSome o (λ q. q + 1 + length (since eq x past) ≡ length past)) some of.position

        pub noted_within : p < length later
        noted_within = omega (
          arith,
          foresight_length eq past later is,
          last_within eq x p (reverse past) (last_latest eq x p past held there),
        )

        pub noted_again : (position : ℕ) (pushed after : List ℕ) → position ≡ length later → pushed ≡ later ++ 0 ∷ []
            → after ≡ set pushed p position → IsForesight eq (x ∷ past) after
        noted_again position pushed after here at wrote =
            wrote ∙ ap (λ l. set l p position) at ∙ ap (λ n. set (later ++ 0 ∷ []) p n) here ∙ foresight_again p held there
