-- The entries that are kept along a walk, and those that are still to be asked for.
use Rattle.std.proofs.Common.{◌≡◌, ℕ, ◌<◌, Bool, true, false, cond, eqb, List, [], ◌∷◌, ◌++◌, length, Option, Some, None, refl, sym, ap, ◌∙◌, arith, subst, append_assoc}
use Rattle.std.specs.Map.{keys_of}
use Rattle.std.specs.Map.Calls.{RetainsPairs, CallableOnEachPair}
use Rattle.clru_list.specs.PlaceList.{PlaceList, with_entries, item_at, without, with_at, first_place, place_after, IsApart, IsValid}
use Rattle.clru_list.specs.Places.{count}
use Rattle.clru_list.proofs.Puts.{decide}
use Rattle.clru_list.proofs.Paths.{apart_head, apart_tail}
use Rattle.clru_list.proofs.EntryLists.{IsHead, head_is, no_head, absent_before, item_at-in, place_after-split, without-split, with_at-split}

module _ {T : Type 0} where
  -- the entries from a place on
  abbrev pub from_place : Option ℕ → List (ℕ × T) → List (ℕ × T)
  from_place None es = []
  from_place (Some p) [] = []
  from_place (Some p) (e ∷ es) = cond (eqb p e.0) (e ∷ es) (from_place (Some p) es)

  from_some : (bs cs : List (ℕ × T)) (p : ℕ) (x : T) → count p (keys_of bs) ≡ 0 → from_place (Some p) (bs ++ (p, x) ∷ cs) ≡ (p, x) ∷ cs
  from_some [] cs p x h = decide p p (λ _ t. rw t refl) (λ ne _. absurd (ne refl))
  from_some (b ∷ bs) cs p x h =
      decide p b.0 (λ same _. absurd (apart_head p b.0 (keys_of bs) h same)) (λ _ f. rw f (from_some bs cs p x (apart_tail p b.0 (keys_of bs) h)))

  from_first : (bs cs : List (ℕ × T)) → IsApart (bs ++ cs) → from_place (first_place cs) (bs ++ cs) ≡ cs
  from_first bs [] apart = refl
  from_first bs (c ∷ cs) apart = from_some bs cs c.0 c.1 (absent_before bs cs c.0 c.1 apart)

pub some_injective : {X : Type 0} {x y : X} → Some x ≡ Some y → x ≡ y
some_injective h = cc

module _ {F T : Type 0} (step : F → ℕ → T → Bool → T → F → Type 0) (takes : F → ℕ → T → Type 0) where
  -- the closure was called on the entries before the place at, and is still to be called on the others
  pub record IsRetaining (first : F) (old : PlaceList T) (f : F) (now : PlaceList T) (at : Option ℕ) : Type 0 where
    pub kept : List (ℕ × T)
    pub left : List (ℕ × T)
    pub entries : now.entries ≡ kept ++ left
    pub stays : now ≡ with_entries old now.entries
    pub stands : at ≡ first_place left
    pub valid : IsValid now
    pub run : (later : List (ℕ × T)) → RetainsPairs step f left later → RetainsPairs step first old.entries (kept ++ later)
    pub callable : CallableOnEachPair step takes f left

  pub starts : (f : F) (old : PlaceList T) (at : Option ℕ) → at ≡ first_place old.entries → IsValid old → CallableOnEachPair step takes f old.entries
      → IsRetaining f old f old at
  starts f old at stands valid callable = record {
    kept = [];
    left = old.entries;
    entries = refl;
    stays = refl;
    stands = stands;
    valid = valid;
    run = λ later h. h;
    callable = callable;
  }

  module _ (first : F) (old : PlaceList T) (f : F) (now : PlaceList T) (at : Option ℕ) (s : IsRetaining first old f now at) where
    pub left_is : from_place at now.entries ≡ s.left
    left_is = let P : List (ℕ × T) → Type 0 = IsApart in
        ap (λ o. from_place o now.entries) s.stands ∙ ap (from_place (first_place s.left)) s.entries ∙ from_first s.kept s.left (subst P s.entries s.valid.apart)

    pub ends : ((p : ℕ) → at ≡ Some p → ⊥) → RetainsPairs step first old.entries now.entries
    ends none =
        let empty = no_head s.left (λ p h. none p (s.stands ∙ h)) in
        let P : List (ℕ × T) → Type 0 = λ l. RetainsPairs step f l [] in let Q : List (ℕ × T) → Type 0 = λ l. RetainsPairs step first old.entries l in
        subst Q (sym (s.entries ∙ ap (λ l. s.kept ++ l) empty)) (s.run [] (subst P (sym empty) refl))

    module _ (p : ℕ) (here : at ≡ Some p) where
      pub head : IsHead p s.left
      head = head_is p s.left (sym s.stands ∙ here)

      split_here : now.entries ≡ s.kept ++ (p, head.value) ∷ head.rest
      split_here = s.entries ∙ ap (λ l. s.kept ++ l) head.is

      absent_here : count p (keys_of s.kept) ≡ 0
      absent_here = let P : List (ℕ × T) → Type 0 = IsApart in absent_before s.kept head.rest p head.value (subst P split_here s.valid.apart)

      pub item_here : item_at p now.entries ≡ Some head.value
      item_here = ap (item_at p) split_here ∙ item_at-in p head.value s.kept head.rest absent_here

      pub takes_here : takes f p head.value
      takes_here = s.callable.at [] head.rest f p head.value head.is refl

      pub written_here : (w : T) → with_at p w now.entries ≡ s.kept ++ (p, w) ∷ head.rest
      written_here w = ap (with_at p w) split_here ∙ with_at-split p head.value w s.kept head.rest absent_here

      -- what the other calls may be asked
      callable_after : (b : Bool) (w : T) (g : F) → step f p head.value b w g → CallableOnEachPair step takes g head.rest
      callable_after b w g called = record {
        at = λ before after h k v is folds.
            s.callable.at ((p, head.value) ∷ before) after h k v (head.is ∙ ap (λ l. (p, head.value) ∷ l) is) (g, (b, w, called), folds);
      }

      -- one more call, that leaves w there and answers true
      keeps : (w : T) (g : F) (new : PlaceList T) (next : Option ℕ) → step f p head.value true w g → new.entries ≡ s.kept ++ (p, w) ∷ head.rest
          → new ≡ with_entries old new.entries → IsValid new → next ≡ first_place head.rest → IsRetaining first old g new next
      keeps w g new next called entries stays valid stands = record {
        kept = s.kept ++ (p, w) ∷ [];
        left = head.rest;
        entries = entries ∙ sym (append_assoc s.kept ((p, w) ∷ []) head.rest);
        stays = stays;
        stands = stands;
        valid = valid;
        run = λ later h.
            let P : List (ℕ × T) → Type 0 = λ l. RetainsPairs step f l ((p, w) ∷ later) in let Q : List (ℕ × T) → Type 0 = λ l. RetainsPairs step first old.entries l in
            subst Q (sym (append_assoc s.kept ((p, w) ∷ []) later)) (s.run ((p, w) ∷ later) (subst P (sym head.is) (true, w, g, later, called, h, refl)));
        callable = callable_after true w g called;
      }

      -- one more call, that answers false
      drops : (w : T) (g : F) (new : PlaceList T) (next : Option ℕ) → step f p head.value false w g → new.entries ≡ s.kept ++ head.rest
          → new ≡ with_entries old new.entries → IsValid new → next ≡ first_place head.rest → IsRetaining first old g new next
      drops w g new next called entries stays valid stands = record {
        kept = s.kept;
        left = head.rest;
        entries = entries;
        stays = stays;
        stands = stands;
        valid = valid;
        run = λ later h.
            let P : List (ℕ × T) → Type 0 = λ l. RetainsPairs step f l later in
            s.run later (subst P (sym head.is) (false, w, g, later, called, h, refl));
        callable = callable_after false w g called;
      }

      -- the place behind
      next_here : place_after p now.entries ≡ first_place head.rest
      next_here = ap (place_after p) split_here ∙ place_after-split p head.value s.kept head.rest absent_here

      -- the list `mid` has w there, and the entry stays where the answer is true
      pub goes_on : (b : Bool) (w : T) (g : F) (mid new : PlaceList T) (next : Option ℕ) → step f p head.value b w g → mid ≡ with_entries now (with_at p w now.entries)
          → new ≡ with_entries mid (cond b mid.entries (without p mid.entries)) → IsValid new → next ≡ place_after p now.entries
          → IsRetaining first old g new next
      goes_on true w g mid new next called written same valid after =
          let es = ap (λ l. l.entries) written ∙ written_here w in
          keeps w g new next called (ap (λ l. l.entries) same ∙ es)
          (same ∙ written ∙ ap (λ l. with_entries l (with_at p w now.entries)) s.stays ∙ ap (with_entries old) (sym (ap (λ l. l.entries) same ∙ ap (λ l. l.entries) written)))
          valid (after ∙ next_here)
      goes_on false w g mid new next called written same valid after =
          let es = ap (λ l. l.entries) written ∙ written_here w in let out = ap (λ l. l.entries) same in
          drops w g new next called (out ∙ ap (without p) es ∙ without-split p w s.kept head.rest absent_here)
          (same ∙ ap (λ l. with_entries l (without p mid.entries)) (written ∙ ap (λ l. with_entries l (with_at p w now.entries)) s.stays) ∙ ap (with_entries old) (sym out))
          valid (after ∙ next_here)

      remaining : (before : List (ℕ × T)) (new : PlaceList T) (next : Option ℕ) → new.entries ≡ before ++ head.rest → IsValid new → next ≡ first_place head.rest
          → length (from_place next new.entries) < length (from_place at now.entries)
      remaining before new next entries valid stands =
          let P : List (ℕ × T) → Type 0 = IsApart in
          let rest = ap (λ o. from_place o new.entries) stands ∙ ap (from_place (first_place head.rest)) entries ∙ from_first before head.rest (subst P entries valid.apart) in
          omega (arith, ap length rest, ap length (left_is ∙ head.is))

      -- one entry less is left
      pub fewer : (b : Bool) (w : T) (mid new : PlaceList T) (next : Option ℕ) → mid ≡ with_entries now (with_at p w now.entries)
          → new ≡ with_entries mid (cond b mid.entries (without p mid.entries)) → IsValid new → next ≡ place_after p now.entries
          → length (from_place next new.entries) < length (from_place at now.entries)
      fewer true w mid new next written same valid after =
          let es = ap (λ l. l.entries) written ∙ written_here w in
          remaining (s.kept ++ (p, w) ∷ []) new next (ap (λ l. l.entries) same ∙ es ∙ sym (append_assoc s.kept ((p, w) ∷ []) head.rest)) valid (after ∙ next_here)
      fewer false w mid new next written same valid after =
          let es = ap (λ l. l.entries) written ∙ written_here w in
          remaining s.kept new next (ap (λ l. l.entries) same ∙ ap (without p) es ∙ without-split p w s.kept head.rest absent_here) valid (after ∙ next_here)
