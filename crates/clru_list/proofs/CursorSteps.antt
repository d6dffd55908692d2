-- The list once a cursor has passed an entry, with what was written there.
use Rattle.std.proofs.Common.{◌≡◌, ℕ, zero, suc, ◌+◌, ◌-◌, ◌<◌, ◌≤◌, ◌==◌, cond, true, false, List, [], ◌∷◌, ◌++◌, length, set, take, drop, refl, sym, ap, ◌∙◌, subst, arith, slice_get, Some, None, Option}
use Rattle.std.specs.Option.{option_map_or, option_and_then}
use Rattle.std.specs.Map.{keys_of}
use Rattle.std.proofs.lemmas.Bool.{eq-eqb}
use Rattle.std.proofs.lemmas.List.{length-map, length-take, length-drop, take_more_set, take-set, take-set-le, drop-set, drop-set-lt, drop-set-add}
use Rattle.std.proofs.lemmas.Option.{slice_get_within}
use Rattle.clru_list.specs.PlaceList.{PlaceList, with_entries, with_at, IsApart, place_after, place_before}
use Rattle.clru_list.specs.Walks.{stretch, IsWindow}
use Rattle.clru_list.specs.Cursors.{Passes, PassesBack, written, past_front, past_back, stepped, stepped_back}
use Rattle.clru_list.specs.declared.cursor.FixedSizeListIterMut.{FixedSizeListIterMut}
use Rattle.clru_list.proofs.Windows.{FrontEntry, BackEntry, differs, item_at-entry}

module _ {T : Type 0} where
  -- a write leaves the places
  pub keys-with_at : (p : ℕ) (w : T) (es : List (ℕ × T)) → keys_of (with_at p w es) ≡ keys_of es
  keys-with_at p w [] = refl
  keys-with_at p w (e ∷ es) =
      elim (p == e.0) as (λ b. keys_of (cond b ((e.0, w) ∷ es) (e ∷ with_at p w es)) ≡ e.0 ∷ keys_of es) [ true ↦ refl | false ↦ ap (λ l. e.0 ∷ l) (keys-with_at p w es) ]

  -- a write at a place is one at the index of its entry
  pub with_at-set : (es : List (ℕ × T)) (k : ℕ) (e : ℕ × T) (w : T) → IsApart es → slice_get es k ≡ Some e → with_at e.0 w es ≡ set es k (e.0, w)
  with_at-set [] k e w apart at = cc
  with_at-set (d ∷ es) zero e w apart at = let same : d ≡ e = cc in rw (same, eq-eqb e.0 e.0 refl) refl
  with_at-set (d ∷ es) (suc k) e w apart at =
      rw (differs d es e.0 e.1 apart.0 (item_at-entry es k e apart.1 at)) (ap (λ l. d ∷ l) (with_at-set es k e w apart.1 at))

  -- a write leaves the capacity and the places
  written-list : (l : PlaceList T) (place : Option ℕ) (w : T)
      → let d = option_map_or (λ p. with_entries l (with_at p w l.entries)) place l in d ≡ with_entries l d.entries
  written-list l None w = refl
  written-list l (Some p) w = refl

  pub length-stretch : (es : List (ℕ × T)) (done left : ℕ) → done + left ≤ length (keys_of es) → length (stretch done left es) ≡ left
  length-stretch es done left fits = omega (arith, length-take left (drop done es), length-drop done es, length-map es (λ (e : ℕ × T). e.0))

module _ {T A : Type 0} where
  -- what a write at the front leaves of the cursor that was moved on
  pub stepped-is : (c d : FixedSizeListIterMut T A) (p : ℕ) (w : T) → c.front ≡ Some p → d ≡ past_front c
      → written d (Some p) w ≡ stepped c w
  stepped-is c d p w front passed = ap (λ x. written x (Some p) w) passed ∙ ap (λ f. written (past_front c) f w) (sym front)

  pub stepped_back-is : (c d : FixedSizeListIterMut T A) (p : ℕ) (w : T) → c.back ≡ Some p → d ≡ past_back c
      → written d (Some p) w ≡ stepped_back c w
  stepped_back-is c d p w back passed = ap (λ x. written x (Some p) w) passed ∙ ap (λ f. written (past_back c) f w) (sym back)

  pub passes : (c : FixedSizeListIterMut T A) (w : T) → IsApart c.list.now.entries → (e : FrontEntry c.list.now.entries c.done c.left c.front c.back) → 0 < c.left
      → Passes c e.item w (stepped c w)
  passes c w apart e some =
      let es = c.list.now.entries in
      let new = (stepped c w).list.now.entries in
      let now : new ≡ with_at e.place w es = ap (λ f. (option_map_or (λ p. with_entries c.list.now (with_at p w es)) f c.list.now).entries) e.stands in
      let here : new ≡ set es c.done (e.place, w) = now ∙ with_at-set es c.done (e.place, e.item) w apart e.at in
      let keys : keys_of new ≡ keys_of es = ap keys_of now ∙ keys-with_at e.place w es in
      let front : (stepped c w).front ≡ place_after e.place es = ap (option_and_then (λ p. place_after p es)) e.stands in
      let within = slice_get_within es c.done (e.place, e.item) e.at in
      let same : c.done + 1 + (c.left - 1) ≡ c.done + c.left = omega arith in
      record {
        can = subst (λ k. IsWindow k (c.done + 1) (c.left - 1) (stepped c w).front c.back) (sym keys)
            (subst (λ f. IsWindow (keys_of es) (c.done + 1) (c.left - 1) f c.back) (sym front) e.moved);
        place = e.place;
        rest = e.yields ∙ ap (λ l. (e.place, e.item) ∷ take (c.left - 1) l) (sym (ap (drop (c.done + 1)) here ∙ drop-set-lt (c.done + 1) es c.done (e.place, w) (omega arith)));
        before = ap (take (c.done + 1)) here ∙ take_more_set es c.done (e.place, w) within;
        after = ap (λ k. drop k new) same ∙ ap (drop (c.done + c.left)) here ∙ drop-set-lt (c.done + c.left) es c.done (e.place, w) (omega arith);
        list = written-list c.list.now c.front w;
      }

  pub passes_back : (c : FixedSizeListIterMut T A) (w : T) → IsApart c.list.now.entries → (e : BackEntry c.list.now.entries c.done c.left c.front c.back) → 0 < c.left
      → PassesBack c e.item w (stepped_back c w)
  passes_back c w apart e some =
      let es = c.list.now.entries in
      let new = (stepped_back c w).list.now.entries in
      let at : c.done + c.left - 1 ≡ c.done + (c.left - 1) = omega arith in
      let end : c.done + (c.left - 1) + 1 ≡ c.done + c.left = omega arith in
      let stands = ap (slice_get es) (sym at) ∙ e.at in
      let now : new ≡ with_at e.place w es = ap (λ f. (option_map_or (λ p. with_entries c.list.now (with_at p w es)) f c.list.now).entries) e.stands in
      let here : new ≡ set es (c.done + (c.left - 1)) (e.place, w) = now ∙ with_at-set es (c.done + (c.left - 1)) (e.place, e.item) w apart stands in
      let keys : keys_of new ≡ keys_of es = ap keys_of now ∙ keys-with_at e.place w es in
      let back : (stepped_back c w).back ≡ place_before e.place es = ap (option_and_then (λ p. place_before p es)) e.stands in
      let within = slice_get_within es (c.done + (c.left - 1)) (e.place, e.item) stands in
      record {
        can = subst (λ k. IsWindow k c.done (c.left - 1) c.front (stepped_back c w).back) (sym keys)
            (subst (λ b. IsWindow (keys_of es) c.done (c.left - 1) c.front b) (sym back) e.moved);
        place = e.place;
        rest = e.yields ∙ ap (λ l. l ++ (e.place, e.item) ∷ [])
            (sym (ap (λ l. take (c.left - 1) (drop c.done l)) here
            ∙ ap (take (c.left - 1)) (drop-set-add c.done es (c.left - 1) (e.place, w))
            ∙ take-set (drop c.done es) (c.left - 1) (e.place, w)));
        before = ap (take c.done) here ∙ take-set-le c.done es (c.done + (c.left - 1)) (e.place, w) (omega arith);
        after = ap (drop (c.done + (c.left - 1))) here ∙ drop-set es (c.done + (c.left - 1)) (e.place, w) within ∙ ap (λ k. (e.place, w) ∷ drop k es) end;
        list = written-list c.list.now c.back w;
      }
