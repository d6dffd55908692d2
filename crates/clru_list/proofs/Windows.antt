-- The entries at the two ends of a walk, and where it stands once it has passed one of them.
use Rattle.std.proofs.Common.{◌≡◌, ℕ, zero, suc, ◌+◌, ◌-◌, ◌<◌, ◌==◌, true, false, List, [], ◌∷◌, ◌++◌, length, take, drop, refl, sym, ap, ◌∙◌, arith, slice_get, Some, None, Option}
use Rattle.std.specs.Option.{option_map}
use Rattle.std.specs.Map.{keys_of}
use Rattle.std.proofs.lemmas.Bool.{eq-eqb, eqb-true}
use Rattle.std.proofs.lemmas.Option.{get_or_from_slice_get, slice_get_within, slice_get-map}
use Rattle.std.proofs.lemmas.List.{length-map, length-drop, drop_more, take_more, get_or-drop}
use Rattle.clru_list.specs.PlaceList.{item_at, IsApart, first_place, last_entry_from, last_entry, last_place, place_after, place_before_from, place_before}
use Rattle.clru_list.specs.Walks.{stretch, IsWindow}

module _ {T : Type 0} where
  -- the place of an entry is not that of the first, where the entry stands behind it
  pub differs : (d : ℕ × T) (es : List (ℕ × T)) (p : ℕ) (x : T) → item_at d.0 es ≡ None → item_at p es ≡ Some x → (p == d.0) ≡ false
  differs d es p x none some =
      elim (p == d.0) as (λ b. (p == d.0) ≡ b → b ≡ false) [ true ↦ λ same. let e = eqb-true p d.0 same in let h : item_at p es ≡ None = rw e none in cc | false ↦ λ _. refl ] refl

  pub item_at-entry : (es : List (ℕ × T)) (k : ℕ) (e : ℕ × T) → IsApart es → slice_get es k ≡ Some e → item_at e.0 es ≡ Some e.1
  item_at-entry [] k e apart at = cc
  item_at-entry (d ∷ es) zero e apart at = let same : d ≡ e = cc in rw (same, eq-eqb e.0 e.0 refl) refl
  item_at-entry (d ∷ es) (suc k) e apart at = let h = item_at-entry es k e apart.1 at in rw (differs d es e.0 e.1 apart.0 h) h

  pub first_place-get : (es : List (ℕ × T)) → first_place es ≡ slice_get (keys_of es) 0
  first_place-get [] = refl
  first_place-get (e ∷ es) = refl

  pub place_after-entry : (es : List (ℕ × T)) (k : ℕ) (e : ℕ × T) → IsApart es → slice_get es k ≡ Some e → place_after e.0 es ≡ slice_get (keys_of es) (suc k)
  place_after-entry [] k e apart at = cc
  place_after-entry (d ∷ es) zero e apart at = let same : d ≡ e = cc in rw (same, eq-eqb e.0 e.0 refl) (first_place-get es)
  place_after-entry (d ∷ es) (suc k) e apart at =
      rw (differs d es e.0 e.1 apart.0 (item_at-entry es k e apart.1 at)) (place_after-entry es k e apart.1 at)

  pub place_before_from-entry : (before : Option ℕ) (es : List (ℕ × T)) (k : ℕ) (e : ℕ × T) → IsApart es → slice_get es (suc k) ≡ Some e
      → place_before_from before e.0 es ≡ slice_get (keys_of es) k
  place_before_from-entry before [] k e apart at = cc
  place_before_from-entry before (d ∷ []) k e apart at = cc
  place_before_from-entry before (d ∷ (c ∷ es)) zero e apart at =
      let same : c ≡ e = cc in rw (differs d (c ∷ es) e.0 e.1 apart.0 (item_at-entry (c ∷ es) 0 e apart.1 at), same, eq-eqb e.0 e.0 refl) refl
  place_before_from-entry before (d ∷ (c ∷ es)) (suc k) e apart at =
      rw (differs d (c ∷ es) e.0 e.1 apart.0 (item_at-entry (c ∷ es) (suc k) e apart.1 at)) (place_before_from-entry (Some d.0) (c ∷ es) k e apart.1 at)

  last_entry_from-get : (before : Option (ℕ × T)) (e : ℕ × T) (es : List (ℕ × T)) → last_entry_from before (e ∷ es) ≡ slice_get (e ∷ es) (length es)
  last_entry_from-get before e [] = refl
  last_entry_from-get before e (d ∷ es) = last_entry_from-get (Some e) d es

  last_entry_from-push : (before : Option (ℕ × T)) (es : List (ℕ × T)) (e : ℕ × T) → last_entry_from before (es ++ e ∷ []) ≡ Some e
  last_entry_from-push before [] e = refl
  last_entry_from-push before (d ∷ es) e = last_entry_from-push (Some d) es e

  pub last_entry-push : (es : List (ℕ × T)) (e : ℕ × T) → last_entry (es ++ e ∷ []) ≡ Some e
  last_entry-push es e = last_entry_from-push None es e

  pub last_place-get : (es : List (ℕ × T)) → 0 < length es → last_place es ≡ slice_get (keys_of es) (0 + length es - 1)
  last_place-get [] some = absurd (omega arith)
  last_place-get (e ∷ es) some = let at : 0 + suc (length es) - 1 ≡ length es = omega arith in
      ap (option_map (λ (d : ℕ × T). d.0)) (last_entry_from-get None e es) ∙ sym (slice_get-map (λ (d : ℕ × T). d.0) (e ∷ es) (length es))
      ∙ ap (slice_get (keys_of (e ∷ es))) (sym at)

  -- a walk over the whole list
  pub whole : (es : List (ℕ × T)) (left : ℕ) (front back : Option ℕ) → left ≡ length es → front ≡ first_place es → back ≡ last_place es
      → IsWindow (keys_of es) 0 left front back
  whole es left front back long first last = rw (long, first, last) record {
    fits = omega (arith, length-map es (λ (e : ℕ × T). e.0));
    first = λ _. first_place-get es;
    last = last_place-get es;
  }

  -- the first entry that a walk has before it
  pub record FrontEntry (es : List (ℕ × T)) (done left : ℕ) (front back : Option ℕ) : Type 0 where
    pub place : ℕ
    pub item : T
    pub stands : front ≡ Some place
    pub held : item_at place es ≡ Some item
    pub at : slice_get es done ≡ Some (place, item)
    pub moved : IsWindow (keys_of es) (done + 1) (left - 1) (place_after place es) back
    pub yields : stretch done left es ≡ (place, item) ∷ stretch (done + 1) (left - 1) es

  -- the last one
  pub record BackEntry (es : List (ℕ × T)) (done left : ℕ) (front back : Option ℕ) : Type 0 where
    pub place : ℕ
    pub item : T
    pub stands : back ≡ Some place
    pub held : item_at place es ≡ Some item
    pub at : slice_get es (done + left - 1) ≡ Some (place, item)
    pub moved : IsWindow (keys_of es) done (left - 1) front (place_before place es)
    pub yields : stretch done left es ≡ stretch done (left - 1) es ++ (place, item) ∷ []

  stretch-front : (es : List (ℕ × T)) (done left : ℕ) (e : ℕ × T) → 0 < left → slice_get es done ≡ Some e → stretch done left es ≡ e ∷ stretch (done + 1) (left - 1) es
  stretch-front es done zero e some at = absurd (omega arith)
  stretch-front es done (suc n) e some at =
      let less : n ≡ suc n - 1 = omega arith in
      ap (take (suc n)) (drop_more es done e (slice_get_within es done e at) ∙ ap (λ d. d ∷ drop (done + 1) es) (get_or_from_slice_get es done e e at))
      ∙ ap (λ k. e ∷ take k (drop (done + 1) es)) less

  stretch-back : (es : List (ℕ × T)) (done left : ℕ) (e : ℕ × T) → 0 < left → slice_get es (done + left - 1) ≡ Some e → stretch done left es ≡ stretch done (left - 1) es ++ e ∷ []
  stretch-back es done zero e some at = absurd (omega arith)
  stretch-back es done (suc n) e some at =
      let less : n ≡ suc n - 1 = omega arith in
      let one : suc n ≡ n + 1 = omega arith in
      let place : done + suc n - 1 ≡ done + n = omega arith in
      let within = slice_get_within es (done + suc n - 1) e at in
      ap (λ k. take k (drop done es)) one ∙ take_more (drop done es) n e (omega (arith, length-drop done es))
      ∙ ap (λ d. take n (drop done es) ++ d ∷ []) (get_or-drop done es n e ∙ get_or_from_slice_get es (done + n) e e (ap (slice_get es) (sym place) ∙ at))
      ∙ ap (λ k. take k (drop done es) ++ e ∷ []) less

  pub entry_at : (es : List (ℕ × T)) (k : ℕ) → k < length es → (e : ℕ × T) × (slice_get es k ≡ Some e)
  entry_at [] k within = absurd (omega arith)
  entry_at (e ∷ es) zero within = (e, refl)
  entry_at (e ∷ es) (suc k) within = entry_at es k (omega arith)

  pub place_at : (es : List (ℕ × T)) (k : ℕ) (e : ℕ × T) → slice_get es k ≡ Some e → slice_get (keys_of es) k ≡ Some e.0
  place_at es k e at = slice_get-map (λ (d : ℕ × T). d.0) es k ∙ ap (option_map (λ (d : ℕ × T). d.0)) at

  pub front_entry : (es : List (ℕ × T)) (done left : ℕ) (front back : Option ℕ) → IsApart es → IsWindow (keys_of es) done left front back → 0 < left
      → FrontEntry es done left front back
  front_entry es done left front back apart w some =
      let fits = w.fits in let long = length-map es (λ (e : ℕ × T). e.0) in
      let found = entry_at es done (omega arith) in
      let step : done + 1 ≡ suc done = omega arith in
      let same : done + 1 + (left - 1) - 1 ≡ done + left - 1 = omega arith in
      record {
        place = found.0.0;
        item = found.0.1;
        stands = w.first some ∙ place_at es done found.0 found.1;
        held = item_at-entry es done found.0 apart found.1;
        at = found.1;
        moved = record {
          fits = omega arith;
          first = λ _. place_after-entry es done found.0 apart found.1 ∙ ap (slice_get (keys_of es)) (sym step);
          last = λ _. w.last some ∙ ap (slice_get (keys_of es)) (sym same);
        };
        yields = stretch-front es done left found.0 some found.1;
      }

  pub back_entry : (es : List (ℕ × T)) (done left : ℕ) (front back : Option ℕ) → IsApart es → IsWindow (keys_of es) done left front back → 0 < left
      → BackEntry es done left front back
  back_entry es done left front back apart w some =
      let fits = w.fits in let long = length-map es (λ (e : ℕ × T). e.0) in
      let found = entry_at es (done + left - 1) (omega arith) in
      record {
        place = found.0.0;
        item = found.0.1;
        stands = w.last some ∙ place_at es (done + left - 1) found.0 found.1;
        held = item_at-entry es (done + left - 1) found.0 apart found.1;
        at = found.1;
        moved = record {
          fits = omega arith;
          first = λ more. w.first some;
          last = λ more. let at : done + left - 1 ≡ suc (done + (left - 1) - 1) = omega arith in
              place_before_from-entry None es (done + (left - 1) - 1) found.0 apart (ap (slice_get es) (sym at) ∙ found.1);
        };
        yields = stretch-back es done left found.0 some found.1;
      }
