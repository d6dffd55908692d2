-- What the passes of classes know after one more line.
use Rattle.std.proofs.Common.{◌≡◌, ℕ, Bool, zero, suc, ◌<◌, false, List, [], ◌∷◌, ◌++◌, length, take, drop, set, get_or, map, inl, inr, refl, sym, ap, ◌∙◌, subst, arith}
use Rattle.std.specs.Prelude.{bytes_eq}
use Rattle.std.specs.List.{All, insert, list_any}
use Rattle.std.proofs.lemmas.Bool.{cases_eq}
use Rattle.std.proofs.lemmas.List.{length-map, length-set, get_or-map, get_or-set_same, get_or-set_other, map-set, set-get_or}
use Rattle.std.proofs.lemmas.List.Elements.{All-append, All-cons, All-drop, All-from_get_or, All-nil, All-set, All-take}
use Rattle.clru_model.proofs.Cases.{split}
use Rattle.clru_text.proofs.ByteLemmas.{same_bytes}
use Rattle.clru_shares.proofs.ClassLemmas.{held_alone, inserted_ascends, is_any, missing_each, none_inserted, none_more, not_any}
use Rattle.clru_shares.proofs.SampleLemmas.{none_next}
use Rattle.clru_shares.specs.Classes.{AreAscending, AreClasses, class_in, of_class, requests_of}
use Rattle.clru_shares.specs.LinePasses.{HasTakenBy}
use Rattle.clru_shares.specs.Passes.{BelongsAt, HasTaken, HaveTaken, IsHeldAt, name_of, next_kept}
use Rattle.clru_shares.specs.Sizes.{size_in}
use Rattle.clru_shares.specs.declared.classes.Class.{Class}

absurd_any : (names : List (List ℕ)) (name : List ℕ) (at : ℕ) → at < length names → get_or names at [] ≡ name
    → list_any (bytes_eq name) names ≡ false → {P : Type 0} → P
absurd_any names name at low is none {P} = let has = is_any names name at low is in absurd (cc)

map_insert : {A : Type 0} (classes : List (Class A)) (at : ℕ) (class : Class A)
    → map name_of (insert classes at class) ≡ insert (map name_of classes) at (name_of class)
map_insert [] zero class = refl
map_insert [] (suc at) class = refl
map_insert (c ∷ cs) zero class = refl
map_insert (c ∷ cs) (suc at) class = ap (λ ns. name_of c ∷ ns) (map_insert cs at class)

module _ {A : Type 0} (sizes : Bool) (limit : ℕ) (lines : List (List ℕ)) (kept : List (List ℕ × ℕ)) (b : Bool) (line : List ℕ) (time : ℕ) where
  -- a line of another class changes nothing
  pub taken_other : (class : Class A) → bytes_eq (name_of class) (class_in line) ≡ false → HasTaken sizes limit lines kept class
      → HasTaken sizes limit (lines ++ line ∷ []) (next_kept b kept (line, time)) class
  taken_other class other is =
      let same = sym (none_more (name_of class) lines line other) in let behind = sym (none_next b (name_of class) kept (line, time) other) in
      record {
        taken = subst (λ ls. HasTakenBy sizes limit ls class.pass) behind is.taken;
        numbered = is.numbered ∙ ap length behind;
        fewer = is.fewer;
        counted = is.counted ∙ ap length same;
        summed = is.summed ∙ ap (size_in sizes) same;
      }

  module _ (classes : List (Class A)) (is : HaveTaken sizes limit lines kept classes) (at : ℕ) (class : Class A)
      (own : name_of class ≡ class_in line) (taken : HasTaken sizes limit (lines ++ line ∷ []) (next_kept b kept (line, time)) class) (some : 0 < class.requests) where
    other_at : (k : ℕ) → k < length classes → bytes_eq (get_or (map name_of classes) k []) (class_in line) ≡ false
        → HasTaken sizes limit (lines ++ line ∷ []) (next_kept b kept (line, time)) (get_or classes k class)
    other_at k low other =
        taken_other (get_or classes k class)
        (subst (λ n. bytes_eq n (class_in line) ≡ false) (get_or-map name_of classes k class [] low) other)
        (is.each k class low)

    -- the class was held
    pub taken_at : IsHeldAt (map name_of classes) (class_in line) at → HaveTaken sizes limit (lines ++ line ∷ []) (next_kept b kept (line, time)) (set classes at class)
    taken_at held =
        let within : at < length classes = subst (λ n. at < n) (length-map classes name_of) held.within in
        let names : map name_of (set classes at class) ≡ map name_of classes =
        map-set name_of classes at class ∙ ap (set (map name_of classes) at) (own ∙ sym held.is) ∙ set-get_or (map name_of classes) at [] in
        record {
          ascending = subst AreAscending (sym names) is.ascending;
          each = All-from_get_or (HasTaken sizes limit (lines ++ line ∷ []) (next_kept b kept (line, time))) (set classes at class) class (λ k low. elim (cases_eq k at) [
            | inl here ↦ subst (HasTaken sizes limit (lines ++ line ∷ []) (next_kept b kept (line, time))) (sym (ap (λ i. get_or (set classes at class) i class) here
                ∙ get_or-set_same classes at class class within)) taken
            | inr apart ↦
                let there : k < length classes = subst (λ n. k < n) (length-set classes at class) low in
                subst (HasTaken sizes limit (lines ++ line ∷ []) (next_kept b kept (line, time))) (sym (get_or-set_other classes at k class class apart))
                (other_at k there (held_alone (map name_of classes) (class_in line) at is.ascending held k
                (subst (λ n. k < n) (sym (length-map classes name_of)) there) apart))
          ]);
          some = All-set (λ c. 0 < c.requests) classes at class some is.some;
          no_other = λ name none.
              let before = subst (λ ns. list_any (bytes_eq name) ns ≡ false) names none in
              let other = split (bytes_eq name (class_in line))
              (λ t. absurd_any (map name_of classes) name at held.within (held.is ∙ sym (same_bytes name (class_in line) t)) before) (λ f. f) in
              (none_more name lines line other ∙ (is.no_other name before).0, none_next b name kept (line, time) other ∙ (is.no_other name before).1);
        }

    -- it was not, and is put where it belongs
    pub taken_new : BelongsAt (map name_of classes) (class_in line) at → HaveTaken sizes limit (lines ++ line ∷ []) (next_kept b kept (line, time)) (insert classes at class)
    taken_new belongs =
        let names : map name_of (insert classes at class) ≡ insert (map name_of classes) at (class_in line) =
        map_insert classes at class ∙ ap (insert (map name_of classes) at) own in
        let each : All (HasTaken sizes limit (lines ++ line ∷ []) (next_kept b kept (line, time))) classes = All-from_get_or (HasTaken sizes limit (lines ++ line ∷ []) (next_kept b kept (line, time))) classes class
        (λ k low. other_at k low (missing_each (map name_of classes) (class_in line) at belongs k
        (subst (λ n. k < n) (sym (length-map classes name_of)) low))) in
        record {
          ascending = subst AreAscending (sym names) (inserted_ascends (map name_of classes) (class_in line) at is.ascending belongs);
          each = All-append (HasTaken sizes limit (lines ++ line ∷ []) (next_kept b kept (line, time))) (take at classes) (class ∷ drop at classes)
              (All-take (HasTaken sizes limit (lines ++ line ∷ []) (next_kept b kept (line, time))) at classes each)
              (All-cons (HasTaken sizes limit (lines ++ line ∷ []) (next_kept b kept (line, time))) class (drop at classes) taken (All-drop (HasTaken sizes limit (lines ++ line ∷ []) (next_kept b kept (line, time))) at classes each));
          some = All-append (λ c. 0 < c.requests) (take at classes) (class ∷ drop at classes)
              (All-take (λ c. 0 < c.requests) at classes is.some)
              (All-cons (λ c. 0 < c.requests) class (drop at classes) some (All-drop (λ c. 0 < c.requests) at classes is.some));
          no_other = λ name none.
              let parts = none_inserted (map name_of classes) (class_in line) name at (subst (λ ns. list_any (bytes_eq name) ns ≡ false) names none) in
              (none_more name lines line parts.1 ∙ (is.no_other name parts.0).0, none_next b name kept (line, time) parts.1 ∙ (is.no_other name parts.0).1);
        }

-- a class that belongs at a place has no line so far
pub new_class : {A : Type 0} (sizes : Bool) (limit : ℕ) (lines : List (List ℕ)) (kept : List (List ℕ × ℕ)) (classes : List (Class A)) (name : List ℕ) (at : ℕ)
    → HaveTaken sizes limit lines kept classes
    → BelongsAt (map name_of classes) name at → (requests_of name lines ≡ []) × (of_class name kept ≡ [])
new_class sizes limit lines kept classes name at is belongs =
    is.no_other name (not_any (map name_of classes) name (missing_each (map name_of classes) name at belongs))

-- the lines of a class that is held are numbered
pub lines_held : {A : Type 0} (sizes : Bool) (limit : ℕ) (lines : List (List ℕ)) (kept : List (List ℕ × ℕ)) (classes : List (Class A)) (name : List ℕ) (at : ℕ) (class : Class A)
    → HaveTaken sizes limit lines kept classes → IsHeldAt (map name_of classes) name at → get_or classes at class ≡ class
    → class.kept ≡ length (of_class name kept)
lines_held sizes limit lines kept classes name at class is held same =
    let low : at < length classes = subst (λ n. at < n) (length-map classes name_of) held.within in
    let named = ap name_of (sym same) ∙ sym (get_or-map name_of classes at class [] low) ∙ held.is in
    (subst (HasTaken sizes limit lines kept) same (is.each at class low)).numbered ∙ ap (λ n. length (of_class n kept)) named

-- without a line there is no class
pub none_taken : {A : Type 0} (sizes : Bool) (limit : ℕ) (classes : List (Class A)) → classes ≡ [] → HaveTaken sizes limit [] [] classes
none_taken sizes limit classes empty = subst (HaveTaken sizes limit [] []) (sym empty) (record {
  ascending = λ i j lt low. absurd (omega (arith, low));
  each = All-nil (HasTaken sizes limit [] []);
  some = All-nil (λ c. 0 < c.requests);
  no_other = λ name none. (refl, refl);
})

requested : {A : Type 0} (sizes : Bool) (limit : ℕ) (lines : List (List ℕ)) (kept : List (List ℕ × ℕ)) (classes : List (Class A)) → All (HasTaken sizes limit lines kept) classes
    → All (λ c. 0 < c.requests) classes → (k : ℕ) → k < length (map name_of classes) → 0 < length (requests_of (get_or (map name_of classes) k []) lines)
requested sizes limit lines kept [] each some k low = absurd (omega (arith, low))
requested sizes limit lines kept (c ∷ cs) each some k low =
    let there : k < length (c ∷ cs) = subst (λ n. k < n) (length-map (c ∷ cs) name_of) low in
    subst (λ n. 0 < length (requests_of n lines)) (sym (get_or-map name_of (c ∷ cs) k c [] there))
    (omega (arith, (each k c there).counted, some k c there))

-- their names are the classes of the lines
pub names_are : {A : Type 0} (sizes : Bool) (limit : ℕ) (lines : List (List ℕ)) (kept : List (List ℕ × ℕ)) (classes : List (Class A)) → HaveTaken sizes limit lines kept classes
    → AreClasses lines (map name_of classes)
names_are sizes limit lines kept classes is = record {
  ascending = is.ascending;
  requested = All-from_get_or (λ name. 0 < length (requests_of name lines)) (map name_of classes) [] (requested sizes limit lines kept classes is.each is.some);
  no_other = λ name none. (is.no_other name none).0;
}

-- one that belongs at a place is none of them
pub is_other : {A : Type 0} (classes : List (Class A)) (name : List ℕ) (at : ℕ) → BelongsAt (map name_of classes) name at
    → list_any (bytes_eq name) (map name_of classes) ≡ false
is_other classes name at belongs = not_any (map name_of classes) name (missing_each (map name_of classes) name at belongs)
