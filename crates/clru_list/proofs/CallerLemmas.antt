-- What callers of the list need: a loop that writes each item through a cursor, and entries that are told apart by their places.
use Rattle.std.proofs.Common.{◌≡◌, ℕ, List, [], ◌∷◌, ◌++◌, map, take, drop, Some, None, refl, sym, ap, ◌∙◌, append_assoc}
use Rattle.std.proofs.lemmas.List.{take-append-drop, drop-drop, map-append, append-nil}
use Rattle.std.proofs.lemmas.Bool.{eq-eqb}
use Rattle.std.specs.Option.{option_map}
use Rattle.clru_list.specs.PlaceList.{PlaceList, first_entry, with_entries, item_at, without, IsApart}
use Rattle.clru_list.specs.Cursors.{CanStep, IsAtStart, Passes, PassesBack, cursor_list, cursor_rest, cursor_before, cursor_after}
use Rattle.clru_list.specs.declared.cursor.FixedSizeListIterMut.{FixedSizeListIterMut}
use Rattle.clru_list.proofs.Windows.{differs}

-- the entries with f of each item
abbrev pub with_items : {T : Type 0} → (T → T) → List (ℕ × T) → List (ℕ × T)
with_items {T} f es = map {B = ℕ × T} (λ (e : ℕ × T). (e.0, f e.1)) es

module _ {T A : Type 0} where
  -- the list's entries are those that the cursor passed from the front, those that it has left, and those that it passed from the back
  pub cursor-parts : (c : FixedSizeListIterMut T A) → (cursor_list c).entries ≡ cursor_before c ++ (cursor_rest c ++ cursor_after c)
  cursor-parts c =
      let es = c.list.now.entries in
      sym (
      ap (λ l. take c.done es ++ (take c.left (drop c.done es) ++ l)) (sym (drop-drop c.left c.done es))
      ∙ ap (λ l. take c.done es ++ l) (take-append-drop c.left (drop c.done es)) ∙ take-append-drop c.done es
      )

  module _ (f : T → T) (l : PlaceList T) where
    -- each item of l that the cursor passed has become f of it, and the others are as they were
    pub record Writes (c : FixedSizeListIterMut T A) : Type 0 where
      pub can : CanStep c
      pub ahead : List (ℕ × T)
      pub behind : List (ℕ × T)
      pub before : cursor_before c ≡ with_items f ahead
      pub after : cursor_after c ≡ with_items f behind
      pub all : l.entries ≡ ahead ++ (cursor_rest c ++ behind)
      pub list : cursor_list c ≡ with_entries l (cursor_list c).entries

    pub writes-start : (c : FixedSizeListIterMut T A) → IsAtStart c l → Writes c
    writes-start c s = record {
      can = s.can;
      ahead = [];
      behind = [];
      before = s.before;
      after = s.after;
      all = sym (append-nil (cursor_rest c) ∙ s.rest);
      list = s.list ∙ ap (λ m. with_entries l m.entries) (sym s.list);
    }

    pub writes-next : (c d : FixedSizeListIterMut T A) (x : T) → Writes c → Passes c x (f x) d → Writes d
    writes-next c d x w p = record {
      can = p.can;
      ahead = w.ahead ++ (p.place, x) ∷ [];
      behind = w.behind;
      before = p.before ∙ ap (λ es. es ++ (p.place, f x) ∷ []) w.before ∙ sym (map-append {B = ℕ × T} (λ (e : ℕ × T). (e.0, f e.1)) w.ahead ((p.place, x) ∷ []));
      after = p.after ∙ w.after;
      all = w.all ∙ ap (λ es. w.ahead ++ (es ++ w.behind)) p.rest ∙ sym (append_assoc w.ahead ((p.place, x) ∷ []) (cursor_rest d ++ w.behind));
      list = p.list ∙ ap (λ m. with_entries m (cursor_list d).entries) w.list;
    }

    pub writes-next_back : (c d : FixedSizeListIterMut T A) (x : T) → Writes c → PassesBack c x (f x) d → Writes d
    writes-next_back c d x w p = record {
      can = p.can;
      ahead = w.ahead;
      behind = (p.place, x) ∷ w.behind;
      before = p.before ∙ w.before;
      after = p.after ∙ ap (λ es. (p.place, f x) ∷ es) w.after;
      all = w.all ∙ ap (λ es. w.ahead ++ (es ++ w.behind)) p.rest ∙ ap (λ es. w.ahead ++ es) (append_assoc (cursor_rest d) ((p.place, x) ∷ []) w.behind);
      list = p.list ∙ ap (λ m. with_entries m (cursor_list d).entries) w.list;
    }

    -- a cursor that has none left has written each item
    pub writes-end : (c : FixedSizeListIterMut T A) → Writes c → cursor_rest c ≡ [] → cursor_list c ≡ with_entries l (with_items f l.entries)
    writes-end c w none =
        w.list ∙ ap (with_entries l) (
        cursor-parts c ∙ (λ i. w.before i ++ (none i ++ w.after i))
        ∙ sym (ap (with_items f) (w.all ∙ ap (λ es. w.ahead ++ (es ++ w.behind)) none) ∙ map-append {B = ℕ × T} (λ (e : ℕ × T). (e.0, f e.1)) w.ahead w.behind)
        )

module _ {T : Type 0} where
  -- a list with no first item is empty
  pub first_entry-none : (es : List (ℕ × T)) → None ≡ option_map {T = ℕ × T} (λ e. e.1) (first_entry es) → es ≡ []
  first_entry-none [] none = refl
  first_entry-none (e ∷ es) none = cc

  -- an entry between others is found by its place
  pub item_at-between : (es ds : List (ℕ × T)) (p : ℕ) (x : T) → IsApart (es ++ (p, x) ∷ ds) → item_at p (es ++ (p, x) ∷ ds) ≡ Some x
  item_at-between [] ds p x apart = rw (eq-eqb p p refl) refl
  item_at-between (e ∷ es) ds p x apart =
      let h = item_at-between es ds p x apart.1 in rw (differs e (es ++ (p, x) ∷ ds) p x apart.0 h) h

  -- and leaves them as they are
  pub without-between : (es ds : List (ℕ × T)) (p : ℕ) (x : T) → IsApart (es ++ (p, x) ∷ ds) → without p (es ++ (p, x) ∷ ds) ≡ es ++ ds
  without-between [] ds p x apart = rw (eq-eqb p p refl) refl
  without-between (e ∷ es) ds p x apart =
      rw (differs e (es ++ (p, x) ∷ ds) p x apart.0 (item_at-between es ds p x apart.1)) (ap (λ l. e ∷ l) (without-between es ds p x apart.1))
