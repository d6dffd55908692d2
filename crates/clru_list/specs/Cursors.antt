-- Where a cursor stands, and where it stands once the item that it lends is given back. Public clauses cite it.
use Rattle.std.specs.Prelude.{◌≡◌, ℕ, ◌+◌, ◌-◌, List, [], ◌∷◌, ◌++◌, take, drop, Option}
use Rattle.std.specs.Option.{option_and_then, option_map_or}
use Rattle.std.specs.Map.{keys_of}
use Rattle.std.specs.Borrow.{Fml, GName, RattleType, MutBor, Lends, LendsIf}
use Rattle.std.specs.declared.alloc.Allocator as alloc
use mir.Syntax.{named}
use Rattle.clru_list.specs.PlaceList.{PlaceList, with_entries, with_at, place_after, place_before}
use Rattle.clru_list.specs.Walks.{stretch, IsWindow}
use Rattle.clru_list.specs.declared.cursor.FixedSizeListIterMut.{FixedSizeListIterMut}
use Rattle.clru_list.specs.contracts.cursor.FixedSizeListIterMut.{the_row}

module _ {T A : Type 0} where
  -- the list, as it is now
  abbrev pub cursor_list : FixedSizeListIterMut T A → PlaceList T
  cursor_list c = c.list.now

  -- which list that is
  abbrev pub cursor_name : FixedSizeListIterMut T A → GName
  cursor_name c = c.list.ghost_name

  -- the entries that are left
  abbrev pub cursor_rest : FixedSizeListIterMut T A → List (ℕ × T)
  cursor_rest c = stretch c.done c.left c.list.now.entries

  -- those that were passed from the front
  abbrev pub cursor_before : FixedSizeListIterMut T A → List (ℕ × T)
  cursor_before c = take c.done c.list.now.entries

  -- those that were passed from the back
  abbrev pub cursor_after : FixedSizeListIterMut T A → List (ℕ × T)
  cursor_after c = drop (c.done + c.left) c.list.now.entries

  -- the cursor may be used: each cursor that its calls leave may
  abbrev pub CanStep : FixedSizeListIterMut T A → Type 0
  CanStep c = IsWindow (keys_of c.list.now.entries) c.done c.left c.front c.back

  -- with w at a place of the list
  abbrev pub written : FixedSizeListIterMut T A → Option ℕ → T → FixedSizeListIterMut T A
  written c place w =
      record c {
        list = record c.list {
          now = option_map_or (λ p. with_entries c.list.now (with_at p w c.list.now.entries)) place c.list.now;
        };
      }

  -- past the first entry that is left
  abbrev pub past_front : FixedSizeListIterMut T A → FixedSizeListIterMut T A
  past_front c = record c {
    front = option_and_then (λ p. place_after p c.list.now.entries) c.front;
    done = c.done + 1;
    left = c.left - 1;
  }

  -- past the last one
  abbrev pub past_back : FixedSizeListIterMut T A → FixedSizeListIterMut T A
  past_back c = record c { back = option_and_then (λ p. place_before p c.list.now.entries) c.back; left = c.left - 1 }

  -- past the first entry that is left, with w as its item
  abbrev pub stepped : FixedSizeListIterMut T A → T → FixedSizeListIterMut T A
  stepped c w = written (past_front c) c.front w

  -- past the last one
  abbrev pub stepped_back : FixedSizeListIterMut T A → T → FixedSizeListIterMut T A
  stepped_back c w = written (past_back c) c.back w

  -- the cursor stands before the whole of the list
  pub record IsAtStart (c : FixedSizeListIterMut T A) (l : PlaceList T) : Type 0 where
    pub can : CanStep c
    pub list : cursor_list c ≡ l
    pub rest : cursor_rest c ≡ l.entries
    pub before : cursor_before c ≡ []
    pub after : cursor_after c ≡ []

  -- d has passed the first entry that c has left, where x was and w is
  pub record Passes (c : FixedSizeListIterMut T A) (x w : T) (d : FixedSizeListIterMut T A) : Type 0 where
    pub can : CanStep d
    pub place : ℕ
    pub rest : cursor_rest c ≡ (place, x) ∷ cursor_rest d
    pub before : cursor_before d ≡ cursor_before c ++ (place, w) ∷ []
    pub after : cursor_after d ≡ cursor_after c
    pub list : cursor_list d ≡ with_entries (cursor_list c) (cursor_list d).entries

  -- d has passed the last entry that c has left, where x was and w is
  pub record PassesBack (c : FixedSizeListIterMut T A) (x w : T) (d : FixedSizeListIterMut T A) : Type 0 where
    pub can : CanStep d
    pub place : ℕ
    pub rest : cursor_rest c ≡ cursor_rest d ++ (place, x) ∷ []
    pub before : cursor_before d ≡ cursor_before c
    pub after : cursor_after d ≡ (place, w) ∷ cursor_after c
    pub list : cursor_list d ≡ with_entries (cursor_list c) (cursor_list d).entries

module _ (T A : RattleType) (heap : alloc.Ghosts A.Denot) (c : MutBor (FixedSizeListIterMut T.Denot A.Denot)) where
  -- the cursor is past the first entry that it had left, which has the last item written through r
  abbrev pub lends_next : MutBor T.Denot → Fml
  lends_next r = Lends (the_row (record { mir = named 1; lft = [] }) T A heap) T c r (stepped c.now)

  -- the same for the last entry
  abbrev pub lends_next_back : MutBor T.Denot → Fml
  lends_next_back r = Lends (the_row (record { mir = named 1; lft = [] }) T A heap) T c r (stepped_back c.now)

  -- the same where r is an item, and at `None` it stays
  abbrev pub lends_next_if : Option (MutBor T.Denot) → Fml
  lends_next_if r = LendsIf (the_row (record { mir = named 1; lft = [] }) T A heap) T c r (stepped c.now) c.now

  -- and for the last entry
  abbrev pub lends_next_back_if : Option (MutBor T.Denot) → Fml
  lends_next_back_if r = LendsIf (the_row (record { mir = named 1; lft = [] }) T A heap) T c r
      (stepped_back c.now) c.now
