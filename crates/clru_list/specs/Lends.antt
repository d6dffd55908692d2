-- What a list ends as, once a reference to one of its items has ended. Public clauses cite it.
use Rattle.std.specs.Prelude.{ℕ, List, ◌∷◌, Option}
use Rattle.std.specs.Borrow.{Fml, RattleType, MutBor, Lends, LendsIf}
use Rattle.std.specs.declared.alloc.Allocator as alloc
use Rattle.clru_list.specs.PlaceList.{PlaceList, with_entries, with_at, without, with_first, with_last}
use Rattle.clru_list.specs.contracts.list.FixedSizeList.{the_row}

module _ (T A : RattleType) (heap : alloc.Ghosts A.Denot) (l : MutBor (PlaceList T.Denot)) where
  -- its entries are `es` of the last item written through r, and at `None` it stays as it was
  abbrev pub lends_if : (T.Denot → List (ℕ × T.Denot)) → Option (MutBor T.Denot) → Fml
  lends_if es r = LendsIf (the_row T A heap) T l r (λ w. with_entries l.now (es w)) l.now

  -- the item at the place is lent
  abbrev pub lends_item : ℕ → Option (MutBor T.Denot) → Fml
  lends_item p = lends_if (λ w. with_at p w l.now.entries)

  -- the same for a place that has an item
  abbrev pub lends_held : ℕ → MutBor T.Denot → Fml
  lends_held p r = Lends (the_row T A heap) T l r (λ w. with_entries l.now (with_at p w l.now.entries))

  -- the item at the place is lent, and moved to the front
  abbrev pub lends_moved : ℕ → Option (MutBor T.Denot) → Fml
  lends_moved p = lends_if (λ w. (p, w) ∷ without p l.now.entries)

  -- the first item is lent
  abbrev pub lends_first : Option (MutBor T.Denot) → Fml
  lends_first = lends_if (λ w. with_first w l.now.entries)

  -- the last item is lent
  abbrev pub lends_last : Option (MutBor T.Denot) → Fml
  lends_last = lends_if (λ w. with_last w l.now.entries)
