-- What a contract sees of a list. Public clauses cite it.
use Rattle.std.specs.Prelude.{◌≡◌, ℕ, ◌^◌, ◌<◌, ◌≤◌, ◌==◌, if◌then◌else◌, List, [], ◌∷◌, ◌++◌, length, Option, Some, None, IsSome, refl}
use Rattle.std.specs.Option.{option_map, option_map_or}
use Rattle.std.specs.Map.{lookup, remove_entry, set_value}
use Rattle.std.specs.Coded.{Coded, code_by, coded×, coded_list, coded_ℕ}

-- the places with their items, front first, the most entries that it may hold, and for how many of them memory was found
pub record PlaceList (T : Type 0) : Type 0 where
  pub entries : List (ℕ × T)
  pub capacity : ℕ
  pub places : ℕ

module _ {T : Type 0} where
  abbrev pub place_list : List (ℕ × T) → ℕ → ℕ → PlaceList T
  place_list es c p = record { entries = es; capacity = c; places = p }

  -- the same list with other entries
  abbrev pub with_entries : PlaceList T → List (ℕ × T) → PlaceList T
  with_entries l es = place_list es l.capacity l.places

  abbrev pub place_list_code : Coded T → Coded (PlaceList T)
  place_list_code t =
      code_by (List (ℕ × T) × (ℕ × ℕ)) (coded× (coded_list (coded× coded_ℕ t)) (coded× coded_ℕ coded_ℕ))
      (λ l. (l.entries, (l.capacity, l.places))) (λ p. place_list p.0 p.1.0 p.1.1) (λ _. refl)

  -- the item at a place
  abbrev pub item_at : ℕ → List (ℕ × T) → Option T
  item_at p es = lookup (λ q. p == q) es

  -- the entries less the one at a place
  abbrev pub without : ℕ → List (ℕ × T) → List (ℕ × T)
  without p es = remove_entry (λ q. p == q) es

  -- the entries with another item at a place
  abbrev pub with_at : ℕ → T → List (ℕ × T) → List (ℕ × T)
  with_at p w es = set_value (λ q. p == q) es w

  -- the entry at a place first, and the others in their order
  abbrev pub to_front : ℕ → List (ℕ × T) → List (ℕ × T)
  to_front p es = option_map_or (λ x. (p, x) ∷ without p es) (item_at p es) es

  -- the entry at a place last, and the others in their order
  abbrev pub to_back : ℕ → List (ℕ × T) → List (ℕ × T)
  to_back p es = option_map_or (λ x. without p es ++ (p, x) ∷ []) (item_at p es) es

  abbrev pub first_entry : List (ℕ × T) → Option (ℕ × T)
  first_entry [] = None
  first_entry (e ∷ es) = Some e

  -- the last of the entries, or what came before them
  abbrev pub last_entry_from : Option (ℕ × T) → List (ℕ × T) → Option (ℕ × T)
  last_entry_from before [] = before
  last_entry_from before (e ∷ es) = last_entry_from (Some e) es

  abbrev pub last_entry : List (ℕ × T) → Option (ℕ × T)
  last_entry es = last_entry_from None es

  abbrev pub first_place : List (ℕ × T) → Option ℕ
  first_place es = option_map (λ e. e.0) (first_entry es)

  abbrev pub last_place : List (ℕ × T) → Option ℕ
  last_place es = option_map (λ e. e.0) (last_entry es)

  -- the place behind a place
  abbrev pub place_after : ℕ → List (ℕ × T) → Option ℕ
  place_after p [] = None
  place_after p (e ∷ es) = if p == e.0 then first_place es else place_after p es

  -- the place before a place, where the entries come after those that end with `before`
  abbrev pub place_before_from : Option ℕ → ℕ → List (ℕ × T) → Option ℕ
  place_before_from before p [] = None
  place_before_from before p (e ∷ es) = if p == e.0 then before else place_before_from (Some e.0) p es

  abbrev pub place_before : ℕ → List (ℕ × T) → Option ℕ
  place_before p es = place_before_from None p es

  -- the entries with another item at the front
  abbrev pub with_first : T → List (ℕ × T) → List (ℕ × T)
  with_first w [] = []
  with_first w (e ∷ es) = (e.0, w) ∷ es

  -- the entries with another item at the back
  abbrev pub with_last : T → List (ℕ × T) → List (ℕ × T)
  with_last w [] = []
  with_last w (e ∷ []) = (e.0, w) ∷ []
  with_last w (e ∷ (d ∷ es)) = e ∷ with_last w (d ∷ es)

  -- no two entries have one place
  abbrev pub IsApart : List (ℕ × T) → Type 0
  IsApart [] = Unit {0}
  IsApart (e ∷ es) = (item_at e.0 es ≡ None) × IsApart es

  -- what holds of every list
  pub record IsValid (l : PlaceList T) : Type 0 where
    pub apart : IsApart l.entries
    pub below : (p : ℕ) → IsSome (item_at p l.entries) → p < l.places
    pub countable : l.places < 2 ^ 63
    pub fits : length l.entries ≤ l.capacity
    pub held : length l.entries ≤ l.places

  -- there is room for one more entry, and each place is taken: only then may a call be refused for memory
  abbrev pub NeedsPlace : PlaceList T → Type 0
  NeedsPlace l = (length l.entries < l.capacity) × (l.places ≡ length l.entries)
