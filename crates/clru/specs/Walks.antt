-- Where a cursor stands in its cache, and where it stands once the value that it lends is given back. Public clauses cite it.
use Rattle.std.specs.Prelude.{◌≡◌, ℕ, ◌+◌, ◌-◌, min, List, [], ◌∷◌, ◌++◌, length, take, drop}
use Rattle.std.specs.Borrow.{GName}
use Rattle.clru_model.specs.declared.weight.ZeroWeightScale.{ZeroWeightScale}
use Rattle.clru_model.specs.Entries.{with_value_at}
use Rattle.clru.specs.Cache.{Cache, with_entries}
use Rattle.clru.specs.declared.cursor.CLruCacheIterMut.{CLruCacheIterMut}

module _ {K V S A H : Type 0} where
  -- the cache, as it is now
  abbrev pub cursor_cache : CLruCacheIterMut K V S A H → Cache K V ZeroWeightScale
  cursor_cache c = c.cache.now

  -- which cache that is
  abbrev pub cursor_name : CLruCacheIterMut K V S A H → GName
  cursor_name c = c.cache.ghost_name

  -- the entries that are left
  abbrev pub cursor_rest : CLruCacheIterMut K V S A H → List (K × V)
  cursor_rest c = drop c.done (take c.end c.cache.now.entries)

  -- those that were passed from the front
  abbrev pub cursor_before : CLruCacheIterMut K V S A H → List (K × V)
  cursor_before c = take c.done (take c.end c.cache.now.entries)

  -- those that were passed from the back
  abbrev pub cursor_after : CLruCacheIterMut K V S A H → List (K × V)
  cursor_after c = drop c.end c.cache.now.entries

  -- the cache with another value at an index
  abbrev pub cache_with : CLruCacheIterMut K V S A H → ℕ → V → Cache K V ZeroWeightScale
  cache_with c i v = with_entries c.cache.now (with_value_at i v c.cache.now.entries)

  -- past the first entry that is left, with v as its value
  abbrev pub stepped : CLruCacheIterMut K V S A H → V → CLruCacheIterMut K V S A H
  stepped c v = record {
    cache = record c.cache { now = cache_with c c.done v };
    done = c.done + 1;
    end = c.end;
  }

  -- the index of the last one
  abbrev pub last_index : CLruCacheIterMut K V S A H → ℕ
  last_index c = min c.end (length c.cache.now.entries) - 1

  -- past the last one
  abbrev pub stepped_back : CLruCacheIterMut K V S A H → V → CLruCacheIterMut K V S A H
  stepped_back c v = record {
    cache = record c.cache { now = cache_with c (last_index c) v };
    done = c.done;
    end = last_index c;
  }

  -- the cursor stands before the whole of the cache
  pub record IsAtStart (c : CLruCacheIterMut K V S A H) (start : Cache K V ZeroWeightScale) : Type 0 where
    pub cache : cursor_cache c ≡ start
    pub rest : cursor_rest c ≡ start.entries
    pub before : cursor_before c ≡ []
    pub after : cursor_after c ≡ []

  -- d has passed the first entry that c has left, where x was and v is
  pub record Passes (c : CLruCacheIterMut K V S A H) (x v : V) (d : CLruCacheIterMut K V S A H) : Type 0 where
    pub key : K
    pub rest : cursor_rest c ≡ (key, x) ∷ cursor_rest d
    pub before : cursor_before d ≡ cursor_before c ++ (key, v) ∷ []
    pub after : cursor_after d ≡ cursor_after c
    pub cache : cursor_cache d ≡ with_entries (cursor_cache c) (cursor_cache d).entries

  -- d has passed the last entry that c has left, where x was and v is
  pub record PassesBack (c : CLruCacheIterMut K V S A H) (x v : V) (d : CLruCacheIterMut K V S A H) : Type 0 where
    pub key : K
    pub rest : cursor_rest c ≡ cursor_rest d ++ (key, x) ∷ []
    pub before : cursor_before d ≡ cursor_before c
    pub after : cursor_after d ≡ (key, v) ∷ cursor_after c
    pub cache : cursor_cache d ≡ with_entries (cursor_cache c) (cursor_cache d).entries
