-- An entry that is lent together with its cache, by `front_mut` and `back_mut`. Public clauses cite it.
use Rattle.std.specs.Prelude.{◌≡◌, ℕ, zero, suc, ◌-◌, ◌<◌, Option, List, [], ◌∷◌, length, slice_get, refl}
use Rattle.std.specs.Borrow.{GName}
use Rattle.std.specs.declared.cmp.PartialEq as eq
use Rattle.std.specs.declared.hash.Hash as hash
use Rattle.std.specs.declared.hash.Hasher as hasher
use Rattle.std.specs.declared.hash.BuildHasher as builder
use Rattle.std.proofs.Common.{sym, ap, subst}
use Rattle.clru_model.specs.declared.weight.ZeroWeightScale.{ZeroWeightScale}
use Rattle.clru_model.specs.Entries.{with_value_at}
use Rattle.clru.specs.Cache.{Cache, with_entries}
use Rattle.clru.specs.declared.entry.End.{End}
use Rattle.clru.specs.declared.entry.End.TheVariants.{Front, Back}
use Rattle.clru.specs.declared.entry.EntryMut.{EntryMut}

-- the index of the entry at an end
abbrev pub index_of : {X : Type 0} → End → List X → ℕ
index_of Front es = 0
index_of Back es = length es - 1

-- another value leaves the number of entries
pub length-with_value_at : {K V : Type 0} (i : ℕ) (v : V) (es : List (K × V))
    → length (with_value_at i v es) ≡ length es
length-with_value_at i v [] = refl
length-with_value_at zero v (e ∷ es) = refl
length-with_value_at (suc i) v (e ∷ es) = ap suc (length-with_value_at i v es)

module _ {K V S A H : Type 0} {g : eq.Ghosts K} {h : hash.Ghosts K} {b : builder.Ghosts S H} {w : hasher.Ghosts H} where
  -- the name of the reference to its cache
  abbrev pub cache_name : EntryMut K V S A H g h b w → GName
  cache_name e = e.cache.ghost_name

  -- its cache
  abbrev pub cache_of : EntryMut K V S A H g h b w → Cache K V ZeroWeightScale
  cache_of e = e.cache.now

  -- its index in the list
  abbrev pub index : EntryMut K V S A H g h b w → ℕ
  index e = index_of e.end e.cache.now.entries

  -- its pair
  abbrev pub pair : EntryMut K V S A H g h b w → Option (K × V)
  pair e = slice_get e.cache.now.entries (index e)

  -- it is the entry at the index i of the cache c
  pub record IsEntryAt (c : Cache K V ZeroWeightScale) (i : ℕ) (e : EntryMut K V S A H g h b w) : Type 0 where
    pub cache : cache_of e ≡ c
    pub at : index e ≡ i

  -- its cache, once v is its value
  abbrev pub cache_with : EntryMut K V S A H g h b w → V → Cache K V ZeroWeightScale
  cache_with e v = with_entries e.cache.now (with_value_at (index e) v e.cache.now.entries)

  -- it, once v is its value
  abbrev pub with_value : EntryMut K V S A H g h b w → V → EntryMut K V S A H g h b w
  with_value e v = record {
    cache = record e.cache { now = cache_with e v };
    end = e.end;
    some = subst (λ n. 0 < n) (sym (length-with_value_at (index e) v e.cache.now.entries)) e.some;
  }
