-- What a caller's proof cites: of the list that a touch, a removal and a put leave, of values that are lent, and of the closure
-- that takes what a put drops.
use Rattle.std.proofs.Common.{◌≡◌, ℕ, zero, suc, ◌-◌, List, [], ◌∷◌, ◌++◌, slice_get, refl, ap}
use Rattle.std.specs.Fn.{Mut, always_mut}
use Rattle.std.specs.Option.{option_map}
use Rattle.std.specs.declared.cmp.PartialEq as eq
use Rattle.std.specs.declared.hash.BuildHasher as builder
use Rattle.std.specs.declared.hash.Hash as hash
use Rattle.std.specs.declared.hash.Hasher as hasher
use Rattle.std.proofs.lemmas.Fn.{chained_keeps}
use Rattle.clru_model.specs.Entries.{with_value_at}
use Rattle.clru.specs.Drops.{TakesOver, HandsOutTo, TakesEach}
use Rattle.clru.specs.EntryMut.{index_of, length-with_value_at, index, pair, with_value}
use Rattle.clru.specs.declared.entry.End.TheVariants.{Front, Back}
use Rattle.clru.specs.declared.entry.EntryMut.{EntryMut}
pub use Rattle.clru_model.proofs.Dropping.{length-weighted_drops, length-weighted_put}
pub use Rattle.clru_model.proofs.EachEntry.{All-lookup, All-plain_put, All-touch, All-weighted_put, All-without}
pub use Rattle.clru_model.proofs.Ends.{last_of-push}
pub use Rattle.clru_model.proofs.Forms.{IsForm, form_is}
pub use Rattle.clru_model.proofs.Fronts.{first_key, plain_put-before}
pub use Rattle.clru_model.proofs.GrowingAgedRuns.{CountedAgedRuns, CountedAgedRuns-push, IsAgedStep-fresh, IsAgedStep-stale}
pub use Rattle.clru_model.proofs.GrowingRuns.{Runs, Runs-push, Runs-length, CountedRuns, CountedRuns-push, run_ends}
pub use Rattle.clru_model.proofs.GrowingRuns.{DroppedRuns, DroppedRuns-none, DroppedRuns-push, marks_where-push}
pub use Rattle.clru_model.proofs.GrowingRuns.{IsGetOr-held, IsGetOr-missed, touch-none}
pub use Rattle.clru_model.proofs.Lookups.{length-touch, length-without, length-plain_put, missed-without}
pub use Rattle.clru_model.proofs.Lookups.{lookup-plain_put, lookup-lent, lookup-without, lookup-removed, lookup-touch, lookup-put_beside}
pub use Rattle.clru_model.proofs.PutSteps.{fit-weightless, IsPut-plain, IsPut-weightless}

-- another value leaves the keys where they are
key-with_value_at : {K V : Type 0} (i j : ℕ) (v : V) (es : List (K × V)) → option_map (λ (e : K × V). e.0) (slice_get (with_value_at i v es) j)
    ≡ option_map (λ (e : K × V). e.0) (slice_get es j)
key-with_value_at i j v [] = refl
key-with_value_at zero zero v (e ∷ es) = refl
key-with_value_at zero (suc j) v (e ∷ es) = refl
key-with_value_at (suc i) zero v (e ∷ es) = refl
key-with_value_at (suc i) (suc j) v (e ∷ es) = key-with_value_at i j v es

module _ {K V S A H : Type 0} {g : eq.Ghosts K} {h : hash.Ghosts K} {b : builder.Ghosts S H} {w : hasher.Ghosts H}
    (e : EntryMut K V S A H g h b w) (v : V) where
  -- an entry that is lent keeps its index and its key, whatever is written to its value
  pub index-written : index (with_value e v) ≡ index e
  index-written = let es = e.cache.now.entries in (elim e.end as (λ end. index_of end (with_value_at (index e) v es) ≡ index_of end es) [
    | Front ↦ refl
    | Back ↦ ap (λ n. n - 1) (length-with_value_at (index e) v es)
  ])

  pub key-written : option_map (λ (p : K × V). p.0) (pair (with_value e v)) ≡ option_map (λ (p : K × V). p.0) (pair e)
  key-written = rw index-written (key-with_value_at (index e) (index e) v e.cache.now.entries)

module _ {F K V : Type 0} (g : Mut F (K × (V × Unit {0})) (Unit {0})) where
  -- what each call of the closure keeps, of its state at the start, the pairs that it took since and its state now, holds after
  -- the calls
  module _ (J : F → List (K × V) → F → Type 0) (start : F)
      (keeps : (taken : List (K × V)) (f : F) (e : K × V) (f' : F) → J start taken f → TakesOver g f e f' → J start (taken ++ e ∷ []) f') where
    pub handed_keeps : (es : List (K × V)) (end : F) → J start [] start → HandsOutTo g start es end → J start es end
    handed_keeps es end first handed = chained_keeps (TakesOver g) (J start) keeps es start end first handed

    -- and if it lets the closure be called, then the closure takes each of the pairs
    pub takes_each : (es : List (K × V)) → J start [] start
        → ((taken left : List (K × V)) (f : F) (e : K × V) → es ≡ taken ++ e ∷ left → J start taken f → g.pre f (e.0, (e.1, tt)))
        → TakesEach g start es
    takes_each es first callable = record {
      at = λ before after f e is handed. callable before after f e is (handed_keeps before f first handed);
    }

  -- a closure that may always be called does
  pub takes_each-always : (es : List (K × V)) (f : F) → always_mut g f → TakesEach g f es
  takes_each-always es f always = takes_each (λ _ _ now. always_mut g now) f
      (λ taken now e next h called. record { at = λ xs. (h.at ((e.0, (e.1, tt)) ∷ xs)).1 tt next called }) es always
      (λ taken left now e is h. (h.at ((e.0, (e.1, tt)) ∷ [])).0)
