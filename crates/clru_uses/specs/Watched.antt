-- What a watched cache has taken note of. Public clauses cite it.
use Rattle.std.specs.Prelude.{◌≡◌, ℕ, ◌+◌, ◌<◌, ◌≤◌, [], ◌∷◌, List, Some, length, nat_eq, reverse}
use Rattle.std.specs.List.{slice_get}
use Rattle.clru_model.specs.Requests.{misses}
use Rattle.clru_model.specs.Runs.{IsRunOf, IsGetOr, IsPut}
use Rattle.clru_curve.specs.Passes.{IsPass}
use Rattle.clru_uses.specs.declared.watched.Watched.{Watched}

-- look-ups of these pages at the capacity k, each followed by a put where it finds nothing, leave these entries and miss so often
pub record IsServed (k : ℕ) (pages : List ℕ) (es : List (ℕ × ℕ)) (missed : ℕ) : Type 0 where
  pub later : List (List (ℕ × ℕ))
  pub run : IsRunOf (IsGetOr (IsPut nat_eq k) nat_eq) ([] ∷ later) pages
  pub ends : slice_get ([] ∷ later) (length pages) ≡ Some es
  pub misses : missed ≡ misses nat_eq k pages

-- it has taken these requests, the latest first
pub record IsWatched (past : List ℕ) (w : Watched) : Type 0 where
  pub pass : IsPass nat_eq past w.pass
  pub served : IsServed w.cache.capacity (reverse past) w.cache.entries w.misses
  pub counted : w.hits + w.misses ≡ length past
  pub some : 0 < w.cache.capacity
  pub room : w.cache.capacity ≤ w.cache.places
