-- The curve of a share as one of a split: by keys what misses are requests, and by size their size. No public clause cites it.
use Rattle.std.specs.Int.NonZero.{non_zero_usize_get}
use Rattle.std.specs.Option.{option_map}
use Rattle.std.specs.Prelude.{ℕ, zero, suc, nat_lt, Option, Some, None, if◌then◌else◌}
use Rattle.clru_curve.specs.Curves.{misses_at}
use Rattle.clru_curve.specs.SizedCurves.{misses_within, missed_size_within}
use Rattle.clru_shares.specs.Sampled.{told_missed}
use Rattle.clru_shares.specs.declared.curve.LineCurve.{LineCurve}
use Rattle.clru_shares.specs.declared.curve.LineCurve.TheVariants.{ByKeys, BySize}
use Rattle.clru_shares.specs.declared.share.Share.{Share}
use Rattle.clru_curve.specs.Classes.{missed_size_above}

module _ {A : Type 0} where
  -- all requests, or their size
  abbrev pub all_by : LineCurve A → ℕ → ℕ → ℕ
  all_by (ByKeys curve) requests size = requests
  all_by (BySize curve) requests size = size

  abbrev pub all_of_share : Share A → ℕ
  all_of_share share = all_by share.curve share.requests share.size

  -- what misses at a capacity that is not 0
  abbrev pub missed_by_curve : LineCurve A → ℕ → Option ℕ
  missed_by_curve (ByKeys curve) c = Some (misses_at curve c)
  missed_by_curve (BySize curve) c = missed_size_above curve c

  -- one key in so many, if the curve is that of a sample
  abbrev pub sample_of : Share A → Option ℕ
  sample_of share = option_map non_zero_usize_get share.sample

  abbrev pub missed_of_share : Share A → ℕ → Option ℕ
  missed_of_share share c = told_missed (sample_of share) (all_of_share share) (missed_by_curve share.curve c)

  -- the requests that miss at a capacity with room for each, and by size their size
  abbrev pub missed_pair : LineCurve A → ℕ → Option (ℕ × ℕ)
  missed_pair (ByKeys curve) zero = None
  missed_pair (ByKeys curve) (suc c) = Some (misses_at curve (suc c), 0)
  missed_pair (BySize curve) zero = None
  missed_pair (BySize curve) (suc c) = if nat_lt curve.greatest_weight (suc c)
      then Some (misses_within curve (suc c), missed_size_within curve (suc c)) else None
