-- Each row has its floor below what it misses, and the least possible misses between both.
use Rattle.std.proofs.Common.{◌≤◌, Option, None, Some, sym, subst, arith}
use Rattle.std.specs.Prelude.{IsSomeAnd, bytes_eq}
use Rattle.clru_model.proofs.Floor.{floor_is_below_least}
use Rattle.clru_model.proofs.Least.{least_below_replay}
use Rattle.clru_model.proofs.LeastIsThere.{least_is_there}
use Rattle.clru_model.proofs.SizedReplaySchedules.{floor_below_replay, size_floor_below_replay}
use Rattle.clru_text.specs.Sizes.{weight_of_line}
use Rattle.clru_text.proofs.ByteLemmas.{bytes_laws}
use Rattle.clru_report.proofs.SettledCurves.{same_weights}
use Rattle.clru_report.specs.RowLaws.{FloorIsBelowMisses, LeastIsBetween, SizedFloorsAreBelow}
use Rattle.clru_report.specs.SizedTables.{capacity_of_sized_row}
use Rattle.clru_report.specs.Tables.{capacity_of_row}

some_and_map : {X : Type 0} {P Q : X → Type 0} (o : Option X) → ((x : X) → P x → Q x) → IsSomeAnd o P → IsSomeAnd o Q
some_and_map None f p = p
some_and_map (Some x) f p = f x p

pub floor_is_below_misses : FloorIsBelowMisses
floor_is_below_misses lines least row some is =
    let c = capacity_of_row row in let there = least_is_there bytes_eq bytes_laws c lines some in
    subst (λ o. IsSomeAnd o (λ floor. floor ≤ row.misses)) (sym is.2)
    (omega (
      arith,
      is.0,
      floor_is_below_least bytes_eq bytes_laws c there.0 lines there.1,
      least_below_replay bytes_eq bytes_laws c there.0 lines some there.1,
    ))

pub least_is_between : LeastIsBetween
least_is_between lines row some is =
    let c = capacity_of_row row in
    some_and_map row.least
    (λ n least. (
      subst (λ o. IsSomeAnd o (λ floor. floor ≤ n)) (sym is.2) (floor_is_below_least bytes_eq bytes_laws c n lines least),
      omega (arith, is.0, least_below_replay bytes_eq bytes_laws c n lines some least),
    ))
    is.1

pub sized_floors_are_below : SizedFloorsAreBelow
sized_floors_are_below lines row is =
    let c = capacity_of_sized_row row in
    subst (λ o. IsSomeAnd o (λ floor. (floor.misses ≤ row.misses) × (floor.missed_size ≤ row.missed_size))) (sym is.floors) (
      omega (arith, is.misses, floor_below_replay bytes_eq bytes_laws weight_of_line c lines same_weights),
      omega (arith, is.missed_size, size_floor_below_replay bytes_eq bytes_laws weight_of_line c lines same_weights),
    )
