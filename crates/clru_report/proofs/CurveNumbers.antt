-- A curve by size that has the numbers of two functions has their tables, knees and capacities.
use Rattle.std.proofs.Common.{◌≡◌, ℕ, ◌+◌, List, ap, ◌∙◌, subst}
use Rattle.clru_curve.specs.SizedCurves.{CurveBySize, misses_within, missed_size_within}
use Rattle.clru_text.specs.declared.options.Capacities.{Capacities}
use Rattle.clru_report.specs.Capacities.{sized_capacities_of, usual_from}
use Rattle.clru_report.specs.Faithful.{IsFaithful}
use Rattle.clru_report.specs.Knees.{knees}
use Rattle.clru_report.specs.Passes.{IsUsualOn, capacities_on}
use Rattle.clru_report.proofs.CapacityLemmas.{sized-alike, usual_from_some}
use Rattle.clru_report.proofs.FaithfulTables.{faithful_alike, knees_alike}

module _ (curve : CurveBySize) (m s : ℕ → ℕ) (g d : ℕ) (misses : (c : ℕ) → misses_within curve c ≡ m c)
    (missed : (c : ℕ) → missed_size_within curve c ≡ s c) (greatest : 1 + curve.greatest_weight ≡ g) (together : curve.distinct_size ≡ d) where
  pub capacities_by : {A : Type 0} (asked : Capacities A) (requests size : ℕ) (table : List ℕ)
      → capacities_on curve asked requests size table ≡ sized_capacities_of asked m s requests size g d table
  capacities_by asked requests size table =
      sized-alike (misses_within curve) m (missed_size_within curve) s misses missed
      asked requests size (1 + curve.greatest_weight) curve.distinct_size table
      ∙ ap (λ k. sized_capacities_of asked m s requests size k curve.distinct_size table) greatest
      ∙ ap (λ k. sized_capacities_of asked m s requests size g k table) together

  pub usual_by : (whole : ℕ) (table marked : List ℕ) → IsUsualOn curve whole table marked
      → IsFaithful s whole (usual_from g d) table × (marked ≡ knees s whole table)
  usual_by whole table marked u =
      let capacities = usual_from (1 + curve.greatest_weight) curve.distinct_size in
      let some = usual_from_some (1 + curve.greatest_weight) curve.distinct_size in
      let usual : capacities ≡ usual_from g d =
      ap (λ k. usual_from k curve.distinct_size) greatest ∙ ap (usual_from g) together in (
        subst (λ cs. IsFaithful s whole cs table) usual
            (faithful_alike (missed_size_within curve) s (λ c _. missed c) whole capacities table some u.faithful.added),
        u.marks ∙ knees_alike (missed_size_within curve) s (λ c _. missed c) whole capacities table some u.faithful.added,
      )
