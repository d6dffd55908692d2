use Rattle.std.proofs.Common.{◌≡◌, ◌+◌, ◌++◌, ◌∷◌, [], map, take, refl, sym, ap, ◌∙◌, subst}
use Rattle.std.proofs.lemmas.List.{map-append, take_more}
use Rattle.std.proofs.lemmas.List.Elements.{All-push}
use Rattle.std.specs.Int.NonZero.{non_zero_usize_get}
use Rattle.std.specs.List.{All}
use Rattle.clru_report.specs.Passes.{IsOfCapacities, IsRowOf}
use Rattle.clru_report.specs.SizedTables.{capacity_of_sized_row}
use Rattle.clru_report.proofs.CapacityLemmas.{contains_shown}
use Rattle.clru_report.proofs.sized.rows.sized_rows_at.Goals as goal

pub returns-in-Err-clause-refused : goal.returns-in-Err-clause-refused
returns-in-Err-clause-refused g c =
    let curve = c.args.curve.now in let capacities = c.args.capacities.now in
    let here = contains_shown non_zero_usize_get capacities c.loop-capacity.capacity-index c.capacity-item.result c.loop-capacity-test.true c.capacity-item.is in
    subst (λ f. IsOfCapacities curve f (map non_zero_usize_get capacities)) (sym c.in-Err.ensures.refused)
    (refl, (non_zero_usize_get c.capacity-item.result, here, c.in-Err.ensures.below))

pub loop-capacity-preserved : goal.loop-capacity-preserved
loop-capacity-preserved g c =
    let i = c.loop-capacity.capacity-index in let capacities = c.args.capacities.now in
    let rows = c.loop-capacity.rows.items in let row = c.in-Ok.row in
    let capacity = c.capacity-item.result in
    let more = ap (map non_zero_usize_get) (take_more capacities i capacity c.loop-capacity-test.true
    ∙ ap (λ n. take i capacities ++ n ∷ []) (sym c.capacity-item.is)) ∙ map-append non_zero_usize_get (take i capacities) (capacity ∷ []) in
    let pushed = c.in-Ok-push.ensures.items in (
      subst (λ rs. map capacity_of_sized_row rs ≡ map non_zero_usize_get (take (i + 1) capacities)) (sym pushed)
          (map-append capacity_of_sized_row rows (row ∷ []) ∙ ap (λ ns. ns ++ capacity_of_sized_row row ∷ []) c.loop-capacity.invariant.0
          ∙ ap (λ n. map non_zero_usize_get (take i capacities) ++ n ∷ []) c.in-Ok.ensures.capacity ∙ sym more),
      subst (All (IsRowOf c.args.curve.now c.args.floors.now)) (sym pushed)
          (All-push (IsRowOf c.args.curve.now c.args.floors.now) rows row c.loop-capacity.invariant.1 c.in-Ok.ensures.row),
    )
