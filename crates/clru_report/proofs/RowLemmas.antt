-- One more row of a table.
use Rattle.std.proofs.Common.{◌≡◌, ℕ, Bool, true, false, Some, List, [], ◌∷◌, ◌++◌, map, refl, sym, ap, subst, ◌∙◌}
use Rattle.std.specs.Prelude.{bytes_eq}
use Rattle.std.proofs.lemmas.List.{map-append}
use Rattle.std.proofs.lemmas.List.Elements.{All-push}
use Rattle.clru_model.specs.Floor.{floor_misses}
use Rattle.clru_report.specs.PlainRows.{ArePlainRows, IsPlainRow}
use Rattle.clru_report.specs.Report.{AreRows, HasFloor, IsRow}
use Rattle.clru_report.specs.Tables.{capacity_of_row}
use Rattle.clru_report.specs.declared.rows.Row.{Row}

pub rows_more : (lines : List (List ℕ)) (least floor : Bool) (chosen more : List ℕ) (rows next : List Row) (row : Row)
    → AreRows bytes_eq lines least floor chosen rows → next ≡ rows ++ row ∷ [] → more ≡ chosen ++ capacity_of_row row ∷ []
    → IsRow bytes_eq lines least floor row → AreRows bytes_eq lines least floor more next
rows_more lines least floor chosen more rows next row are pushed longer is = (
  ap (map capacity_of_row) pushed ∙ map-append capacity_of_row rows (row ∷ [])
      ∙ ap (λ ns. ns ++ capacity_of_row row ∷ []) are.0 ∙ sym longer,
  (subst (λ rs. AreRows bytes_eq lines least floor (map capacity_of_row rs) rs) (sym pushed)
      (refl, All-push (IsRow bytes_eq lines least floor) rows row are.1 is)).1,
)

pub plain_more : (m : ℕ → ℕ) (chosen more : List ℕ) (rows next : List Row) (row : Row)
    → ArePlainRows m chosen rows → next ≡ rows ++ row ∷ [] → more ≡ chosen ++ capacity_of_row row ∷ []
    → IsPlainRow m row → ArePlainRows m more next
plain_more m chosen more rows next row are pushed longer is = (
  ap (map capacity_of_row) pushed ∙ map-append capacity_of_row rows (row ∷ [])
      ∙ ap (λ ns. ns ++ capacity_of_row row ∷ []) are.0 ∙ sym longer,
  (subst (λ rs. ArePlainRows m (map capacity_of_row rs) rs) (sym pushed) (refl, All-push (IsPlainRow m) rows row are.1 is)).1,
)

-- the floor stays that of a row of the same capacity
pub floor_alike : (lines : List (List ℕ)) (floor : Bool) (row next : Row) → next.floor ≡ row.floor
    → capacity_of_row next ≡ capacity_of_row row → HasFloor bytes_eq lines floor row → HasFloor bytes_eq lines floor next
floor_alike lines true row next same_floor same_capacity has =
    same_floor ∙ has ∙ ap (λ c. Some (floor_misses bytes_eq (λ _. 0) c lines)) (sym same_capacity)
floor_alike lines false row next same_floor same_capacity has = same_floor ∙ has
