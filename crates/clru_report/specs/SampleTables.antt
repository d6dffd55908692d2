-- The text of a curve by size of kept requests, as told of all. No public clause cites it.
use Rattle.std.specs.Prelude.{◌≡◌, ℕ, ◌+◌, ◌-◌, ◌/◌, ◌^◌, nat_le, Bool, true, false, List, map, min, Option}
use Rattle.std.specs.List.{filter}
use Rattle.clru_curve.specs.SizedCurves.{CurveBySize}
use Rattle.clru_text.specs.Pictures.{HasTable}
use Rattle.clru_text.specs.Samples.{times}
use Rattle.clru_text.specs.declared.options.Form.{Form}
use Rattle.clru_text.specs.declared.options.Form.TheVariants.{Table, Json, Picture, Summary}
use Rattle.clru_text.specs.declared.options.Options.{Options}
use Rattle.clru_report.specs.Passes.{AreRowsOf, IsUsualOn, capacities_on, distinct_in}
use Rattle.clru_report.specs.Samples.{sized_numbers_of, sized_numbers_times}
use Rattle.clru_report.specs.SizedTables.{sized_summary_text, sized_table_text}
use Rattle.clru_report.specs.declared.sized.floors.Floors.{Floors}
use Rattle.clru_report.specs.declared.sized.rows.SizedRow.{SizedRow}

-- the curve and its floors are of one key in n of so many requests of this size together
module _ {A : Type 0} (curve : CurveBySize) (floors : Option (Floors A)) (options : Options A) (n all size : ℕ) where
  -- rows for the capacities that are asked for and at which the curve answers, as told of all
  abbrev pub AreSampledRows : List ℕ → List SizedRow → Type 0
  AreSampledRows table shown = (rows : List SizedRow)
      × AreRowsOf curve floors (filter (λ c. nat_le (1 + curve.greatest_weight) c)
      (capacities_on curve options.capacities (all / n) (size / n) table)) rows
      × (map sized_numbers_of shown ≡ map (sized_numbers_times n all size) rows)

  -- the table of such rows, in JSON or as CSV
  pub record IsSampledTable (json : Bool) (text : List ℕ) : Type 0 where
    pub table : List ℕ
    pub marked : List ℕ
    pub shown : List SizedRow
    pub usual : IsUsualOn curve (size / n) table marked
    pub rowed : AreSampledRows table shown
    pub is : text ≡ sized_table_text json options.floor all size (map (times n (2 ^ 64 - 1)) marked) shown

  -- the text in the form, of an input of so many bytes
  abbrev pub IsSampledText : Form → ℕ → List ℕ → Type 0
  IsSampledText Table bytes text = IsSampledTable false text
  IsSampledText Json bytes text = IsSampledTable true text
  IsSampledText Picture bytes text = (table : List ℕ) × IsSampledTable false table × HasTable table text
  IsSampledText Summary bytes text = text ≡ sized_summary_text all (times n (2 ^ 64 - 1) (distinct_in curve)) bytes size
      (times n (2 ^ 64 - 1) curve.distinct_size) (min (1 + curve.greatest_weight) curve.distinct_size)
