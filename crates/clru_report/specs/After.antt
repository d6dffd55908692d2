-- What is written of the requests behind the first ones, which fill the cache and are not counted. Public clauses cite it.
use Rattle.std.specs.Prelude.{◌≡◌, ℕ, ◌-◌, nat_lt, Bool, true, false, List, [], length, map, reverse, take, None, bytes_eq}
use Rattle.std.specs.List.{All}
use Rattle.clru_model.specs.Requests.{distinct, misses}
use Rattle.clru_text.specs.Lines.{lines_of}
use Rattle.clru_text.specs.Pictures.{HasTable}
use Rattle.clru_text.specs.declared.options.Form.{Form}
use Rattle.clru_text.specs.declared.options.Form.TheVariants.{Table, Json, Picture, Summary}
use Rattle.clru_text.specs.declared.options.Options.{Options}
use Rattle.clru_report.specs.Capacities.{capacities_of, usual}
use Rattle.clru_report.specs.Faithful.{IsFaithful}
use Rattle.clru_report.specs.Knees.{knees}
use Rattle.clru_report.specs.Tables.{capacity_of_row, table_text}
use Rattle.clru_report.specs.declared.rows.Row.{Row}

-- what a number of all requests leaves behind the first n
abbrev pub behind : {K : Type 0} → ℕ → (List K → ℕ) → List K → ℕ
behind n number requests = number requests - number (take n requests)

module _ (n : ℕ) (requests : List (List ℕ)) where
  -- how many requests are counted
  abbrev pub counted : ℕ
  counted = behind n length requests

  -- those of them that miss at a capacity
  abbrev pub misses_behind : ℕ → ℕ
  misses_behind c = behind n (misses bytes_eq c) requests

  -- a row has their misses alone
  pub record IsRowBehind (row : Row) : Type 0 where
    pub misses : row.misses ≡ misses_behind (capacity_of_row row)
    pub least : row.least ≡ None
    pub floor : row.floor ≡ None

  -- one such row for each capacity, in order
  abbrev pub AreRowsBehind : List ℕ → List Row → Type 0
  AreRowsBehind capacities rows = (map capacity_of_row rows ≡ capacities) × All IsRowBehind rows

  -- the usual table of these requests: between its rows their misses are near the straight line, by a fiftieth of their number
  abbrev pub IsUsualTableBehind : List ℕ → Type 0
  IsUsualTableBehind table = IsFaithful misses_behind counted (usual (distinct bytes_eq (reverse requests))) table

  -- the capacities that are asked for
  abbrev pub capacities_behind : {A : Type 0} → Options A → List ℕ → List ℕ
  capacities_behind options table =
      capacities_of options.capacities misses_behind counted (distinct bytes_eq (reverse requests)) table

  -- the rows and the knees of the usual table, if some requests are counted; else there are none
  abbrev pub AreCounted : {A : Type 0} → Bool → Options A → List ℕ → List Row → Type 0
  AreCounted false options marked rows = (marked ≡ []) × (rows ≡ [])
  AreCounted true options marked rows = (table : List ℕ) × IsUsualTableBehind table
      × AreRowsBehind (capacities_behind options table) rows × (marked ≡ knees misses_behind counted table)

  -- the table of these rows, in JSON or as CSV
  abbrev pub IsTableAfter : {A : Type 0} → Bool → Options A → List ℕ → Type 0
  IsTableAfter json options text = (marked : List ℕ) × (rows : List Row)
      × AreCounted (nat_lt n (length requests)) options marked rows
      × (text ≡ table_text json false options.floor counted marked rows)

  -- a picture that has the table in its description
  abbrev pub IsPictureAfter : {A : Type 0} → Options A → List ℕ → Type 0
  IsPictureAfter options text = (table : List ℕ) × IsTableAfter false options table × HasTable table text

-- the report behind the first n requests, by keys; a summary is of all requests
abbrev pub IsInFormAfter : {A : Type 0} → Form → ℕ → Options A → List ℕ → List ℕ → Type 0
IsInFormAfter Table n options input text = IsTableAfter n (lines_of input) false options text
IsInFormAfter Json n options input text = IsTableAfter n (lines_of input) true options text
IsInFormAfter Picture n options input text = IsPictureAfter n (lines_of input) options text
IsInFormAfter Summary n options input text = ⊥
