-- The columns of a table, by keys or by size, and how a line says them: as CSV or as JSON. Public clauses cite them.
use Rattle.std.specs.Prelude.{ℕ, Bool, true, false, ◌&&◌, not, List, [], ◌∷◌, ◌++◌, codes, decimal, map, if◌then◌else◌}
use Rattle.std.specs.List.{filter}
use Rattle.clru_text.specs.Fractions.{fraction_text, millionths}
use Rattle.clru_report.specs.declared.columns.Cells.{Cells}
use Rattle.clru_report.specs.declared.columns.Cells.TheVariants.{Names, Numbers, Members}
use Rattle.clru_report.specs.declared.columns.Column.{Column}
use Rattle.clru_report.specs.declared.columns.Column.TheVariants.{Capacity, Misses, MissRatio, MissedBytes, ByteMissRatio, LeastMisses, FloorMisses, FloorMissedBytes, SavedPerKey, SavedPerByte, Knee}
use Rattle.clru_report.specs.declared.columns.Line.{Line}

-- all columns, in order
abbrev pub all_columns : List Column
all_columns = Capacity ∷ Misses ∷ MissRatio ∷ MissedBytes ∷ ByteMissRatio ∷ LeastMisses ∷ FloorMisses ∷ FloorMissedBytes
    ∷ SavedPerKey ∷ SavedPerByte ∷ Knee ∷ []

-- whether a table has a column: by size or by keys, with the least or without, and with the floor or without
abbrev pub is_column : Bool → Bool → Bool → Column → Bool
is_column sizes least floor Capacity = true
is_column sizes least floor Misses = true
is_column sizes least floor MissRatio = true
is_column sizes least floor MissedBytes = sizes
is_column sizes least floor ByteMissRatio = sizes
is_column sizes least floor LeastMisses = least
is_column sizes least floor FloorMisses = floor
is_column sizes least floor FloorMissedBytes = sizes && floor
is_column sizes least floor SavedPerKey = not sizes
is_column sizes least floor SavedPerByte = sizes
is_column sizes least floor Knee = true

-- the columns of a table
unfoldable pub columns : Bool → Bool → Bool → List Column
columns sizes least floor = filter (is_column sizes least floor) all_columns

abbrev pub name_text : Column → List ℕ
name_text Capacity = codes "capacity"
name_text Misses = codes "misses"
name_text MissRatio = codes "miss_ratio"
name_text MissedBytes = codes "missed_bytes"
name_text ByteMissRatio = codes "byte_miss_ratio"
name_text LeastMisses = codes "least_misses"
name_text FloorMisses = codes "floor_misses"
name_text FloorMissedBytes = codes "floor_missed_bytes"
name_text SavedPerKey = codes "saved_per_key"
name_text SavedPerByte = codes "saved_per_byte"
name_text Knee = codes "knee"

-- the number of a column
abbrev pub number_text : Line → Column → List ℕ
number_text line Capacity = decimal line.capacity
number_text line Misses = decimal line.misses
number_text line MissRatio = fraction_text (millionths line.misses line.requests)
number_text line MissedBytes = decimal line.missed_size
number_text line ByteMissRatio = fraction_text (millionths line.missed_size line.size)
number_text line LeastMisses = decimal line.least
number_text line FloorMisses = decimal line.floor_misses
number_text line FloorMissedBytes = decimal line.floor_missed_size
number_text line SavedPerKey = fraction_text (millionths line.saved line.added)
number_text line SavedPerByte = fraction_text (millionths line.saved line.added)
number_text line Knee = decimal (if line.knee then 1 else 0)

-- what stands for a column: its name, its number, or both as a member of an object
abbrev pub cell_text : Cells → Column → List ℕ
cell_text Names column = name_text column
cell_text (Numbers line) column = number_text line column
cell_text (Members line) column = codes "\"" ++ (name_text column ++ (codes "\":" ++ number_text line column))

-- a comma before each text
abbrev pub behind_commas : List (List ℕ) → List ℕ
behind_commas [] = []
behind_commas (text ∷ texts) = codes "," ++ (text ++ behind_commas texts)

-- a comma between each two
abbrev pub with_commas : List (List ℕ) → List ℕ
with_commas [] = []
with_commas (text ∷ texts) = text ++ behind_commas texts

-- how a line begins and ends: an object has braces
abbrev pub begin_text : Cells → List ℕ
begin_text Names = []
begin_text (Numbers line) = []
begin_text (Members line) = codes "{"

abbrev pub end_text : Cells → List ℕ
end_text Names = codes "\n"
end_text (Numbers line) = codes "\n"
end_text (Members line) = codes "}\n"

-- a line with what stands for each column
abbrev pub line_text : List Column → Cells → List ℕ
line_text columns cells = begin_text cells ++ (with_commas (map (cell_text cells) columns) ++ end_text cells)

-- CSV begins with the names, and JSON has none but in its objects
abbrev pub header_text : Bool → List Column → List ℕ
header_text false columns = line_text columns Names
header_text true columns = []

-- a row, in JSON or as CSV
abbrev pub row_text : Bool → List Column → Line → List ℕ
row_text false columns line = line_text columns (Numbers line)
row_text true columns line = line_text columns (Members line)
