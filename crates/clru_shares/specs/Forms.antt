-- The rows of a table, and its text in each form. Public clauses cite them.
use Rattle.std.specs.Prelude.{◌≡◌, ℕ, ◌*◌, Bool, true, false, List, [], ◌∷◌, ◌++◌, codes, decimal}
use Rattle.clru_text.specs.Fractions.{fraction_text, millionths}
use Rattle.clru_shares.specs.declared.form.SplitForm.{SplitForm}
use Rattle.clru_shares.specs.declared.form.SplitForm.TheVariants.{Table, Json, Picture}

-- what stands in a row: a class, or a way to spend the budget. By keys the two sizes are 0, and stand nowhere
pub record Part : Type 0 where
  pub name : List ℕ
  pub capacity : ℕ
  pub misses : ℕ
  pub requests : ℕ
  pub missed_size : ℕ
  pub size : ℕ

abbrev pub miss_ratio : Part → List ℕ
miss_ratio p = fraction_text (millionths p.misses p.requests)

abbrev pub byte_miss_ratio : Part → List ℕ
byte_miss_ratio p = fraction_text (millionths p.missed_size p.size)

-- CSV: the columns' names, and a row. By size there are two columns more
abbrev pub size_names : Bool → List ℕ
size_names false = []
size_names true = codes ",missed_bytes,byte_miss_ratio"

abbrev pub header_text : Bool → List ℕ
header_text by_size = codes "class,capacity,misses,miss_ratio" ++ (size_names by_size ++ codes "\n")

abbrev pub size_cells : Bool → Part → List ℕ
size_cells false p = []
size_cells true p = codes "," ++ (decimal p.missed_size ++ (codes "," ++ byte_miss_ratio p))

abbrev pub csv_row : Bool → Part → List ℕ
csv_row by_size p = p.name ++ (codes "," ++ (decimal p.capacity ++ (codes "," ++ (decimal p.misses
    ++ (codes "," ++ (miss_ratio p ++ (size_cells by_size p ++ codes "\n")))))))

-- JSON: an object for each row, by the columns' names. No class has a sign that is escaped
abbrev pub size_members : Bool → Part → List ℕ
size_members false p = []
size_members true p = codes ",\"missed_bytes\":" ++ (decimal p.missed_size ++ (codes ",\"byte_miss_ratio\":" ++ byte_miss_ratio p))

abbrev pub key_members : Part → List ℕ
key_members p = codes ",\"capacity\":" ++ (decimal p.capacity ++ (codes ",\"misses\":" ++ (decimal p.misses
    ++ (codes ",\"miss_ratio\":" ++ miss_ratio p))))

abbrev pub json_row : Bool → Part → List ℕ
json_row by_size p = codes "{\"class\":\"" ++ (p.name ++ (codes "\"" ++ (key_members p ++ (size_members by_size p ++ codes "}\n"))))

abbrev pub row_text : Bool → Bool → Part → List ℕ
row_text false by_size p = csv_row by_size p
row_text true by_size p = json_row by_size p

abbrev pub rows_text : Bool → Bool → List Part → List ℕ
rows_text json by_size [] = []
rows_text json by_size (p ∷ ps) = row_text json by_size p ++ rows_text json by_size ps

-- the table as CSV
abbrev pub csv_text : Bool → List Part → List ℕ
csv_text by_size ps = header_text by_size ++ rows_text false by_size ps

-- how a picture of so many pixels of height begins, up to its table
abbrev pub picture_head : ℕ → List ℕ
picture_head height = codes "<svg class=\"clru_mrc\" xmlns=\"http://www.w3.org/2000/svg\" role=\"img\" viewBox=\"0 0 8000 "
    ++ (decimal (height * 10) ++ (codes "\" width=\"800\" height=\"" ++ (decimal height
    ++ codes "\">\n<title>Shares of a budget</title>\n<desc>\n")))

-- a picture from its head to its closing tag, with the table, letter by letter, as its description
abbrev pub HasTable : List ℕ → List ℕ → Type 0
HasTable table text = (height : ℕ) × (drawn : List ℕ)
    × (text ≡ picture_head height ++ (table ++ (codes "</desc>\n" ++ (drawn ++ codes "</svg>\n"))))

-- the text of these rows in a form, by size or by keys
abbrev pub IsTextOf : SplitForm → Bool → List Part → List ℕ → Type 0
IsTextOf Table by_size ps text = text ≡ csv_text by_size ps
IsTextOf Json by_size ps text = text ≡ rows_text true by_size ps
IsTextOf Picture by_size ps text = HasTable (csv_text by_size ps) text
