-- The text of a picture. Public clauses cite it.
use Rattle.std.specs.Prelude.{◌≡◌, ℕ, List, ◌++◌, codes}

-- how each picture begins, up to its table
abbrev pub picture_head : List ℕ
picture_head = codes "<svg class=\"clru_mrc\" xmlns=\"http://www.w3.org/2000/svg\" role=\"img\""
    ++ (codes " viewBox=\"0 0 8000 4600\" width=\"800\" height=\"460\">\n"
    ++ codes "<title>Miss ratio by capacity</title>\n<desc>\n")

-- a picture from its head to its closing tag, with the table, letter by letter, as its description
abbrev pub HasTable : List ℕ → List ℕ → Type 0
HasTable table text = (drawn : List ℕ)
    × (text ≡ picture_head ++ (table ++ (codes "</desc>\n" ++ (drawn ++ codes "</svg>\n"))))
