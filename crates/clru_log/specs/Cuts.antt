-- What the lines of a log are cut to: the plain lines that the programs read. Public clauses cite it.
use Rattle.std.specs.Prelude.{ℕ, ◌-◌, ◌==◌, Bool, true, false, ◌||◌, nat_eq, List, [], ◌∷◌, ◌++◌, Option, None, Some, Result, Ok, Err, length, take, codes, bytes_eq, filter_map, if◌then◌else◌}
use Rattle.std.specs.List.{before_first, ends_with}
use Rattle.std.specs.Option.{option_and_then}
use Rattle.clru_text.specs.Lines.{lines_of}
use Rattle.clru_text.specs.Texts.{bytes_of}
use Rattle.clru_log.specs.declared.cut.Left.{Left}
use Rattle.clru_log.specs.declared.cut.Left.TheVariants.{Method, Status, Columns}
use Rattle.clru_log.specs.declared.format.Format.{Format}
use Rattle.clru_log.specs.declared.format.Wanted.{Wanted}
use Rattle.clru_log.specs.Columns.{column_at, columns_of}

-- a GET, which a quote may stand before
abbrev pub is_get : List ℕ → Bool
is_get text = bytes_eq text (codes "GET") || bytes_eq text (codes "\"GET")

-- the status itself, or the status behind a slash, as in TCP_HIT/200
abbrev pub has_status : List ℕ → List ℕ → Bool
has_status code text = bytes_eq text code || ends_with nat_eq text (47 ∷ code)

-- the whole object was given, or is still as the client has it
abbrev pub is_answer : List ℕ → Bool
is_answer text = has_status (codes "200") text || has_status (codes "304") text

-- why a column leaves the line out: it is missing, or not as it should be
abbrev pub left_by : (List ℕ → Bool) → Left → Option (List ℕ) → Option Left
left_by counts why None = Some Columns
left_by counts why (Some text) = if counts text then None else Some why

-- the same of a column that the format may have
abbrev pub left_at : List (List ℕ) → (List ℕ → Bool) → Left → Option ℕ → Option Left
left_at columns counts why None = None
left_at columns counts why (Some n) = left_by counts why (column_at columns n)

-- a key ends before its query, if it is to have none
abbrev pub shown_key : Bool → List ℕ → List ℕ
shown_key true text = before_first (λ b. b == 63) text
shown_key false text = text

-- a text and further columns behind it, each behind a blank
abbrev pub key_behind : Bool → List (List ℕ) → List ℕ → List ℕ → Option (List ℕ)
key_behind no_query columns text [] = Some text
key_behind no_query columns text (n ∷ more) =
    option_and_then (λ next. key_behind no_query columns (text ++ 32 ∷ shown_key no_query next) more) (column_at columns n)

-- the columns of the key, joined by blanks, if it has columns
abbrev pub key_of : Bool → List (List ℕ) → List ℕ → Option (List ℕ)
key_of no_query columns [] = None
key_of no_query columns (n ∷ more) =
    option_and_then (λ first. key_behind no_query columns (shown_key no_query first) more) (column_at columns n)

-- the plain line, if the line has its columns
abbrev pub plain_of : {A : Type 0} → Format A → Wanted → List (List ℕ) → Option (List ℕ)
plain_of format wanted columns = key_of wanted.no_query columns format.key.items

abbrev pub or_left : Option (List ℕ) → Result (List ℕ) Left
or_left None = Err Columns
or_left (Some plain) = Ok plain

abbrev pub unless_left : Option Left → Result (List ℕ) Left → Result (List ℕ) Left
unless_left None cut = cut
unless_left (Some why) cut = Err why

-- why the method or the status leaves a line out, if one does
abbrev pub left_by_method : {A : Type 0} → Format A → Wanted → List (List ℕ) → Option Left
left_by_method format wanted columns = if wanted.all_requests then None else left_at columns is_get Method format.method

abbrev pub left_by_status : {A : Type 0} → Format A → Wanted → List (List ℕ) → Option Left
left_by_status format wanted columns =
    if wanted.all_requests then None else left_at columns is_answer Status format.status

-- a carriage return at a line's end is no part of it
abbrev pub without_return : List ℕ → List ℕ
without_return line = if ends_with nat_eq line (13 ∷ []) then take (length line - 1) line else line

-- the plain line of a line, or why it does not count
abbrev pub line_by_columns : {A : Type 0} → Format A → Wanted → List (List ℕ) → Result (List ℕ) Left
line_by_columns format wanted columns = unless_left (left_by_method format wanted columns)
    (unless_left (left_by_status format wanted columns) (or_left (plain_of format wanted columns)))

unfoldable pub line_of : {A : Type 0} → Format A → Wanted → List ℕ → Result (List ℕ) Left
line_of format wanted line = line_by_columns format wanted (columns_of format.columns (without_return line))

-- what is cut of a line
abbrev pub cut_of : Result (List ℕ) Left → Option (List ℕ)
cut_of (Ok plain) = Some plain
cut_of (Err why) = None

-- the plain lines of the lines that count, in order
abbrev pub cut : {A : Type 0} → Format A → Wanted → List (List ℕ) → List (List ℕ)
cut format wanted lines = filter_map (λ line. cut_of (line_of format wanted line)) lines

-- what an input is cut to
abbrev pub cut_bytes : {A : Type 0} → Format A → Wanted → List ℕ → List ℕ
cut_bytes format wanted input = bytes_of (cut format wanted (lines_of input))

-- the bytes of what is cut of a line
abbrev pub kept_bytes : Result (List ℕ) Left → List ℕ
kept_bytes (Ok plain) = plain ++ 10 ∷ []
kept_bytes (Err why) = []
