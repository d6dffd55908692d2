-- What became of a request, and the line that tells it. Clauses cite it.
use Rattle.std.specs.Prelude.{◌≡◌, ℕ, ◌-◌, ◌^◌, Bool, true, false, not, List, ◌∷◌, [], ◌++◌, Ok, Err, codes, decimal, count_by, map}
use Rattle.std.specs.List.{AllByRecursion}
use Rattle.std.specs.Fmt.{digits, format_spec, padded_integral}
use Rattle.std.specs.Str.{is_utf8}
use Rattle.std.specs.Str.Lossy.{utf8_lossy}
use Rattle.clru_text.specs.Lines.{lines_of}
use Rattle.clru_files.specs.declared.fault.Fault.{Fault}
use Rattle.clru_files.specs.declared.fault.Fault.TheVariants.{Outside, Missing, Unreadable, Folder, Special, TooLong, Longer, Memory}
use Rattle.clru_files.specs.declared.counts.Counts.{Counts}
use Rattle.clru_files.specs.declared.served.Served.{Served}
use Rattle.clru_files.specs.declared.served.Served.TheVariants.{Hit, Fetched, NoText, NoMemory}
use Rattle.clru_files.specs.declared.served.PageSummary.{PageSummary}

-- the page was held
abbrev pub is_hit : Served → Bool
is_hit (Hit summary) = true
is_hit (Fetched answer) = false
is_hit NoText = false
is_hit NoMemory = false

-- one fetch was made
abbrev pub is_fetch : Served → Bool
is_fetch (Hit summary) = false
is_fetch (Fetched answer) = true
is_fetch NoText = false
is_fetch NoMemory = false

-- the file was read
abbrev pub is_read : Served → Bool
is_read (Hit summary) = false
is_read (Fetched (Ok summary)) = true
is_read (Fetched (Err fault)) = false
is_read NoText = false
is_read NoMemory = false

-- no memory was found for the path
abbrev pub is_no_memory : Served → Bool
is_no_memory (Hit summary) = false
is_no_memory (Fetched answer) = false
is_no_memory NoText = false
is_no_memory NoMemory = true

-- the line is no path
abbrev pub is_no_text : Served → Bool
is_no_text (Hit summary) = false
is_no_text (Fetched answer) = false
is_no_text NoText = true
is_no_text NoMemory = false

-- there is no page
abbrev pub is_failure : Served → Bool
is_failure (Hit summary) = false
is_failure (Fetched (Ok summary)) = false
is_failure (Fetched (Err fault)) = true
is_failure NoText = true
is_failure NoMemory = true

abbrev pub fault_text : Fault → List ℕ
fault_text Outside = codes "outside of the folder"
fault_text Missing = codes "missing"
fault_text Unreadable = codes "not readable"
fault_text Folder = codes "a folder"
fault_text Special = codes "no regular file"
fault_text TooLong = codes "longer than the capacity"
fault_text Longer = codes "longer than it said"
fault_text Memory = codes "out of memory"

-- a number in eight hexadecimal digits, as `{:08x}` writes it
abbrev pub eight_digits : ℕ → List ℕ
eight_digits n = padded_integral (format_spec 32 0 4 8 (2 ^ 64 - 1)) false [] (digits 16 false n)

-- the length of a page and its checksum
abbrev pub summary_text : PageSummary → List ℕ
summary_text summary = decimal summary.length ++ (codes " bytes, " ++ eight_digits summary.checksum)

-- what stands behind the path
abbrev pub served_text : Served → List ℕ
served_text (Hit summary) = summary_text summary ++ codes ", held"
served_text (Fetched (Ok summary)) = summary_text summary ++ codes ", fetched"
served_text (Fetched (Err fault)) = fault_text fault
served_text NoText = codes "the path is no text"
served_text NoMemory = codes "out of memory"

-- the line that tells of a request: its path, with what is no UTF-8 replaced, and what became of it
abbrev pub line_of : List ℕ × Served → List ℕ
line_of request = utf8_lossy request.0 ++ (codes ": " ++ (served_text request.1 ++ 10 ∷ []))

-- a line is no path where it is no UTF-8, and only there
abbrev pub IsServed : List ℕ × Served → Type 0
IsServed request = is_no_text request.1 ≡ not (is_utf8 request.0)

-- each line of an input, in order, beside what became of it
pub record AreServed (input : List ℕ) (requests : List (List ℕ × Served)) : Type 0 where
  pub lines : map (λ r. r.0) requests ≡ lines_of input
  pub served : AllByRecursion IsServed requests

-- how many requests are hits, how many fetch, and of how many the store was not asked
pub record AreCounted (requests : List (List ℕ × Served)) (counts : Counts) : Type 0 where
  pub hits : counts.hits ≡ count_by (λ r. is_hit r.1) requests
  pub fetches : counts.fetches ≡ count_by (λ r. is_fetch r.1) requests
  pub no_memory : counts.no_memory ≡ count_by (λ r. is_no_memory r.1) requests
  pub no_text : counts.no_text ≡ count_by (λ r. is_no_text r.1) requests
