-- What the result of a call says of its arguments and of the log. A is the type of the allocator's handle, which options hold.
use Rattle.std.specs.Fmt.Cut.{IsTextOrCut}
use Rattle.std.specs.Option.{is_some}
use Rattle.std.specs.Prelude.{◌≡◌, ℕ, not, Bool, List, [], ◌∷◌, ◌++◌, bytes_eq, codes, decimal, take, if◌then◌else◌}
use Rattle.std.specs.List.{filter}
use Rattle.std.specs.Str.{is_utf8}
use Rattle.std.specs.Str.Lines.{lines}
use Rattle.clru_report.specs.Report.{IsReport}
use Rattle.clru_report.specs.Refusals.{IsRefused}
use Rattle.clru_text.specs.Arguments.{GivesOptions}
use Rattle.clru_text.specs.CommandLine.{Reading, asks, help, read_all, version, wrong}
use Rattle.clru_text.specs.Faults.{fault_text, status_of}
use Rattle.clru_text.specs.declared.fault.Fault.{Fault}
use Rattle.clru_text.specs.declared.fault.Fault.TheVariants.{NoSize}
use Rattle.clru_text.specs.declared.help.TheConstants.{HELP, VERSION}
use Rattle.clru_text.specs.declared.options.Options.{Options}

-- each line is an argument, but for `--progress`, which asks nothing of a report
abbrev pub words_in : List ℕ → List (List ℕ)
words_in text = filter (λ word. not (bytes_eq word (codes "--progress"))) (lines text)

-- what the bytes come to as arguments
unfoldable pub reading_of : List ℕ → Reading
reading_of bytes = if is_utf8 bytes then read_all (words_in bytes) else wrong

-- the text that a reading of arguments asks for, of a log
unfoldable pub IsTextOf : Type 0 → Reading → List ℕ → List ℕ → Type 0
IsTextOf A help log text = text ≡ HELP.now
IsTextOf A version log text = text ≡ VERSION.now
IsTextOf A wrong log text = ⊥
IsTextOf A (asks next asked) log text = (options : Options A) × GivesOptions (asks next asked) options × IsReport options log text

-- the text is the line that says this in the program's name, cut where there is no room
abbrev pub IsSaid : List ℕ → ℕ → List ℕ → Type 0
IsSaid what room text = text ≡ take room (codes "clru_mrc: " ++ (what ++ 10 ∷ []))

-- the text is the line of a fault; what has over 160 bytes, as none has, may be cut
abbrev pub IsTold : Fault → ℕ → List ℕ → Type 0
IsTold fault room text = (what : List ℕ) × IsTextOrCut 160 (fault_text fault) what × IsSaid what room text

-- what a line is to begin with, where each has a time, and a size too if there are sizes
abbrev pub wanted_text : Bool → List ℕ
wanted_text sized = if sized
    then codes " has no time and size: with --times --sizes each begins with both, as in 1700000000.123 512 /index.html"
    else codes " has no time: with --times each begins with one and a blank, as in 1700000000.123 /index.html"

abbrev pub no_time_text : Bool → ℕ → List ℕ
no_time_text sized n = codes "line " ++ (decimal n ++ wanted_text sized)

-- what is printed of a fault of a log: where lines begin with times, the text names the time too
abbrev pub log_fault_text : Bool → Bool → Fault → List ℕ
log_fault_text timed sized (NoSize n) = if timed then no_time_text sized n else fault_text (NoSize n)
log_fault_text timed sized fault = fault_text fault

-- the text is the line of a fault of a log
abbrev pub IsToldOfLog : Bool → Bool → Fault → ℕ → List ℕ → Type 0
IsToldOfLog timed sized fault room text = (what : List ℕ) × IsTextOrCut 160 (log_fault_text timed sized fault) what × IsSaid what room text

-- these options have no report of the log, for a reason that has this exit status, and the text tells it
abbrev pub IsRefusedWith : {A : Type 0} → ℕ → Options A → List ℕ → ℕ → List ℕ → Type 0
IsRefusedWith status options log room text = (fault : Fault) × IsRefused fault options log × (status_of fault ≡ status)
    × IsToldOfLog (is_some options.times) options.sizes fault room text

-- a report is asked for, and the log has none
abbrev pub HasNoReport : Type 0 → ℕ → Reading → List ℕ → ℕ → List ℕ → Type 0
HasNoReport A status reading log room text = (options : Options A) × GivesOptions reading options
    × IsRefusedWith status options log room text
