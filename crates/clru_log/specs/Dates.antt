-- The time that a column of a log names, in millionths of a second since 1970 began in UTC. Public clauses cite it.
use Rattle.std.specs.Prelude.{ℕ, ◌+◌, ◌-◌, ◌*◌, ◌^◌, ◌==◌, Bool, ◌&&◌, ◌||◌, not, nat_lt, nat_le, List, [], length, take, drop, position, slice_index, codes, bytes_eq, Option, None, Some, option_map, if◌then◌else◌}
use Rattle.std.specs.Char.{is_ascii_digit}
use Rattle.std.specs.Option.{option_and_then, unwrap_or}
use Rattle.clru_text.specs.Lines.{digits_named}
use Rattle.clru_text.specs.Times.{millionths_of, time_in}
use Rattle.clru_log.specs.Calendar.{days_to}
use Rattle.clru_log.specs.Shapes.{has_shape, is_of_shape, number_at}

-- the month of an English abbreviation; 0 is none
abbrev pub month_named : List ℕ → ℕ
month_named name =
    if bytes_eq name (codes "Jan") then 1 else
    (if bytes_eq name (codes "Feb") then 2 else
    (if bytes_eq name (codes "Mar") then 3 else
    (if bytes_eq name (codes "Apr") then 4 else
    (if bytes_eq name (codes "May") then 5 else
    (if bytes_eq name (codes "Jun") then 6 else
    (if bytes_eq name (codes "Jul") then 7 else
    (if bytes_eq name (codes "Aug") then 8 else
    (if bytes_eq name (codes "Sep") then 9 else
    (if bytes_eq name (codes "Oct") then 10 else
    (if bytes_eq name (codes "Nov") then 11 else
    (if bytes_eq name (codes "Dec") then 12 else 0)))))))))))

-- the seconds of a clock from 00:00:00 to 23:59:60, where a leap second is the next one
abbrev pub seconds_of : ℕ → ℕ → ℕ → Option ℕ
seconds_of hours minutes seconds = if nat_lt hours 24 && (nat_lt minutes 60 && nat_le seconds 60) then Some (hours * 3600 + minutes * 60 + seconds) else None

-- the seconds of the clock that a text begins with
abbrev pub clock_of : List ℕ → Option ℕ
clock_of text = if has_shape (codes "00:00:00") text then seconds_of (number_at 0 2 text) (number_at 3 2 text) (number_at 6 2 text) else None

-- so many hours and minutes in seconds, if a zone may be so far off
abbrev pub offset_of : ℕ → ℕ → Option ℕ
offset_of hours minutes = if nat_lt hours 24 && nat_lt minutes 60 then Some (hours * 3600 + minutes * 60) else None

-- how far a zone is off: hhmm or hh:mm
abbrev pub offset_named : List ℕ → Option ℕ
offset_named text =
    if is_of_shape (codes "0000") text then offset_of (number_at 0 2 text) (number_at 2 2 text) else
    (if is_of_shape (codes "00:00") text then offset_of (number_at 0 2 text) (number_at 3 2 text) else None)

-- a zone ahead of UTC has a time earlier; before 1970 there is none
abbrev pub earlier : ℕ → ℕ → Option ℕ
earlier seconds offset = if nat_le offset seconds then Some (seconds - offset) else None

-- the seconds in UTC of those in a zone: none or Z is UTC itself, + is ahead of it, - behind
abbrev pub in_utc : ℕ → List ℕ → Option ℕ
in_utc seconds zone =
    if bytes_eq zone [] || bytes_eq zone (codes "Z") then Some seconds else
    (if slice_index zone 0 == 43 then option_and_then (earlier seconds) (offset_named (drop 1 zone)) else
    (if slice_index zone 0 == 45 then option_map (λ offset. seconds + offset) (offset_named (drop 1 zone)) else None))

-- a text without this byte at its front, if it has it there
abbrev pub without_first : ℕ → List ℕ → List ℕ
without_first byte text = if slice_index text 0 == byte then drop 1 text else text

-- a text without this byte at its end, if it has it there
abbrev pub without_last : ℕ → List ℕ → List ℕ
without_last byte text = if slice_index text (length text - 1) == byte then take (length text - 1) text else text

-- seconds in a zone and millionths
abbrev pub time_in_zone : ℕ → ℕ → List ℕ → Option ℕ
time_in_zone seconds part zone = option_map (λ utc. utc * 10 ^ 6 + part) (in_utc seconds (without_first 32 zone))

-- seconds, their decimals and the zone behind
abbrev pub time_with_decimals : ℕ → List ℕ → List ℕ → Option ℕ
time_with_decimals seconds decimals zone = option_and_then (λ part. time_in_zone seconds (millionths_of part (length decimals)) zone) (digits_named decimals)

-- where the digits at the front of a text end
abbrev pub digits_end : List ℕ → ℕ
digits_end text = unwrap_or (position (λ b. not (is_ascii_digit b)) text) (length text)

-- seconds, and what follows a clock: decimals behind a point, if there are any, and the zone
abbrev pub time_behind : ℕ → List ℕ → Option ℕ
time_behind seconds text =
    if slice_index text 0 == 46
    then time_with_decimals seconds (take (digits_end (drop 1 text)) (drop 1 text)) (drop (digits_end (drop 1 text)) (drop 1 text))
    else time_in_zone seconds 0 text

-- the time of a clock on a day
abbrev pub time_on : List ℕ → ℕ → Option ℕ
time_on text day = option_and_then (λ clock. time_behind (day * 86400 + clock) (drop 8 text)) (clock_of text)

-- the time of a date as web servers write it: 15/Nov/2023:02:23:08 +0000
abbrev pub server_time : List ℕ → Option ℕ
server_time text = option_and_then (time_on (drop 12 text)) (days_to (number_at 7 4 text) (month_named (take 3 (drop 3 text))) (number_at 0 2 text))

-- T or a blank parts date and clock
abbrev pub is_separator : ℕ → Bool
is_separator byte = byte == 84 || byte == 32

-- the time of a date as ISO 8601 has it: 2023-11-15T02:23:08Z
abbrev pub iso_time : List ℕ → Option ℕ
iso_time text =
    if is_separator (slice_index text 10)
    then option_and_then (time_on (drop 11 text)) (days_to (number_at 0 4 text) (number_at 5 2 text) (number_at 8 2 text)) else None

-- the time of one of both, or of a number
abbrev pub time_unbracketed : List ℕ → Option ℕ
time_unbracketed text =
    if has_shape (codes "00/???/0000:") text then server_time text else
    (if has_shape (codes "0000-00-00?") text then iso_time text else time_in text)

-- the time that a column names, which may stand in brackets
abbrev pub time_of_log : List ℕ → Option ℕ
time_of_log text = time_unbracketed (without_last 93 (without_first 91 text))
