-- Where and when the latest request of each line was. No public clause cites it.
use Rattle.std.specs.Prelude.{◌≡◌, ◌-◌, ℕ, nat_le, Bool, false, List, Option, Some, reverse, bytes_eq}
use Rattle.std.specs.Map.{keys_of, lookup}
use Rattle.std.specs.Option.{option_map, option_map_or}
use Rattle.clru_model.specs.Ages.{is_recent}
use Rattle.clru_model.specs.Requests.{IsLatestOf}
use Rattle.clru_shares.specs.Classes.{class_in, of_class}
use Rattle.clru_shares.specs.declared.latest.Places.{Places}
use Rattle.clru_shares.specs.declared.pass.Asked.{Asked}

abbrev pub own_of : Option Places → Option ℕ
own_of places = option_map (λ p. p.own) places

abbrev pub all_of : Option Places → Option ℕ
all_of places = option_map (λ p. p.all) places

abbrev pub time_of : Option Places → Option ℕ
time_of places = option_map (λ p. p.time) places

-- the latest request was at most this long ago
abbrev pub soon_of : ℕ → ℕ → Option Places → Bool
soon_of limit time places = option_map_or (λ before. nat_le (time - before) limit) (time_of places) false

-- position and time of the latest request of the line among these
pub record IsLatestAt (requests : List (List ℕ × ℕ)) (line : List ℕ) (latest time : Option ℕ) : Type 0 where
  pub position : IsLatestOf bytes_eq (keys_of (reverse requests)) line latest
  pub timed : time ≡ lookup (bytes_eq line) (reverse requests)

-- among all, and among those of its class
pub record AreLatest (requests : List (List ℕ × ℕ)) (line : List ℕ) (places : Option Places) : Type 0 where
  pub all : IsLatestAt requests line (all_of places) (time_of places)
  pub own : IsLatestAt (of_class (class_in line) requests) line (own_of places) (time_of places)

-- what a request tells a pass that took these: where the latest one of its line was, and whether that came within the limit
pub record IsAskedOf (limit : ℕ) (requests : List (List ℕ × ℕ)) (request : List ℕ × ℕ) (asked : Asked) : Type 0 where
  pub latest : IsLatestOf bytes_eq (keys_of (reverse requests)) request.0 asked.latest
  pub soon : asked.soon ≡ is_recent bytes_eq (Some limit) request (reverse requests)

-- they are noted of each line
pub record IsNoted (requests : List (List ℕ × ℕ)) (noted : List (List ℕ × Places)) : Type 0 where
  pub each : (line : List ℕ) → AreLatest requests line (lookup (bytes_eq line) noted)
