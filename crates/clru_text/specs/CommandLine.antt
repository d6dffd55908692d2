-- What the arguments of a command line ask for, read one after the other. Public clauses cite it.
use Rattle.std.specs.Prelude.{ℕ, ◌==◌, Bool, true, false, ◌||◌, nat_eq, List, [], ◌∷◌, ◌++◌, Option, None, Some, drop, codes, bytes_eq, if◌then◌else◌}
use Rattle.std.specs.List.{slice_split, starts_with}
use Rattle.std.specs.Option.{option_and_then, option_or}
use Rattle.clru_text.specs.Numbers.{number_in}
use Rattle.clru_text.specs.Ratios.{ratio_in}
use Rattle.clru_text.specs.Times.{duration_in}
use Rattle.clru_text.specs.declared.arguments.Value.{Value}
use Rattle.clru_text.specs.declared.arguments.Value.TheVariants.{Capacities, Sample, Sampled, Requests, After, Title, Unit, From, To, HitRatio, ByteHitRatio, MaxIdle, MaxAge}

-- what was asked for so far
pub record Asked : Type 0 where
  pub named : List ℕ
  pub all : Bool
  pub hit_ratio : Option ℕ
  pub byte_hit_ratio : Option ℕ
  pub sizes : Bool
  pub one_size : Bool
  pub least : Bool
  pub floor : Bool
  pub json : Bool
  pub svg : Bool
  pub summary : Bool
  pub sample : Option ℕ
  pub sampled : Option ℕ
  pub requests : Option ℕ
  pub after : Option ℕ
  pub title : Option (List ℕ)
  pub unit : Option (List ℕ)
  pub from : Option ℕ
  pub to : Option ℕ
  pub times : Bool
  pub max_idle : Option ℕ
  pub max_age : Option ℕ

-- nothing
abbrev pub nothing : Asked
nothing = record {
  named = [];
  all = false;
  hit_ratio = None;
  byte_hit_ratio = None;
  sizes = false;
  one_size = false;
  least = false;
  floor = false;
  json = false;
  svg = false;
  summary = false;
  sample = None;
  sampled = None;
  requests = None;
  after = None;
  title = None;
  unit = None;
  from = None;
  to = None;
  times = false;
  max_idle = None;
  max_age = None;
}

-- f of a value, if there is one
abbrev pub with_value : {X : Type 0} → (X → Asked) → Option X → Option Asked
with_value f None = None
with_value f (Some x) = Some (f x)

-- these numbers, and behind them those that the parts name, if each names one
abbrev pub numbers_and : List ℕ → List (List ℕ) → Option (List ℕ)
numbers_and numbers [] = Some numbers
numbers_and numbers (part ∷ parts) = option_and_then (λ n. numbers_and (numbers ++ n ∷ []) parts) (number_in part)

-- a list of capacities, with commas between them, adds to those before it
abbrev pub with_capacities : List ℕ → Asked → Option Asked
with_capacities list asked =
    with_value (λ numbers. record asked { named = numbers }) (numbers_and asked.named (slice_split (λ b. b == 44) list))

-- what is asked for after a value
abbrev pub with_value_of : Value → List ℕ → Asked → Option Asked
with_value_of Capacities word asked = with_capacities word asked
with_value_of HitRatio word asked = with_value (λ r. record asked { hit_ratio = Some r }) (ratio_in word)
with_value_of ByteHitRatio word asked = with_value (λ r. record asked { byte_hit_ratio = Some r }) (ratio_in word)
with_value_of Sample word asked = with_value (λ n. record asked { sample = Some n }) (number_in word)
with_value_of Sampled word asked = with_value (λ n. record asked { sampled = Some n }) (number_in word)
with_value_of Requests word asked = with_value (λ n. record asked { requests = Some n }) (number_in word)
with_value_of After word asked = with_value (λ n. record asked { after = Some n }) (number_in word)
with_value_of Title word asked = Some (record asked { title = Some word })
with_value_of Unit word asked = Some (record asked { unit = Some word })
with_value_of From word asked = with_value (λ n. record asked { from = Some n }) (number_in word)
with_value_of To word asked = with_value (λ n. record asked { to = Some n }) (number_in word)
with_value_of MaxIdle word asked = with_value (λ t. record asked { max_idle = Some t }) (duration_in word)
with_value_of MaxAge word asked = with_value (λ t. record asked { max_age = Some t }) (duration_in word)

-- the value that follows an argument, if one does
abbrev pub value_behind : List ℕ → Option Value
value_behind word =
    if bytes_eq word (codes "--at") then Some Capacities else
    (if bytes_eq word (codes "--hit-ratio") then Some HitRatio else
    (if bytes_eq word (codes "--byte-hit-ratio") then Some ByteHitRatio else
    (if bytes_eq word (codes "--sample") then Some Sample else
    (if bytes_eq word (codes "--sampled") then Some Sampled else
    (if bytes_eq word (codes "--requests") then Some Requests else
    (if bytes_eq word (codes "--after") then Some After else
    (if bytes_eq word (codes "--title") then Some Title else
    (if bytes_eq word (codes "--unit") then Some Unit else
    (if bytes_eq word (codes "--from") then Some From else
    (if bytes_eq word (codes "--to") then Some To else
    (if bytes_eq word (codes "--max-idle") then Some MaxIdle else
    (if bytes_eq word (codes "--max-age") then Some MaxAge else None))))))))))))

-- what is asked for after a flag, if the argument is one
abbrev pub with_flag : List ℕ → Asked → Option Asked
with_flag word asked =
    if bytes_eq word (codes "--all") then Some (record asked { all = true }) else
    (if bytes_eq word (codes "--sizes") then Some (record asked { sizes = true }) else
    (if bytes_eq word (codes "--one-size") then Some (record asked { one_size = true }) else
    (if bytes_eq word (codes "--least") then Some (record asked { least = true }) else
    (if bytes_eq word (codes "--floor") then Some (record asked { floor = true }) else
    (if bytes_eq word (codes "--json") then Some (record asked { json = true }) else
    (if bytes_eq word (codes "--svg") then Some (record asked { svg = true }) else
    (if bytes_eq word (codes "--summary") then Some (record asked { summary = true }) else
    (if bytes_eq word (codes "--times") then Some (record asked { times = true }) else None))))))))

-- what is asked for after an argument that no value follows, if the word is one
abbrev pub with_argument : List ℕ → Asked → Option Asked
with_argument word asked = option_or (with_flag word asked)
    (if starts_with nat_eq word (codes "--at=") then with_capacities (drop 5 word) asked else None)

-- what the arguments read so far come to: the help, the version, an error, or what is asked for and what the next argument is
pub data Reading : Type 0 where
  help : Reading
  version : Reading
  wrong : Reading
  asks : Option Value → Asked → Reading

-- what is asked for, if that is known
abbrev pub asks_for : Option Asked → Reading
asks_for None = wrong
asks_for (Some asked) = asks None asked

-- after an argument that this value follows
abbrev pub read_argument : Option Value → List ℕ → Asked → Reading
read_argument None word asked = asks_for (with_argument word asked)
read_argument (Some value) word asked = asks (Some value) asked

-- after one word, which is an argument or the value of the one before it
abbrev pub read_word : Option Value → List ℕ → Asked → Reading
read_word None word asked =
    if bytes_eq word (codes "--help") || bytes_eq word (codes "-h") then help else
    (if bytes_eq word (codes "--version") || bytes_eq word (codes "-V") then version else
    read_argument (value_behind word) word asked)
read_word (Some value) word asked = asks_for (with_value_of value word asked)

-- a reading goes on with the words behind it, unless it has come to its end
abbrev pub go_on : (Option Value → Asked → Reading) → Reading → Reading
go_on more help = help
go_on more version = version
go_on more wrong = wrong
go_on more (asks next asked) = more next asked

-- behind the last word no value is wanted
abbrev pub at_end : Option Value → Asked → Reading
at_end None asked = asks None asked
at_end (Some value) asked = wrong

-- after these words
abbrev pub read_words : List (List ℕ) → Option Value → Asked → Reading
read_words [] next asked = at_end next asked
read_words (word ∷ words) next asked = go_on (read_words words) (read_word next word asked)

-- what all arguments of a command line come to
abbrev pub read_all : List (List ℕ) → Reading
read_all words = read_words words None nothing
