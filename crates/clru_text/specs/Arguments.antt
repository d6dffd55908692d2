-- Which options arguments stand for, once all are read. Public clauses cite it.
use Rattle.std.specs.Prelude.{◌≡◌, ℕ, ◌/◌, Bool, true, false, not, ◌&&◌, ◌||◌, List, [], ◌∷◌, map, max, Option, None, Some, if◌then◌else◌, string_bytes, ⊤}
use Rattle.std.specs.Int.NonZero.{non_zero_usize_get}
use Rattle.std.specs.List.{Contains}
use Rattle.std.specs.List.Sorted.{IsStrictlyIncreasing}
use Rattle.std.specs.Option.{is_none, is_some, option_map}
use Rattle.clru_text.specs.CommandLine.{Asked, Reading, asks, help, version, wrong}
use Rattle.clru_text.specs.declared.arguments.Command.{Command}
use Rattle.clru_text.specs.declared.arguments.Command.TheVariants.{Help, Version, Report}
use Rattle.clru_text.specs.declared.arguments.Draft.{Draft}
use Rattle.clru_text.specs.declared.arguments.Refusal.{Refusal}
use Rattle.clru_text.specs.declared.arguments.Refusal.TheVariants.{Wrong, Memory}
use Rattle.clru_text.specs.declared.arguments.Step.{Step}
use Rattle.clru_text.specs.declared.arguments.Step.TheVariants as step
use Rattle.clru_text.specs.declared.options.Capacities.{Capacities}
use Rattle.clru_text.specs.declared.options.Capacities.TheVariants.{Usual, Each, Named, HitRatio, ByteHitRatio}
use Rattle.clru_text.specs.declared.options.Form.{Form}
use Rattle.clru_text.specs.declared.options.Form.TheVariants.{Table, Json, Picture, Summary}
use Rattle.clru_text.specs.declared.options.Look.{Look}
use Rattle.clru_text.specs.declared.options.Options.{Options}
use Rattle.clru_text.specs.declared.options.Sample.{Sample}
use Rattle.clru_text.specs.declared.options.Sample.TheVariants.{Whole, OneIn, Taken}
use Rattle.clru_text.specs.declared.options.Times.{Times}

-- some capacity is named
abbrev pub is_some_of : {X : Type 0} → List X → Bool
is_some_of [] = false
is_some_of (x ∷ xs) = true

abbrev pub form_of : Asked → Form
form_of asked = if asked.summary then Summary else (if asked.svg then Picture else (if asked.json then Json else Table))

-- the sample that is asked for, where no two exclude one another
abbrev pub IsSampleOf : Asked → Sample → Type 0
IsSampleOf asked Whole = (asked.sample ≡ None) × ((is_some asked.sampled && is_some asked.requests) ≡ false)
IsSampleOf asked (OneIn n) = asked.sample ≡ Some (non_zero_usize_get n)
IsSampleOf asked (Taken n all) =
    (asked.sample ≡ None) × (asked.sampled ≡ Some (non_zero_usize_get n)) × (asked.requests ≡ Some all)

-- one key in so many is sampled
abbrev pub one_in : Sample → ℕ
one_in Whole = 1
one_in (OneIn n) = non_zero_usize_get n
one_in (Taken n all) = non_zero_usize_get n

-- a capacity as one of a sample: so many times less, at least 1
abbrev pub part_of : ℕ → ℕ → ℕ
part_of n capacity = max 1 (capacity / n)

-- the numbers of a list, each once and in ascending order
pub record IsSortedSet (numbers sorted : List ℕ) : Type 0 where
  pub ascending : IsStrictlyIncreasing sorted
  pub each : (n : ℕ) → Contains numbers n → Contains sorted n
  pub no_more : (n : ℕ) → Contains sorted n → Contains numbers n

-- a hit ratio is asked for
abbrev pub wants_ratio : Asked → Bool
wants_ratio asked = is_some asked.hit_ratio || is_some asked.byte_hit_ratio

-- something is asked for that no summary has
abbrev pub wants_rows : Asked → Bool
wants_rows asked = asked.all || is_some_of asked.named || asked.least || asked.floor || asked.svg || asked.json || wants_ratio asked

-- something is asked for that pictures alone have
abbrev pub wants_look : Asked → Bool
wants_look asked = is_some asked.title || is_some asked.unit || is_some asked.from || is_some asked.to

-- one hit ratio at most is asked for, and no other capacity beside it; that of bytes needs sizes
abbrev pub ratios_go_together : Asked → Bool
ratios_go_together asked = not (is_some asked.hit_ratio && is_some asked.byte_hit_ratio)
    && (not (wants_ratio asked && (asked.all || is_some_of asked.named)) && not (is_some asked.byte_hit_ratio && not asked.sizes))

-- no two of the flags exclude one another, those of a sample aside
abbrev pub forms_go_together : Asked → Bool
forms_go_together asked = ratios_go_together asked && (not (asked.all && is_some_of asked.named)
    && (not (asked.summary && wants_rows asked) && (not (asked.sizes && asked.least)
    && (not (asked.json && asked.svg) && (not (asked.one_size && not asked.sizes) && not (wants_look asked && not asked.svg))))))

-- two samples are asked for
abbrev pub wants_two : Asked → Bool
wants_two asked = is_some asked.sample && is_some asked.sampled

-- of one that was taken before it is not said of how many requests, or that is said of none
abbrev pub is_half_told : Asked → Bool
is_half_told asked = (is_some asked.sampled && is_none asked.requests) || (is_some asked.requests && is_none asked.sampled)

-- something is asked for that no sample has
abbrev pub wants_more : Asked → Bool
wants_more asked = (is_some asked.sample || is_some asked.sampled) && asked.least

abbrev pub samples_go_together : Asked → Bool
samples_go_together asked = not (wants_two asked) && (not (is_half_told asked) && not (wants_more asked))

-- something is asked for that is of all requests, or of a part of them
abbrev pub wants_all : Asked → Bool
wants_all asked = asked.least || asked.floor || asked.summary

abbrev pub wants_part : Asked → Bool
wants_part asked = is_some asked.sample || is_some asked.sampled

-- where the first requests are not counted, neither is, nor is one size for each key
abbrev pub after_goes_together : Asked → Bool
after_goes_together asked = not (is_some asked.after && wants_all asked)
    && (not (is_some asked.after && wants_part asked) && not (is_some asked.after && asked.one_size))

-- limits need times, and beside these neither what is of all requests is asked for, nor one size for each key, nor that the first
-- are not counted
abbrev pub times_go_together : Asked → Bool
times_go_together asked = not (is_some asked.max_idle && not asked.times)
    && (not (asked.times && wants_all asked) && (not (asked.times && asked.one_size) && not (asked.times && is_some asked.after)))

-- an age limit needs times, and beside it neither all capacities are asked for, nor a hit ratio, nor a picture
abbrev pub ages_go_together : Asked → Bool
ages_go_together asked = not (is_some asked.max_age && not asked.times)
    && (not (is_some asked.max_age && (asked.all || wants_ratio asked)) && not (is_some asked.max_age && asked.svg))

abbrev pub go_together : Asked → Bool
go_together asked = forms_go_together asked
    && (samples_go_together asked && (after_goes_together asked && (times_go_together asked && ages_go_together asked)))

-- lines begin with times, and these are the limits
abbrev pub AreTimesOf : Bool → Option ℕ → Option ℕ → Option Times → Type 0
AreTimesOf times idle age None = times ≡ false
AreTimesOf times idle age (Some limits) = (times ≡ true) × (limits.max_idle ≡ idle) × (limits.max_age ≡ age)

module _ {A : Type 0} where
  -- what a draft holds, as numbers and bytes
  abbrev pub asked_by : Draft A → Asked
  asked_by draft = record {
    named = map non_zero_usize_get draft.named.items;
    all = draft.all;
    hit_ratio = option_map (λ r. r.number) draft.hit_ratio;
    byte_hit_ratio = option_map (λ r. r.number) draft.byte_hit_ratio;
    sizes = draft.sizes;
    one_size = draft.one_size;
    least = draft.least;
    floor = draft.floor;
    json = draft.json;
    svg = draft.svg;
    summary = draft.summary;
    sample = option_map non_zero_usize_get draft.sample;
    sampled = option_map non_zero_usize_get draft.sampled;
    requests = option_map non_zero_usize_get draft.requests;
    after = option_map non_zero_usize_get draft.after;
    title = option_map string_bytes draft.look.title;
    unit = option_map string_bytes draft.look.unit;
    from = option_map non_zero_usize_get draft.look.from;
    to = option_map non_zero_usize_get draft.look.to;
    times = draft.times;
    max_idle = draft.max_idle;
    max_age = draft.max_age;
  }

  -- the capacities are all, or those of these numbers for one key in n, or that of a ratio of the hits or of the hit bytes, or the
  -- usual ones
  abbrev pub AreCapacitiesOf : Bool → List ℕ → Option ℕ → Option ℕ → ℕ → Capacities A → Type 0
  AreCapacitiesOf all numbers hits bytes n Usual = (all ≡ false) × (numbers ≡ []) × (hits ≡ None) × (bytes ≡ None)
  AreCapacitiesOf all numbers hits bytes n Each = all ≡ true
  AreCapacitiesOf all numbers hits bytes n (Named named) = (all ≡ false) × (is_some_of numbers ≡ true)
      × IsSortedSet (map (part_of n) numbers) (map non_zero_usize_get named.items)
  AreCapacitiesOf all numbers hits bytes n (HitRatio r) = hits ≡ Some r.number
  AreCapacitiesOf all numbers hits bytes n (ByteHitRatio r) = bytes ≡ Some r.number

  -- title, unit and ends of the axis
  pub record IsLookOf (asked : Asked) (look : Look A) : Type 0 where
    pub title : option_map string_bytes look.title ≡ asked.title
    pub unit : option_map string_bytes look.unit ≡ asked.unit
    pub from : option_map non_zero_usize_get look.from ≡ asked.from
    pub to : option_map non_zero_usize_get look.to ≡ asked.to

  -- the options are those that are asked for
  pub record AreOf (asked : Asked) (options : Options A) : Type 0 where
    pub form : options.form ≡ form_of asked
    pub sizes : options.sizes ≡ asked.sizes
    pub one_size : options.one_size ≡ asked.one_size
    pub least : options.least ≡ asked.least
    pub floor : options.floor ≡ asked.floor
    pub sample : IsSampleOf asked options.sample
    pub after : option_map non_zero_usize_get options.after ≡ asked.after
    pub look : IsLookOf asked options.look
    pub times : AreTimesOf asked.times asked.max_idle asked.max_age options.times
    pub capacities : AreCapacitiesOf asked.all asked.named asked.hit_ratio asked.byte_hit_ratio (one_in options.sample) options.capacities

  -- a report is asked for, and these are its options
  abbrev pub GivesOptions : Reading → Options A → Type 0
  GivesOptions help options = ⊥
  GivesOptions version options = ⊥
  GivesOptions wrong options = ⊥
  GivesOptions (asks next asked) options = (go_together asked ≡ true) × AreOf asked options

  -- the arguments ask for this command
  abbrev pub IsAskedFor : Reading → Command A → Type 0
  IsAskedFor reading Help = reading ≡ help
  IsAskedFor reading Version = reading ≡ version
  IsAskedFor reading (Report options) = GivesOptions reading options

  -- the arguments are wrong, and memory did not run out
  abbrev pub is_wrong : Refusal A → Bool
  is_wrong (Wrong line) = true
  is_wrong Memory = false

-- what a step of a draft shows of a reading
abbrev pub reading_after : Step → Asked → Reading
reading_after step.Help asked = help
reading_after step.Version asked = version
reading_after (step.Next next) asked = asks next asked

-- the arguments ask for nothing: one is wrong, or two do not go together
abbrev pub IsRefusedLine : Reading → Type 0
IsRefusedLine help = ⊥
IsRefusedLine version = ⊥
IsRefusedLine wrong = ⊤
IsRefusedLine (asks next asked) = go_together asked ≡ false
