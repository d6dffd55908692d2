-- What the options of a report hold to. Their type cites it.
use Rattle.std.specs.Prelude.{ℕ, Bool, true, false, not, ◌&&◌, ◌||◌, Option, None, Some, List, [], map}
use Rattle.std.specs.Int.NonZero.{non_zero_usize_get}
use Rattle.std.specs.List.Sorted.{IsStrictlyIncreasing}
use Rattle.std.specs.Option.{is_some}
use Rattle.clru_text.specs.declared.options.Capacities.{Capacities}
use Rattle.clru_text.specs.declared.options.Capacities.TheVariants.{Usual, Each, Named, HitRatio, ByteHitRatio}
use Rattle.clru_text.specs.declared.options.Form.{Form}
use Rattle.clru_text.specs.declared.options.Form.TheVariants.{Table, Json, Picture, Summary}
use Rattle.clru_text.specs.declared.options.Sample.{Sample}
use Rattle.clru_text.specs.declared.options.Sample.TheVariants.{Whole, OneIn, Taken}
use Rattle.clru_text.specs.declared.options.Times.{Times}

-- the capacities that are named
abbrev pub named_in : {A : Type 0} → Capacities A → List ℕ
named_in Usual = []
named_in Each = []
named_in (Named named) = map non_zero_usize_get named.items
named_in (HitRatio r) = []
named_in (ByteHitRatio r) = []

-- each is greater than the one before
abbrev pub AreAscending : {A : Type 0} → Capacities A → Type 0
AreAscending capacities = IsStrictlyIncreasing (named_in capacities)

-- all requests are read
abbrev pub is_whole : Sample → Bool
is_whole Whole = true
is_whole (OneIn n) = false
is_whole (Taken n all) = false

-- how many requests and keys there are is asked for
abbrev pub is_summary : Form → Bool
is_summary Table = false
is_summary Json = false
is_summary Picture = false
is_summary Summary = true

-- something is asked for that requests behind the first ones do not have
abbrev pub is_of_all : Bool → Bool → Sample → Form → Bool
is_of_all least floor sample form = least || (floor || (not (is_whole sample) || is_summary form))

-- something is asked for that requests with times do not have
abbrev pub is_untimed : Bool → Bool → Bool → Bool → Form → Bool
is_untimed least floor one_size behind form = least || (floor || (one_size || (behind || is_summary form)))

-- the capacities are the usual ones, or named
abbrev pub is_usual_or_named : {A : Type 0} → Capacities A → Bool
is_usual_or_named Usual = true
is_usual_or_named Each = false
is_usual_or_named (Named named) = true
is_usual_or_named (HitRatio r) = false
is_usual_or_named (ByteHitRatio r) = false

abbrev pub is_json : Form → Bool
is_json Table = false
is_json Json = true
is_json Picture = false
is_json Summary = false

abbrev pub is_picture : Form → Bool
is_picture Table = false
is_picture Json = false
is_picture Picture = true
is_picture Summary = false

-- entries expire by age
abbrev pub is_aged : Option Times → Bool
is_aged None = false
is_aged (Some limits) = is_some limits.max_age

-- a table is asked for, at the usual capacities or at those that are named
abbrev pub is_aged_table : {A : Type 0} → Capacities A → Form → Bool
is_aged_table capacities form = is_usual_or_named capacities && not (is_picture form)
