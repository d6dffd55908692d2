-- Which options of a report a split has too. Public clauses cite them.
use Rattle.std.specs.Prelude.{ℕ, Bool, true, false, not, ◌&&◌, ◌||◌, Option, None, Some}
use Rattle.std.specs.Int.NonZero.{non_zero_usize_get}
use Rattle.std.specs.Option.{is_none, is_some, option_and_then, option_map}
use Rattle.clru_text.specs.Times.{idle_limit}
use Rattle.clru_text.specs.declared.options.Capacities.{Capacities}
use Rattle.clru_text.specs.declared.options.Capacities.TheVariants.{Usual, Each, Named, HitRatio, ByteHitRatio}
use Rattle.clru_text.specs.declared.options.Form.{Form}
use Rattle.clru_text.specs.declared.options.Form.TheVariants.{Table, Json, Picture, Summary}
use Rattle.clru_text.specs.declared.options.Look.{Look}
use Rattle.clru_text.specs.declared.options.Options.{Options}
use Rattle.clru_text.specs.declared.options.Sample.{Sample}
use Rattle.clru_text.specs.declared.options.Sample.TheVariants.{Whole, OneIn, Taken}
use Rattle.clru_text.specs.declared.options.Times.{Times}
use Rattle.clru_shares.specs.declared.form.SplitForm.{SplitForm}
use Rattle.clru_shares.specs.declared.form.SplitForm.TheVariants.{Table as SplitTable, Json as SplitJson, Picture as SplitPicture}

-- the form of a split, if it has this one
abbrev pub form_of_split : Form → Option SplitForm
form_of_split Table = Some SplitTable
form_of_split Json = Some SplitJson
form_of_split Picture = Some SplitPicture
form_of_split Summary = None

-- no capacities are asked for, since a split chooses them
abbrev pub is_usual : {A : Type 0} → Capacities A → Bool
is_usual Usual = true
is_usual Each = false
is_usual (Named named) = false
is_usual (HitRatio ratio) = false
is_usual (ByteHitRatio ratio) = false

-- the input is no sample itself
abbrev pub holds_all_lines : Sample → Bool
holds_all_lines Whole = true
holds_all_lines (OneIn n) = true
holds_all_lines (Taken n all) = false

-- one key in so many of it is read
abbrev pub sample_number : Sample → Option ℕ
sample_number Whole = None
sample_number (OneIn n) = Some (non_zero_usize_get n)
sample_number (Taken n all) = None

-- no entry has an age limit
abbrev pub has_no_age : Option Times → Bool
has_no_age times = is_none (option_and_then (λ limits. limits.max_age) times)

-- the idle limit under which lines begin with times; one that is not named is the greatest
abbrev pub idle_of : Option Times → Option ℕ
idle_of times = option_map idle_limit times

abbrev pub has_look : {A : Type 0} → Look A → Bool
has_look look = is_some look.title || is_some look.unit || is_some look.from || is_some look.to

-- nothing is asked for that a split does not have
abbrev pub goes_with_split : {A : Type 0} → Options A → Bool
goes_with_split options = is_usual options.capacities && (not options.one_size && (not options.least && (not options.floor
    && (holds_all_lines options.sample && (is_none options.after && (is_some (form_of_split options.form)
    && (not (has_look options.look) && has_no_age options.times)))))))
