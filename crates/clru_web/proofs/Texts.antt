-- What the text of a call is, by what the arguments come to.
use Rattle.std.proofs.Common.{◌≡◌, ℕ, Bool, true, false, cond, List, refl, sym, ap, subst}
use Rattle.std.proofs.lemmas.Str.{IsUtf8-from_is_utf8, is_utf8-from_IsUtf8}
use Rattle.std.specs.Str.{IsUtf8, is_utf8}
use Rattle.clru_web.specs.Answers.{IsTextOf, reading_of, words_in}
use Rattle.clru_report.specs.Report.{IsReport}
use Rattle.clru_text.specs.Arguments.{GivesOptions}
use Rattle.clru_text.specs.CommandLine as line
use Rattle.clru_text.specs.CommandLine.{asks, help, read_all, version, wrong}
use Rattle.clru_text.specs.declared.help.TheConstants.{HELP, VERSION}
use Rattle.clru_text.specs.declared.options.Options.{Options}

pub help_text : (A : Type 0) (reading : line.Reading) (log text : List ℕ) → reading ≡ help → text ≡ HELP.now → IsTextOf A reading log text
unfolding IsTextOf
help_text A reading log text is same = subst (λ r. IsTextOf A r log text) (sym is) same

pub version_text : (A : Type 0) (reading : line.Reading) (log text : List ℕ) → reading ≡ version → text ≡ VERSION.now
    → IsTextOf A reading log text
unfolding IsTextOf
version_text A reading log text is same = subst (λ r. IsTextOf A r log text) (sym is) same

pub report_text : {A : Type 0} (options : Options A) (reading : line.Reading) (log text : List ℕ) → GivesOptions reading options
    → IsReport options log text → IsTextOf A reading log text
unfolding IsTextOf
report_text options help log text gives is = absurd gives
report_text options version log text gives is = absurd gives
report_text options wrong log text gives is = absurd gives
report_text options (asks next asked) log text gives is = (options, gives, is)

-- bytes that are text are read as arguments, and no others
pub reading_utf8 : (bytes : List ℕ) → IsUtf8 bytes → reading_of bytes ≡ read_all (words_in bytes)
unfolding reading_of
reading_utf8 bytes is = ap (λ b. cond b (read_all (words_in bytes)) wrong) (is_utf8-from_IsUtf8 bytes is)

pub reading_none : (bytes : List ℕ) → (IsUtf8 bytes → ⊥) → reading_of bytes ≡ wrong
unfolding reading_of
reading_none bytes none = step (is_utf8 bytes) refl
  where
    step : (b : Bool) → is_utf8 bytes ≡ b → cond (is_utf8 bytes) (read_all (words_in bytes)) wrong ≡ wrong
    step true h = absurd (none (IsUtf8-from_is_utf8 bytes h))
    step false h = ap (λ b. cond b (read_all (words_in bytes)) wrong) h
