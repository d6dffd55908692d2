-- Options that ask for nothing but what the curve of all lines tells.
use Rattle.std.proofs.Common.{◌≡◌, Bool, true, false, not, ◌&&◌, List, ℕ, Option, None, Some, refl, sym, subst}
use Rattle.std.proofs.lemmas.Bool.{and_parts}
use Rattle.std.specs.Int.NonZero.{non_zero_usize_get}
use Rattle.std.specs.Option.{is_some, option_map}
use Rattle.std.specs.Prelude.{bytes_eq, length, reverse}
use Rattle.clru_curve.specs.Curves.{HasMissesOf}
use Rattle.clru_model.specs.Requests.{distinct}
use Rattle.clru_text.specs.Lines.{lines_of}
use Rattle.clru_text.specs.declared.options.Options.{Options}
use Rattle.clru_text.specs.declared.options.Sample.{Sample}
use Rattle.clru_text.specs.declared.options.Sample.TheVariants.{Whole, OneIn, Taken}
use Rattle.clru_text.proofs.Samples.{all_kept}
use Rattle.clru_report.specs.Parts.{IsCurveOfLog, is_whole, needs_only_curve}
use Rattle.clru_report.specs.Passes.{IsCurveOfKept, wants_floor, wants_least}
use Rattle.clru_report.specs.Report.{IsInForm, IsReport, IsReportBy, IsReportByKeys, IsReportByKeysFrom, IsReportUnder}

none : {X : Type 0} (o : Option X) → not (is_some o) ≡ true → o ≡ None
none None is = refl
none (Some x) is = absurd (cc)

whole : (sample : Sample) → is_whole sample ≡ true → sample ≡ Whole
whole Whole is = refl
whole (OneIn n) is = absurd (cc)
whole (Taken n m) is = absurd (cc)

no : (b : Bool) → not b ≡ true → b ≡ false
no false is = refl
no true is = absurd (cc)

module _ {A : Type 0} (options : Options A) (of : needs_only_curve options ≡ true) where
  abbrev least_and_floor : Bool
  least_and_floor = not (wants_least options) && not (wants_floor options)

  abbrev from_sample : Bool
  from_sample = is_whole options.sample && least_and_floor

  abbrev from_sizes : Bool
  from_sizes = not options.sizes && from_sample

  abbrev from_after : Bool
  from_after = not (is_some options.after) && from_sizes

  behind_after : from_sizes ≡ true
  behind_after = (and_parts (not (is_some options.after)) from_sizes (and_parts (not (is_some options.times)) from_after of).1).1

  behind_sizes : from_sample ≡ true
  behind_sizes = (and_parts (not options.sizes) from_sample behind_after).1

  unasked : least_and_floor ≡ true
  unasked = (and_parts (is_whole options.sample) least_and_floor behind_sizes).1

  pub no_least : wants_least options ≡ false
  no_least = no (wants_least options) (and_parts (not (wants_least options)) (not (wants_floor options)) unasked).0

  pub no_floor : wants_floor options ≡ false
  no_floor = no (wants_floor options) (and_parts (not (wants_least options)) (not (wants_floor options)) unasked).1

  pub of_curve : (log text : List ℕ) → IsInForm options.form options log text → IsReport options log text
  of_curve log text made =
      let times : options.times ≡ None = none options.times (and_parts (not (is_some options.times)) from_after of).0 in
      let after : options.after ≡ None =
      none options.after (and_parts (not (is_some options.after)) from_sizes (and_parts (not (is_some options.times)) from_after of).1).0 in
      let sizes : options.sizes ≡ false = no options.sizes (and_parts (not options.sizes) from_sample behind_after).0 in
      let sample : options.sample ≡ Whole = whole options.sample (and_parts (is_whole options.sample) least_and_floor behind_sizes).0 in
      subst (λ t. IsReportUnder t options log text) (sym times)
      (subst (λ b. IsReportBy b options log text) (sym sizes)
      (subst (λ o. IsReportByKeysFrom (option_map non_zero_usize_get o) options log text) (sym after)
      (subst (λ r. IsReportByKeys r options log text) (sym sample) made)))

-- the curve of all lines is that of those which one in one keeps
pub curve_kept : (log curve : List ℕ) (requests bytes : ℕ) → IsCurveOfLog log requests bytes curve → IsCurveOfKept 1 log curve requests bytes
curve_kept log curve requests bytes has =
    let kept = sym (all_kept (lines_of log)) in
    record {
      misses = subst (λ ls. HasMissesOf bytes_eq ls curve) kept has.missed.misses;
      distinct_keys = subst (λ ls. length curve ≡ distinct bytes_eq (reverse ls)) kept has.missed.distinct_lines;
      counted = has.counted;
      in_bytes = has.in_bytes;
    }
