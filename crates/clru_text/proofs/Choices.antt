-- Arguments that go together ask for the least of all requests alone, and by keys.
use Rattle.std.proofs.Common.{◌≡◌, Bool, true, false, not, ◌&&◌, ◌||◌, refl}
use Rattle.std.specs.Option.{is_some}
use Rattle.std.proofs.lemmas.Bool.{and_parts}
use Rattle.clru_text.specs.Arguments.{IsSampleOf, forms_go_together, is_some_of, ratios_go_together, samples_go_together, wants_rows}
use Rattle.clru_text.specs.Choices.{is_whole}
use Rattle.clru_text.specs.CommandLine.{Asked}
use Rattle.clru_text.specs.declared.options.Sample.{Sample}
use Rattle.clru_text.specs.declared.options.Sample.TheVariants.{Whole, OneIn, Taken}

differ : false ≡ true → ⊥
differ e = cc

-- one of both alone
not_both : (x y : Bool) → not (x && y) ≡ true → y ≡ true → x ≡ false
not_both true true alone other = absurd (differ alone)
not_both true false alone other = absurd (differ other)
not_both false y alone other = refl

module _ (asked : Asked) (least : asked.least ≡ true) where
  by_keys : forms_go_together asked ≡ true → asked.sizes ≡ false
  by_keys go =
      let forms = and_parts (ratios_go_together asked) _ go in
      let rest = and_parts (not (asked.all && is_some_of asked.named)) _ forms.1 in
      let more = and_parts (not (asked.summary && wants_rows asked)) _ rest.1 in
      not_both asked.sizes asked.least (and_parts (not (asked.sizes && asked.least)) _ more.1).0 least

  no_sample : samples_go_together asked ≡ true → (is_some asked.sample || is_some asked.sampled) ≡ false
  no_sample go = not_both _ asked.least (and_parts _ _ (and_parts _ _ go).1).1 least

  whole : (sample : Sample) → IsSampleOf asked sample → samples_go_together asked ≡ true → is_whole sample ≡ true
  whole Whole is go = refl
  whole (OneIn n) is go = let none = no_sample go in absurd (cc)
  whole (Taken n all) is go = let none = no_sample go in let none' = is.1 in absurd (cc)

  pub least_alone : (sample : Sample) → IsSampleOf asked sample → forms_go_together asked ≡ true → samples_go_together asked ≡ true
      → (asked.sizes ≡ false) × (is_whole sample ≡ true)
  least_alone sample is forms samples = (by_keys forms, whole sample is samples)
