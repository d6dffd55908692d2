-- Where the first requests are not counted, nothing is asked for that is of all.
use Rattle.std.proofs.Common.{◌≡◌, ℕ, Bool, true, false, not, Option, None, Some, refl, sym, ap, ◌∙◌}
use Rattle.std.specs.Prelude.{◌&&◌, ◌||◌}
use Rattle.std.specs.Option.{is_some, option_map}
use Rattle.std.proofs.lemmas.Bool.{and_parts, or_left, or_right}
use Rattle.clru_model.proofs.Cases.{split}
use Rattle.clru_text.specs.Arguments.{AreCapacitiesOf, AreTimesOf, IsSampleOf, after_goes_together, ages_go_together, form_of, forms_go_together, go_together, samples_go_together, times_go_together, wants_all, wants_part, wants_ratio}
use Rattle.clru_text.specs.Choices.{is_aged, is_aged_table, is_of_all, is_picture, is_summary, is_untimed, is_usual_or_named, is_whole}
use Rattle.clru_text.specs.CommandLine.{Asked}
use Rattle.clru_text.specs.declared.options.Capacities.{Capacities}
use Rattle.clru_text.specs.declared.options.Capacities.TheVariants.{Usual, Each, Named, HitRatio, ByteHitRatio}
use Rattle.clru_text.specs.declared.options.Form.{Form}
use Rattle.clru_text.specs.declared.options.Sample.{Sample}
use Rattle.clru_text.specs.declared.options.Sample.TheVariants.{Whole, OneIn, Taken}
use Rattle.clru_text.specs.declared.options.Times.{Times}

whole_of : (asked : Asked) (sample : Sample) → wants_part asked ≡ false → IsSampleOf asked sample → is_whole sample ≡ true
whole_of asked Whole none is = refl
whole_of asked (OneIn n) none is = absurd (cc (rw is at none))
whole_of asked (Taken n all) none is = absurd (cc (rw (is.0, is.1) at none))

no_summary : (asked : Asked) → asked.summary ≡ false → is_summary (form_of asked) ≡ false
no_summary asked none =
    rw none (split asked.svg (λ t. rw t refl) (λ f. rw f (split asked.json (λ t. rw t refl) (λ g. rw g refl))))

-- what is a value is one under a view
pub some_viewed : {X Y : Type 0} (view : X → Y) (o : Option X) → is_some o ≡ true → is_some (option_map view o) ≡ true
some_viewed view None is = cc is
some_viewed view (Some x) is = refl

pub none_viewed : {X Y : Type 0} (view : X → Y) (o : Option X) → is_some (option_map view o) ≡ is_some o
none_viewed view None = refl
none_viewed view (Some x) = refl

-- times are asked for if there are limits
pub asked_for_times : (times : Bool) (idle age : Option ℕ) (o : Option Times) → AreTimesOf times idle age o → is_some o ≡ true
    → times ≡ true
asked_for_times times idle age None are some = cc some
asked_for_times times idle age (Some limits) are some = are.0

pub asked_for_age : (times : Bool) (idle age : Option ℕ) (o : Option Times) → AreTimesOf times idle age o → is_aged o ≡ true
    → is_some age ≡ true
asked_for_age times idle age None are some = cc some
asked_for_age times idle age (Some limits) are some = sym (ap is_some are.2) ∙ some

abbrev rest_together : Asked → Bool
rest_together asked = not (is_some asked.after && wants_part asked) && not (is_some asked.after && asked.one_size)

pub alone : (asked : Asked) (sample : Sample) → after_goes_together asked ≡ true → IsSampleOf asked sample → is_some asked.after ≡ true
    → is_of_all asked.least asked.floor sample (form_of asked) ≡ false
alone asked sample together is some =
    let parts = and_parts (not (is_some asked.after && wants_all asked)) (rest_together asked) together in
    let all : not (wants_all asked) ≡ true = rw some at parts.0 in
    let part : not (wants_part asked) ≡ true =
    rw some at (and_parts (not (is_some asked.after && wants_part asked)) (not (is_some asked.after && asked.one_size)) parts.1).0 in
    let whole = split (wants_part asked) (λ t. absurd (cc (rw t at part))) (λ f. whole_of asked sample f is) in
    split asked.least
    (λ t. absurd (cc (rw t at all)))
    (λ l. split asked.floor
    (λ t. absurd (cc (rw (l, t) at all)))
    (λ f. split asked.summary
    (λ t. absurd (cc (rw (l, f, t) at all)))
    (λ s. rw (l, f, whole, no_summary asked s) refl)))

-- nor one size for each key
pub sizes_alone : (asked : Asked) → after_goes_together asked ≡ true → is_some asked.after ≡ true → asked.one_size ≡ false
sizes_alone asked together some =
    let parts = and_parts (not (is_some asked.after && wants_all asked)) (rest_together asked) together in
    let sizes : not asked.one_size ≡ true =
    rw some at (and_parts (not (is_some asked.after && wants_part asked)) (not (is_some asked.after && asked.one_size)) parts.1).1 in
    split asked.one_size (λ t. absurd (cc (rw t at sizes))) (λ f. f)

module _ (least floor : Bool) (sample : Sample) (form : Form) (none : is_of_all least floor sample form ≡ false) where
  -- so no summary is asked for, and no sample is taken
  pub rows_alone : is_summary form ≡ false
  rows_alone =
      split (is_summary form)
      (λ t. absurd (cc (or_right least _ (or_right floor _ (or_right (not (is_whole sample)) (is_summary form) t)), none)))
      (λ f. f)

  pub whole_alone : is_whole sample ≡ true
  whole_alone =
      split (is_whole sample)
      (λ t. t)
      (λ f. absurd (cc (or_right least _ (or_right floor _ (or_left (not (is_whole sample)) (is_summary form) (ap not f))), none)))

-- what goes together does so in each part
pub record AreTogether (asked : Asked) : Type 0 where
  pub forms : forms_go_together asked ≡ true
  pub samples : samples_go_together asked ≡ true
  pub after : after_goes_together asked ≡ true
  pub times : times_go_together asked ≡ true
  pub ages : ages_go_together asked ≡ true

pub parts_of : (asked : Asked) → go_together asked ≡ true → AreTogether asked
parts_of asked together =
    let parts = and_parts (forms_go_together asked) _ together in
    let rest = and_parts (samples_go_together asked) _ parts.1 in
    let more = and_parts (after_goes_together asked) _ rest.1 in
    let last = and_parts (times_go_together asked) (ages_go_together asked) more.1 in
    record { forms = parts.0; samples = rest.0; after = more.0; times = last.0; ages = last.1 }

-- beside times nothing is asked for that they do not have
pub timed_alone : (asked : Asked) → times_go_together asked ≡ true → asked.times ≡ true
    → is_untimed asked.least asked.floor asked.one_size (is_some asked.after) (form_of asked) ≡ false
timed_alone asked together some =
    let first = and_parts (not (is_some asked.max_idle && not asked.times)) _ together in
    let second = and_parts (not (asked.times && wants_all asked)) _ first.1 in
    let third = and_parts (not (asked.times && asked.one_size)) (not (asked.times && is_some asked.after)) second.1 in
    let all : not (wants_all asked) ≡ true = rw some at second.0 in
    let sizes : not asked.one_size ≡ true = rw some at third.0 in
    let after : not (is_some asked.after) ≡ true = rw some at third.1 in
    split asked.least
    (λ t. absurd (cc (rw t at all)))
    (λ l. split asked.floor
    (λ t. absurd (cc (rw (l, t) at all)))
    (λ f. split asked.summary
    (λ t. absurd (cc (rw (l, f, t) at all)))
    (λ s. split asked.one_size
    (λ t. absurd (cc (rw t at sizes)))
    (λ o. split (is_some asked.after)
    (λ t. absurd (cc (rw t at after)))
    (λ n. rw (l, f, o, n, no_summary asked s) refl)))))

-- so no summary is written of them
pub timed_rows : (least floor one_size behind : Bool) (form : Form) → is_untimed least floor one_size behind form ≡ false
    → is_summary form ≡ false
timed_rows least floor one_size behind form none =
    split (is_summary form)
    (λ t. absurd (cc (or_right least _ (or_right floor _ (or_right one_size _ (or_right behind (is_summary form) t))), none)))
    (λ f. f)

-- the capacities are the usual ones, or named, if neither all are asked for nor a hit ratio
usual_or_named : {A : Type 0} (asked : Asked) → not (asked.all || wants_ratio asked) ≡ true → (n : ℕ) (capacities : Capacities A)
    → AreCapacitiesOf asked.all asked.named asked.hit_ratio asked.byte_hit_ratio n capacities → is_usual_or_named capacities ≡ true
usual_or_named asked few n Usual are = refl
usual_or_named asked few n Each are = absurd (cc (rw are at few))
usual_or_named asked few n (Named named) are = refl
usual_or_named asked few n (HitRatio r) are = absurd (cc (rw (or_right asked.all (wants_ratio asked) (rw are refl)) at few))
usual_or_named asked few n (ByteHitRatio r) are =
    let ratio = or_right (is_some asked.hit_ratio) (is_some asked.byte_hit_ratio) (rw are refl) in
    absurd (cc (rw (or_right asked.all (wants_ratio asked) ratio) at few))

no_picture : (asked : Asked) → asked.svg ≡ false → is_picture (form_of asked) ≡ false
no_picture asked none =
    split asked.summary (λ t. rw t refl) (λ f. rw (f, none) (split asked.json (λ t. rw t refl) (λ g. rw g refl)))

-- beside an age limit a table at such capacities is asked for
pub table_for_age : {A : Type 0} (asked : Asked) → ages_go_together asked ≡ true → is_some asked.max_age ≡ true
    → (n : ℕ) (capacities : Capacities A)
    → AreCapacitiesOf asked.all asked.named asked.hit_ratio asked.byte_hit_ratio n capacities
    → is_aged_table capacities (form_of asked) ≡ true
table_for_age asked ages some n capacities are =
    let first = and_parts (not (is_some asked.max_age && not asked.times)) _ ages in
    let second = and_parts (not (is_some asked.max_age && (asked.all || wants_ratio asked)))
    (not (is_some asked.max_age && asked.svg)) first.1 in
    let few : not (asked.all || wants_ratio asked) ≡ true = rw some at second.0 in
    let plain : not asked.svg ≡ true = rw some at second.1 in
    split asked.svg
    (λ t. absurd (cc (rw t at plain)))
    (λ s. rw (usual_or_named asked few n capacities are, no_picture asked s) refl)
