use Rattle.std.proofs.Common.{◌≡◌, ℕ, List, true, false, [], ◌∷◌, ◌++◌, length, map, refl, sym, ap, ◌∙◌, subst, arith}
use Rattle.std.specs.Prelude.{bytes_eq}
use Rattle.std.specs.Int.NonZero.{non_zero_usize_get}
use Rattle.std.specs.List.{list_any}
use Rattle.std.specs.Option.{option_map}
use Rattle.std.proofs.lemmas.List.{length-append, length-map}
use Rattle.std.proofs.lemmas.List.Elements.{All-push}
use Rattle.clru_text.specs.Keys.{line_of}
use Rattle.clru_shares.specs.Classes.{class_in, has_class}
use Rattle.clru_shares.specs.LinePasses.{HasTakenBy}
use Rattle.clru_shares.specs.Passes.{HaveTaken, name_of, next_kept, next_number}
use Rattle.clru_shares.specs.Places.{IsNoted}
use Rattle.clru_shares.specs.Sampled.{is_in}
use Rattle.clru_shares.specs.Sizes.{is_sized, own_size}
use Rattle.clru_shares.proofs.FaultLemmas.{sizes_large, taken_faultless, without_size}
use Rattle.clru_shares.proofs.PassLemmas.{size_next}
use Rattle.clru_shares.proofs.SampleLemmas.{next_counted, next_few}
use Rattle.clru_shares.proofs.TakenClasses.{is_other, names_are}
use Rattle.clru_shares.proofs.reading.take_both.Goals as goal

pub returns-in_default-clause-refused : goal.returns-in_default-clause-refused
returns-in_default-clause-refused g c lines rest kept is counted of =
    record {
      before = lines;
      line = line_of c.args.key.now;
      rest = rest;
      is = refl;
      number = counted;
      faultless = taken_faultless c.args.sizes c.args.limit lines kept c.args.passes.now is;
      none = ap has_class (sym c.deref.ensures.value) ∙ sym c.in_default.ensures.has_class;
    }

pub returns-in_default-size_of_request-clause-refused : goal.returns-in_default-size_of_request-clause-refused
returns-in_default-size_of_request-clause-refused g c lines rest kept is counted of =
    let line = line_of c.args.key.now in
    without_size c.args.sizes lines rest line c.args.number counted (taken_faultless c.args.sizes c.args.limit lines kept c.args.passes.now is)
    (ap has_class (sym c.deref.ensures.value) ∙ sym c.in-Some.ensures.has_class)
    (ap (is_sized c.args.sizes) (sym c.deref-2.ensures.value) ∙ sym c.in_default-size_of_request.ensures.is_sized)

pub returns-in_default-checked_add-clause-refused : goal.returns-in_default-checked_add-clause-refused
returns-in_default-checked_add-clause-refused g c lines rest kept is counted of =
    let line = line_of c.args.key.now in
    sizes_large c.args.sizes lines rest line (taken_faultless c.args.sizes c.args.limit lines kept c.args.passes.now is)
    (ap has_class (sym c.deref.ensures.value) ∙ sym c.in-Some.ensures.has_class)
    (ap (is_sized c.args.sizes) (sym c.deref-2.ensures.value) ∙ sym c.in-Some-size_of_request.ensures.is_sized)
    (omega (arith, c.in_default-checked_add.ensures, is.summed, c.in-Some-size_of_request.ensures.size, ap (own_size c.args.sizes) c.deref-2.ensures.value))

pub take_known-requires-clause-size : goal.take_known-requires-clause-size
take_known-requires-clause-size g c = c.in-Some-size_of_request.ensures.size ∙ ap (own_size c.args.sizes) c.deref-2.ensures.value

pub take_known-requires-clause-name : goal.take_known-requires-clause-name
take_known-requires-clause-name g c = c.in-Some.ensures.class ∙ ap class_in c.deref.ensures.value

pub take_known-requires-clause-taken : goal.take_known-requires-clause-taken
take_known-requires-clause-taken g c = (c.requires.0, c.requires.1, c.requires.2)

pub next_number-passes-requires : goal.next_number-passes-requires
next_number-passes-requires g c = omega (arith, c.in-Ok-true.ensures.kept, c.requires.2.fewer, c.requires.2.counted, c.requires.3)

pub returns-in-Ok-false-clause-refused : goal.returns-in-Ok-false-clause-refused
returns-in-Ok-false-clause-refused g c lines rest kept is counted of =
    let classes = c.args.passes.now.classes.items in let line = line_of c.args.key.now in
    let own = c.in-Some.ensures.class ∙ ap class_in c.deref.ensures.value in
    let size = c.in-Some-size_of_request.ensures.size ∙ ap (own_size c.args.sizes) c.deref-2.ensures.value in
    let full = c.in-Ok-false.ensures.full c.in-Ok-false.field-0-test in
    record {
      before = lines;
      line = line;
      rest = rest;
      is = refl;
      number = counted;
      faultless = taken_faultless c.args.sizes c.args.limit lines kept c.args.passes.now is;
      own = ap has_class (sym c.deref.ensures.value) ∙ sym c.in-Some.ensures.has_class;
      has_size = ap (is_sized c.args.sizes) (sym c.deref-2.ensures.value) ∙ sym c.in-Some-size_of_request.ensures.is_sized;
      fits = omega (arith, c.in-Some-checked_add.ensures, size, is.summed);
      names = map name_of classes;
      classes = names_are c.args.sizes c.args.limit lines kept classes is.classes;
      full = omega (arith, full.0, is.few, length-map classes name_of);
      other = subst (λ n. list_any (bytes_eq n) (map name_of classes) ≡ false) own (is_other classes c.in-Some.name.now full.1.0 full.1.1);
    }

pub returns-clause-taken : goal.returns-clause-taken
returns-clause-taken g c lines kept is counted =
    let line = line_of c.args.key.now in let same = c.deref.ensures.value in let sizes = c.args.sizes in
    let size = c.in-Some-size_of_request.ensures.size ∙ ap (own_size sizes) c.deref-2.ensures.value in
    let here = c.is_in-is_kept.result in let r : List ℕ × ℕ = (line, c.args.time) in
    let in_sample : here ≡ is_in (option_map non_zero_usize_get c.args.sample) line =
    c.is_in-is_kept.ensures ∙ ap (is_in (option_map non_zero_usize_get c.args.sample)) c.deref-3.ensures.value in
    record {
      classed = All-push (λ l. has_class l ≡ true) lines line is.classed (ap has_class (sym same) ∙ sym c.in-Some.ensures.has_class);
      sized = All-push (λ l. is_sized sizes l ≡ true) lines line is.sized
          (ap (is_sized sizes) (sym c.deref-2.ensures.value) ∙ sym c.in-Some-size_of_request.ensures.is_sized);
      classes = subst (λ b. HaveTaken sizes c.args.limit (lines ++ line ∷ []) (next_kept b kept r) c.take_known.new.passes.classes.items) in_sample
          (c.in-Ok-true.ensures.classes lines kept is c.in-Ok-true.field-0-test);
      few = c.in-Ok-true.ensures.few c.in-Ok-true.field-0-test is.few;
      all = subst (λ b. HasTakenBy sizes c.args.limit (next_kept b kept r) c.take_known.new.passes.all) in_sample
          (c.in-Ok-true.ensures.all lines kept is c.in-Ok-true.field-0-test);
      latest = subst (λ b. IsNoted (next_kept b kept r) c.take_known.new.passes.latest) in_sample
          (c.in-Ok-true.ensures.latest lines kept is c.in-Ok-true.field-0-test);
      numbered = subst (λ b. c.next_number-passes.result ≡ length (next_kept b kept r)) in_sample
          (c.next_number-passes.ensures ∙ ap (next_number here) (c.in-Ok-true.ensures.kept ∙ is.numbered) ∙ next_counted here kept r);
      fewer = omega (
        arith,
        c.next_number-passes.ensures,
        ap (next_number here) c.in-Ok-true.ensures.kept,
        next_few here c.args.passes.now.kept c.args.passes.now.requests is.fewer,
        is.counted,
        counted,
      );
      counted = omega (arith, counted, length-append lines (line ∷ []));
      summed = omega (arith, c.in-Some-checked_add.ensures, size, is.summed, size_next sizes lines line);
      fit = omega (arith, c.in-Some-checked_add.ensures);
    }
