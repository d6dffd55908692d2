use Rattle.std.proofs.Common.{◌≡◌, ◌+◌, true, false, not, ℕ, List, ◌++◌, ◌∷◌, [], append_assoc, append-nil, refl, sym, length, take, ap, ◌∙◌, subst, arith, IfNone, IfSome}
use Rattle.std.specs.Int.NonZero.{non_zero_usize_get}
use Rattle.std.specs.Option.{option_map}
use Rattle.std.proofs.lemmas.List.{length-append}
use Rattle.std.proofs.lemmas.List.Elements.{All-nil}
use Rattle.clru_text.specs.Faults.{is_of_input}
use Rattle.clru_text.proofs.ResultLemmas.{no_none, no_some, none_map, of_none, some_map}
use Rattle.clru_shares.specs.Classes.{has_class}
use Rattle.clru_shares.specs.Faults.{comes_of_a_line, comes_of_writing}
use Rattle.clru_shares.specs.Refusals.{IsSaidOfLines, IsShownOf, most_shown}
use Rattle.clru_shares.specs.Times.{limit_of}
use Rattle.clru_shares.specs.Passes.{HasTakenLines}
use Rattle.clru_shares.specs.Sizes.{is_sized}
use Rattle.clru_shares.specs.declared.reading.Passes.{Passes}
use Rattle.clru_shares.proofs.FaultLemmas.{shown_of}
use Rattle.clru_shares.proofs.PassLemmas.{none_sized}
use Rattle.clru_shares.proofs.PlaceLemmas.{none_noted}
use Rattle.clru_shares.proofs.TakenClasses.{none_taken}
use Rattle.clru_shares.proofs.TimedLines.{no_lines}
use Rattle.clru_shares.proofs.reading.read_classes.Goals as goal

pub lines-init : goal.lines-init
lines-init g c =
    let none : Passes g.row.S.Denot g.row.A.Denot g.row.S-Hasher.Denot = record {
      classes = c.new.result;
      all = c.empty_pass.result;
      latest = c.new-2.result;
      requests = 0;
      size = 0;
      kept = 0;
    } in (
      [],
      c.new-buffer.ensures (g.R.Read.remaining c.args.reader.now),
      refl,
      omega arith,
      no_lines c.args.sizes c.args.idle (option_map non_zero_usize_get c.args.sample) none (record {
        classed = All-nil (λ line. has_class line ≡ true);
        sized = All-nil (λ line. is_sized c.args.sizes line ≡ true);
        classes = none_taken c.args.sizes (limit_of c.args.idle) c.new.result.items c.new.ensures.items;
        few = omega (arith, ap length c.new.ensures.items);
        all = c.empty_pass.ensures (limit_of c.args.idle);
        latest = none_noted c.new-2.result c.new-2.ensures;
        numbered = refl;
        fewer = omega arith;
        counted = refl;
        summed = sym (none_sized c.args.sizes);
        fit = omega arith;
      }),
      tt,
    )

pub take_any-requires : goal.take_any-requires
take_any-requires g c =
    let before = c.lines.invariant in
    let so = of_none c.lines.refused (ap not c.if-is_none.ensures) before.4 in
    (before.0, so, omega (arith, before.2))

pub lines-preserved-in-Ok : goal.lines-preserved-in-Ok
lines-preserved-in-Ok g c =
    let before = c.lines.invariant in let start = g.R.Read.remaining c.args.reader.now in
    let line = c.read_line.new.line.items in
    let fits = c.in-Ok-true.ensures.fits start before.0 before.1 c.in-Ok-true.field-0-test in (
      before.0 ++ line ∷ [],
      c.in-Ok-true.ensures.line start before.0 before.1 c.in-Ok-true.field-0-test,
      omega (arith, before.2, length-append before.0 (line ∷ [])),
      omega (arith, before.2, fits),
      none_map c.lines.refused (λ so. c.in-Ok.ensures.taken before.0 so (omega (arith, before.2))) before.4,
      no_some _ c.lines.refused (ap not c.if-is_none.ensures),
    )

pub returns-in-Err-Other-clause-refused : goal.returns-in-Err-Other-clause-refused
returns-in-Err-Other-clause-refused g c of =
    let before = c.lines.invariant in
    let so = of_none c.lines.refused (ap not c.if-is_none.ensures) before.4 in
    let is = c.in-Err-Other.field-0-is in
    absurd (subst (λ f. IsSaidOfLines c.args.idle c.args.sizes f (before.0 ++ c.read_line.new.line.items ∷ [])) is
    (c.in-Err-Other.ensures.refused before.0 [] so (omega (arith, before.2)) (ap comes_of_a_line is ∙ ap is_of_input (sym c.in-Err-Other.fault-is) ∙ of)))

pub returns-in-Err-Other-clause-shown : goal.returns-in-Err-Other-clause-shown
returns-in-Err-Other-clause-shown g c of =
    let before = c.lines.invariant in
    let so = of_none c.lines.refused (ap not c.if-is_none.ensures) before.4 in
    let is = c.in-Err-Other.field-0-is in
    absurd (subst (λ f. IsSaidOfLines c.args.idle c.args.sizes f (before.0 ++ c.read_line.new.line.items ∷ [])) is
    (c.in-Err-Other.ensures.refused before.0 [] so (omega (arith, before.2)) (ap comes_of_a_line is ∙ ap is_of_input (sym c.in-Err-Other.fault-is) ∙ of)))

pub lines-preserved-in-Err-take_any : goal.lines-preserved-in-Err-take_any
lines-preserved-in-Err-take_any g c =
    let before = c.lines.invariant in let start = g.R.Read.remaining c.args.reader.now in
    let line = c.read_line.new.line.items in let fault = c.in-Err-take_any.fault in
    let fits = c.in-Ok-true.ensures.fits start before.0 before.1 c.in-Ok-true.field-0-test in
    let so = of_none c.lines.refused (ap not c.if-is_none.ensures) before.4 in (
      before.0 ++ line ∷ [],
      c.in-Ok-true.ensures.line start before.0 before.1 c.in-Ok-true.field-0-test,
      omega (arith, before.2, length-append before.0 (line ∷ [])),
      omega (arith, before.2, fits),
      tt,
      (
        c.in-Err-take_any.ensures.fault,
        λ of rest. subst (IsSaidOfLines c.args.idle c.args.sizes fault) (sym (append_assoc before.0 (line ∷ []) rest))
            (c.in-Err-take_any.ensures.refused before.0 rest so (omega (arith, before.2)) of),
        λ rest. subst (λ ls. IsShownOf fault ls c.keep_beginning.new.beginning.items) (sym (append_assoc before.0 (line ∷ []) rest))
            (shown_of fault (c.lines.number + 1) before.0 rest line c.keep_beginning.new.beginning.items c.in-Err-take_any.ensures.number
            (omega (arith, before.2)) (c.in-Ok-keep_beginning.ensures ∙ ap (take most_shown) c.deref.ensures.value)),
      ),
    )

pub lines-preserved : goal.lines-preserved
lines-preserved g c =
    let before = c.lines.invariant in let start = g.R.Read.remaining c.args.reader.now in
    let line = c.read_line.new.line.items in
    let fits = c.in-Ok-true.ensures.fits start before.0 before.1 c.in-Ok-true.field-0-test in (
      before.0 ++ line ∷ [],
      c.in-Ok-true.ensures.line start before.0 before.1 c.in-Ok-true.field-0-test,
      omega (arith, before.2, length-append before.0 (line ∷ [])),
      omega (arith, before.2, fits),
      no_none _ c.lines.refused (ap not c.if-is_none.ensures),
      some_map c.lines.refused (λ fault so. (
        so.0,
        λ of rest. subst (IsSaidOfLines c.args.idle c.args.sizes fault) (sym (append_assoc before.0 (line ∷ []) rest)) (so.1 of (line ∷ rest)),
        λ rest. subst (λ ls. IsShownOf fault ls c.lines.beginning.items) (sym (append_assoc before.0 (line ∷ []) rest)) (so.2 (line ∷ rest)),
      )) before.5,
    )

pub returns-in-None-clause-taken : goal.returns-in-None-clause-taken
returns-in-None-clause-taken g c =
    let before = c.lines.invariant in let start = g.R.Read.remaining c.args.reader.now in
    let sample = option_map non_zero_usize_get c.args.sample in
    let read = c.in-Ok-false.ensures.end start before.0 before.1 c.in-Ok-false.field-0-test in
    let has = subst (λ o. IfNone o (HasTakenLines c.args.sizes c.args.idle sample before.0 c.lines.passes)) c.in-None.is before.4 in
    (read.0, read.1, read.2, subst (λ ls. HasTakenLines c.args.sizes c.args.idle sample ls c.lines.passes) (sym read.3.0) has)

pub returns-in-Some-clause-refused : goal.returns-in-Some-clause-refused
returns-in-Some-clause-refused g c of =
    let before = c.lines.invariant in let start = g.R.Read.remaining c.args.reader.now in let fault = c.in-Some.fault in
    let read = c.in-Ok-false.ensures.end start before.0 before.1 c.in-Ok-false.field-0-test in
    let so = subst (λ o. IfSome o (λ f. (comes_of_writing f ≡ false)
    × (comes_of_a_line f ≡ true → (rest : List (List ℕ)) → IsSaidOfLines c.args.idle c.args.sizes f (before.0 ++ rest))
    × ((rest : List (List ℕ)) → IsShownOf f (before.0 ++ rest) c.lines.beginning.items))) c.in-Some.is before.5 in
    (read.0, read.1, read.2, subst (IsSaidOfLines c.args.idle c.args.sizes fault) (append-nil before.0 ∙ sym read.3.0) (so.1 of []))

pub returns-in-Some-clause-shown : goal.returns-in-Some-clause-shown
returns-in-Some-clause-shown g c of =
    let before = c.lines.invariant in let start = g.R.Read.remaining c.args.reader.now in let fault = c.in-Some.fault in
    let read = c.in-Ok-false.ensures.end start before.0 before.1 c.in-Ok-false.field-0-test in
    let so = subst (λ o. IfSome o (λ f. (comes_of_writing f ≡ false)
    × (comes_of_a_line f ≡ true → (rest : List (List ℕ)) → IsSaidOfLines c.args.idle c.args.sizes f (before.0 ++ rest))
    × ((rest : List (List ℕ)) → IsShownOf f (before.0 ++ rest) c.lines.beginning.items))) c.in-Some.is before.5 in
    (read.0, read.1, read.2, subst (λ ls. IsShownOf fault ls c.lines.beginning.items) (append-nil before.0 ∙ sym read.3.0) (so.2 []))

pub returns-in-Some-clause-fault : goal.returns-in-Some-clause-fault
returns-in-Some-clause-fault g c =
    let before = c.lines.invariant in
    let so = subst (λ o. IfSome o (λ f. (comes_of_writing f ≡ false)
    × (comes_of_a_line f ≡ true → (rest : List (List ℕ)) → IsSaidOfLines c.args.idle c.args.sizes f (before.0 ++ rest))
    × ((rest : List (List ℕ)) → IsShownOf f (before.0 ++ rest) c.lines.beginning.items))) c.in-Some.is before.5 in
    so.0

pub returns-in-Some-clause-no_room : goal.returns-in-Some-clause-no_room
returns-in-Some-clause-no_room g c size is =
    let before = c.lines.invariant in
    let so = subst (λ o. IfSome o (λ f. (comes_of_writing f ≡ false)
    × (comes_of_a_line f ≡ true → (rest : List (List ℕ)) → IsSaidOfLines c.args.idle c.args.sizes f (before.0 ++ rest))
    × ((rest : List (List ℕ)) → IsShownOf f (before.0 ++ rest) c.lines.beginning.items))) c.in-Some.is before.5 in
    subst (λ f. IsShownOf f (before.0 ++ []) c.lines.beginning.items) is (so.2 [])
