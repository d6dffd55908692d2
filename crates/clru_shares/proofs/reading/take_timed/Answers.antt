use Rattle.std.proofs.Common.{◌≡◌, ◌++◌, ◌∷◌, [], None, Some, IsNone, sym, ap, ◌∙◌, subst, arith, refl}
use Rattle.std.specs.Int.NonZero.{non_zero_usize_get}
use Rattle.std.specs.Option.{option_map}
use Rattle.clru_text.specs.Keys.{line_of}
use Rattle.clru_text.specs.Times.{requests_of, rest_of_line, rests_of, time_of_line}
use Rattle.clru_text.proofs.ResultLemmas.{err_map, on_ok_map}
use Rattle.clru_shares.specs.Passes.{HasTakenAll, next_kept}
use Rattle.clru_shares.specs.Refusals.{IsSaidOfRests}
use Rattle.clru_shares.specs.Sampled.{is_in, kept_in}
use Rattle.clru_shares.proofs.FaultLemmas.{said_of_result, taken_faultless, timed_up_to}
use Rattle.clru_shares.proofs.TimedLines.{as_many_rests, rests_behind, timed_more}
use Rattle.clru_shares.proofs.reading.take_timed.Goals as goal

pub returns-in_default-clause-refused : goal.returns-in_default-clause-refused
returns-in_default-clause-refused g c lines more has counted of =
    let line = line_of c.args.line.now in
    let kept = kept_in (option_map non_zero_usize_get c.args.sample) (requests_of lines) in
    let none : time_of_line line ≡ None = ap time_of_line (sym c.deref.ensures.value) ∙ c.in_default.ensures.none in (
      refl,
      record {
        before = lines;
        line = line;
        rest = more;
        is = refl;
        number = counted;
        timed = has.timed;
        faultless = taken_faultless c.args.sizes c.args.limit (rests_of lines) kept c.args.passes.now has.taken;
        none = subst (λ o. IsNone o) (sym none) refl;
      },
    )

pub take_both-requires : goal.take_both-requires
take_both-requires g c =
    let sample = option_map non_zero_usize_get c.args.sample in let lines = c.requires.0 in
    (rests_of lines, kept_in sample (requests_of lines), c.requires.1.taken, omega (arith, c.requires.2, as_many_rests (Some c.args.limit) lines))

pub returns-clause-taken : goal.returns-clause-taken
returns-clause-taken g c lines has counted =
    let sizes = c.args.sizes in let limit = c.args.limit in let sample = option_map non_zero_usize_get c.args.sample in
    let line = line_of c.args.line.now in let next = c.take_both.new.passes in let kept = kept_in sample (requests_of lines) in
    let time = c.in-Some.time in
    let same = c.deref.ensures.value in
    let timed : time_of_line line ≡ Some time = ap time_of_line (sym same) ∙ c.in-Some.ensures.time in
    let rest = c.in-Ok.ensures.items ∙ ap (λ b. b ++ c.in-Some.behind.now) c.clear.ensures.items ∙ c.in-Some.ensures.rest ∙ ap rest_of_line same in
    on_ok_map c.take_both.result
    (λ all. timed_more sizes sample lines line next limit time has.timed timed
    (subst (λ l. HasTakenAll sizes limit (rests_of lines ++ l ∷ []) (next_kept (is_in sample l) kept (l, time)) next) rest all))
    (c.take_both.ensures.taken (rests_of lines) kept has.taken (omega (arith, counted, as_many_rests (Some limit) lines)))

pub returns-clause-refused : goal.returns-clause-refused
returns-clause-refused g c lines more has counted =
    let sizes = c.args.sizes in let limit = c.args.limit in let sample = option_map non_zero_usize_get c.args.sample in
    let line = line_of c.args.line.now in let kept = kept_in sample (requests_of lines) in let time = c.in-Some.time in
    let same = c.deref.ensures.value in
    let timed : time_of_line line ≡ Some time = ap time_of_line (sym same) ∙ c.in-Some.ensures.time in
    let rest = c.in-Ok.ensures.items ∙ ap (λ b. b ++ c.in-Some.behind.now) c.clear.ensures.items ∙ c.in-Some.ensures.rest ∙ ap rest_of_line same in
    said_of_result (Some limit) sizes c.args.number (lines ++ line ∷ more) c.take_both.result
    (timed_up_to limit time c.args.number lines more line has.timed timed counted) c.take_both.ensures.number
    (err_map c.take_both.result
    (λ fault said of. subst (IsSaidOfRests sizes fault) (sym (rests_behind limit lines more line))
    (subst (λ l. IsSaidOfRests sizes fault (rests_of lines ++ l ∷ rests_of more)) rest (said of)))
    (c.take_both.ensures.refused (rests_of lines) (rests_of more) kept has.taken (omega (arith, counted, as_many_rests (Some limit) lines))))
