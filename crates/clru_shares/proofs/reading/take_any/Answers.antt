use Rattle.std.proofs.Common.{◌++◌, ◌∷◌, [], None, sym, subst}
use Rattle.std.specs.Int.NonZero.{non_zero_usize_get}
use Rattle.std.specs.Option.{option_map}
use Rattle.clru_text.specs.Keys.{line_of}
use Rattle.clru_text.proofs.ResultLemmas.{err_map, on_ok_map}
use Rattle.clru_shares.specs.Passes.{HasTakenLines}
use Rattle.clru_shares.specs.Refusals.{IsSaidOfLines}
use Rattle.clru_shares.specs.Sampled.{kept_in}
use Rattle.clru_shares.specs.Times.{requests_in}
use Rattle.clru_shares.proofs.FaultLemmas.{said_of_result}
use Rattle.clru_shares.proofs.TimedLines.{untimed_more}
use Rattle.clru_shares.proofs.reading.take_any.Goals as goal

pub take_both-requires : goal.take_both-requires
take_both-requires g c =
    let sample = option_map non_zero_usize_get c.args.sample in let lines = c.requires.0 in
    let has = subst (λ i. HasTakenLines c.args.sizes i sample lines c.args.passes.now) c.in-None.is c.requires.1 in
    (lines, kept_in sample (requests_in None lines), has.taken, c.requires.2)

pub take_timed-requires : goal.take_timed-requires
take_timed-requires g c =
    let sample = option_map non_zero_usize_get c.args.sample in let lines = c.requires.0 in
    (lines, subst (λ i. HasTakenLines c.args.sizes i sample lines c.args.passes.now) c.in-Some.is c.requires.1, c.requires.2)

pub returns-in-None-clause-taken : goal.returns-in-None-clause-taken
returns-in-None-clause-taken g c lines before counted =
    let sizes = c.args.sizes in let sample = option_map non_zero_usize_get c.args.sample in let line = line_of c.args.line.now in
    let next = c.take_both.new.passes in
    let has = subst (λ i. HasTakenLines sizes i sample lines c.args.passes.now) c.in-None.is before in
    on_ok_map c.take_both.result
    (λ all. subst (λ i. HasTakenLines sizes i sample (lines ++ line ∷ []) next) (sym c.in-None.is) (untimed_more sizes sample lines line next all))
    (c.take_both.ensures.taken lines (kept_in sample (requests_in None lines)) has.taken counted)

pub returns-in-None-clause-refused : goal.returns-in-None-clause-refused
returns-in-None-clause-refused g c lines more before counted =
    let sizes = c.args.sizes in let sample = option_map non_zero_usize_get c.args.sample in let line = line_of c.args.line.now in
    let has = subst (λ i. HasTakenLines sizes i sample lines c.args.passes.now) c.in-None.is before in
    err_map c.take_both.result
    (λ fault said of. subst (λ i. IsSaidOfLines i sizes fault (lines ++ line ∷ more)) (sym c.in-None.is) (said of))
    (said_of_result None sizes c.args.number (lines ++ line ∷ more) c.take_both.result tt c.take_both.ensures.number
    (c.take_both.ensures.refused lines more (kept_in sample (requests_in None lines)) has.taken counted))

pub returns-in-Some-clause-taken : goal.returns-in-Some-clause-taken
returns-in-Some-clause-taken g c lines before counted =
    let sizes = c.args.sizes in let sample = option_map non_zero_usize_get c.args.sample in let line = line_of c.args.line.now in
    on_ok_map c.take_timed.result
    (λ all. subst (λ i. HasTakenLines sizes i sample (lines ++ line ∷ []) c.take_timed.new.passes) (sym c.in-Some.is) all)
    (c.take_timed.ensures.taken lines (subst (λ i. HasTakenLines sizes i sample lines c.args.passes.now) c.in-Some.is before) counted)

pub returns-in-Some-clause-refused : goal.returns-in-Some-clause-refused
returns-in-Some-clause-refused g c lines more before counted =
    let sizes = c.args.sizes in let sample = option_map non_zero_usize_get c.args.sample in let line = line_of c.args.line.now in
    err_map c.take_timed.result
    (λ fault said of. subst (λ i. IsSaidOfLines i sizes fault (lines ++ line ∷ more)) (sym c.in-Some.is) (said of))
    (c.take_timed.ensures.refused lines more (subst (λ i. HasTakenLines sizes i sample lines c.args.passes.now) c.in-Some.is before) counted)
