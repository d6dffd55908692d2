use Rattle.std.proofs.Common.{◌≡◌, ◌∙◌, ◌∷◌, [], None, ap, map, rules}
use Rattle.std.specs.Prelude.{◌==◌}
use Rattle.std.specs.Int.NonZero.{non_zero_usize_get}
use Rattle.std.specs.List.{slice_split}
use Rattle.clru_text.specs.CommandLine.{numbers_and}
use Rattle.clru_text.proofs.CommandLines.{cut_none, cut_some, first_number, no_number}
use Rattle.clru_text.proofs.arguments.name_capacities.Goals as goal

pub returns-in_err-name_capacity-clause-refused : goal.returns-in_err-name_capacity-clause-refused
returns-in_err-name_capacity-clause-refused g c =
    let old = map non_zero_usize_get c.parts.named.items in
    let part = c.in-Some.part.now in
    let parts = slice_split (λ b. b == 44) c.in-Some.rest.now in
    let whole = c.parts.invariant.1
    ∙ ap (numbers_and old) (cut_some c.parts.left.now (c.in-Some.part, c.in-Some.rest) (rw c.in-Some.is at c.split_once.ensures.cases)) in
    let none : numbers_and old (part ∷ []) ≡ None
    → numbers_and (map non_zero_usize_get c.args.named.now.items) (slice_split (λ b. b == 44) c.args.list.now) ≡ None =
    λ h. whole ∙ no_number old part parts h in
    search (rules, none, c.in_err-name_capacity.ensures.refused)

pub parts-preserved : goal.parts-preserved
parts-preserved g c =
    let old = map non_zero_usize_get c.parts.named.items in
    let whole = c.parts.invariant.1
    ∙ ap (numbers_and old) (cut_some c.parts.left.now (c.in-Some.part, c.in-Some.rest) (rw c.in-Some.is at c.split_once.ensures.cases))
    ∙ first_number old (map non_zero_usize_get c.name_capacity.new.named.items) c.in-Some.part.now
    (slice_split (λ b. b == 44) c.in-Some.rest.now) c.in_ok-name_capacity.ensures.number in
    (search rules, whole)

pub returns-clause-numbers : goal.returns-clause-numbers
returns-clause-numbers g c =
    rw (c.parts.invariant.1
    ∙ ap (numbers_and (map non_zero_usize_get c.parts.named.items)) (cut_none c.parts.left.now (rw c.in_default.is at c.split_once.ensures.cases)))
    c.name_capacity-2.ensures.number

pub returns-clause-refused : goal.returns-clause-refused
returns-clause-refused g c =
    rw (c.parts.invariant.1
    ∙ ap (numbers_and (map non_zero_usize_get c.parts.named.items)) (cut_none c.parts.left.now (rw c.in_default.is at c.split_once.ensures.cases)))
    c.name_capacity-2.ensures.refused
