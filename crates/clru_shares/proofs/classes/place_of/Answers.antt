use Rattle.std.proofs.Common.{[], map, sym, ap, ◌∙◌, arith}
use Rattle.std.specs.Ordering.{is_lt, nat_cmp}
use Rattle.std.specs.Cmp.Lexicographic.{slice_cmp}
use Rattle.std.proofs.lemmas.List.{get_or-map, length-map}
use Rattle.clru_shares.specs.Passes.{name_of}
use Rattle.clru_shares.proofs.ClassLemmas.{before_more, belongs_found, belongs_last, held_found}
use Rattle.clru_shares.proofs.classes.place_of.Goals as goal

pub returns-in-Equal-clause-held : goal.returns-in-Equal-clause-held
returns-in-Equal-clause-held g c =
    let classes = c.args.classes.now in let class = c.index-classes-at.result in let at = c.loop-at.at in
    let own = get_or-map name_of classes at class [] c.loop-at-test.true ∙ sym c.as_slice.ensures.value in
    held_found (map name_of classes) c.args.name.now at (omega (arith, c.loop-at-test.true, length-map classes name_of))
    (ap (λ n. slice_cmp nat_cmp n c.args.name.now) own ∙ sym c.cmp.ensures ∙ c.in-Equal.is)

pub returns-in-Greater-clause-missing : goal.returns-in-Greater-clause-missing
returns-in-Greater-clause-missing g c =
    let classes = c.args.classes.now in let class = c.index-classes-at.result in let at = c.loop-at.at in
    let own = get_or-map name_of classes at class [] c.loop-at-test.true ∙ sym c.as_slice.ensures.value in
    belongs_found (map name_of classes) c.args.name.now at c.requires c.loop-at.invariant
    (omega (arith, c.loop-at-test.true, length-map classes name_of))
    (ap (λ n. slice_cmp nat_cmp n c.args.name.now) own ∙ sym c.cmp.ensures ∙ c.in-Greater.is)

pub loop-at-preserved : goal.loop-at-preserved
loop-at-preserved g c =
    let classes = c.args.classes.now in let class = c.index-classes-at.result in let at = c.loop-at.at in
    let own = get_or-map name_of classes at class [] c.loop-at-test.true ∙ sym c.as_slice.ensures.value in
    before_more (map name_of classes) c.args.name.now at c.loop-at.invariant
    (ap (λ n. is_lt (slice_cmp nat_cmp n c.args.name.now)) own ∙ ap is_lt (sym c.cmp.ensures ∙ c.in-Less.is))

pub returns-clause-missing : goal.returns-clause-missing
returns-clause-missing g c =
    let classes = c.args.classes.now in
    belongs_last (map name_of classes) c.args.name.now _ (sym (length-map classes name_of))
    (λ k low. c.loop-at.invariant k (omega (arith, low, c.loop-at-test.false)))
