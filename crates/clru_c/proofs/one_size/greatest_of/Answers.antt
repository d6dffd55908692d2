use Rattle.std.proofs.Common.{cond, get_or, max, nat_eq, take, sym, ap, ◌∙◌, arith}
use Rattle.std.specs.List.{zip}
use Rattle.std.proofs.lemmas.List.{take_all}
use Rattle.std.proofs.lemmas.Slice.Zip.{length-zip}
use Rattle.clru_c.specs.OneSize.{greatest_of_key}
use Rattle.clru_c.proofs.OneSize.{greatest_more, one_more}
use Rattle.clru_c.proofs.one_size.greatest_of.Goals as goal

pub loop-index-preserved : goal.loop-index-preserved
loop-index-preserved g c key =
    let keys = c.args.keys.now in let sizes = c.args.sizes.now in let i = c.loop-index.index in
    let objects = take i (zip keys sizes) in let size = get_or sizes i 0 in
    c.in_ok-note_size.ensures key
    ∙ ap (λ n. cond (nat_eq (get_or keys i 0) key) (max n size) n) (c.loop-index.invariant key)
    ∙ sym (greatest_more objects (get_or keys i 0) size key)
    ∙ ap (λ os. greatest_of_key os key) (sym (one_more keys sizes c.requires.equally_long i c.loop-index-test.true))

pub returns-clause-greatest : goal.returns-clause-greatest
returns-clause-greatest g c key =
    let all = zip c.args.keys.now c.args.sizes.now in
    c.loop-index.invariant key ∙ ap (λ os. greatest_of_key os key) (take_all c.loop-index.index all
    (omega (arith, length-zip c.args.keys.now c.args.sizes.now, c.loop-index-test.false)))
