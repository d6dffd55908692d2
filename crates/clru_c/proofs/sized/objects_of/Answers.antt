use Rattle.std.proofs.Common.{rules, ◌≡◌, ◌∙◌, ◌+◌, ◌<◌, ◌++◌, ◌∷◌, [], length, take, take-suc, ap, sym, suc, get_or, arith}
use Rattle.std.specs.List.{zip}
use Rattle.std.proofs.lemmas.List.{take_all}
use Rattle.std.proofs.lemmas.Slice.Zip.{length-zip, get_or-zip}
use Rattle.clru_c.proofs.sized.objects_of.Goals as goal

pub loop-index-preserved : goal.loop-index-preserved
loop-index-preserved g c =
    let keys = c.args.keys.now in
    let sizes = c.args.sizes.now in
    let i = c.loop-index.index in
    let in_keys : i < length keys = c.loop-index-test.true in
    let in_sizes : i < length sizes = omega (arith, in_keys, c.requires.equally_long) in
    let inside : i < length (zip keys sizes) = omega (arith, length-zip keys sizes, in_keys, in_sizes) in
    let next : i + 1 ≡ suc i = omega arith in
    let wanted : take i (zip keys sizes) ++ (get_or keys i 0, get_or sizes i 0) ∷ [] ≡ take (i + 1) (zip keys sizes)
    = rw next (ap (λ p. take i (zip keys sizes) ++ p ∷ []) (sym (get_or-zip keys sizes i (0, 0) in_keys in_sizes))
    ∙ sym (take-suc (zip keys sizes) i (0, 0) inside)) in
    record { objects = search (rules, wanted); many = search rules; same_capacity = search rules }

pub returns-clause-objects : goal.returns-clause-objects
returns-clause-objects g c =
    let keys = c.args.keys.now in
    let sizes = c.args.sizes.now in
    c.loop-index.invariant.objects ∙ take_all c.loop-index.index (zip keys sizes)
    (omega (arith, length-zip keys sizes, c.loop-index-test.false))
