use Rattle.std.proofs.Common.{◌≡◌, ◌+◌, ◌++◌, ◌∷◌, [], length, ap, ◌∙◌, arith}
use Rattle.clru_curve.proofs.FetchBlocks.{AreBlocks-add, resized_by, times_add}
use Rattle.clru_curve.proofs.fetches.Fetches.add.Goals as goal

pub returns-clause-blocks : goal.returns-clause-blocks
returns-clause-blocks g c =
    let f = c.args.self.now in
    let first : c.len-first.result ≡ length f.times.items = omega (arith, c.len-first.ensures, f.times.ok.0) in
    let pushed = c.push_reserved.ensures.items ∙ ap (λ n. f.firsts.items ++ n ∷ []) first in
    let times = resized_by (c.len-first.result + f.narrow) f.narrow _ f.times.items c.resize.new.self.items c.args.time c.in-Ok.ensures.items
    (omega (arith, first)) (omega (arith, f.times.ok.0)) in
    rw (pushed, c.push_reserved-2.ensures.items, times)
    (AreBlocks-add f.narrow f.capacities.items f.firsts.items f.widths.items f.times.items c.requires.blocks c.args.time)

pub returns-clause-times : goal.returns-clause-times
returns-clause-times g c =
    let f = c.args.self.now in
    let first : c.len-first.result ≡ length f.times.items = omega (arith, c.len-first.ensures, f.times.ok.0) in
    let pushed = c.push_reserved.ensures.items ∙ ap (λ n. f.firsts.items ++ n ∷ []) first in
    let times = resized_by (c.len-first.result + f.narrow) f.narrow _ f.times.items c.resize.new.self.items c.args.time c.in-Ok.ensures.items
    (omega (arith, first)) (omega (arith, f.times.ok.0)) in
    rw (pushed, c.push_reserved-2.ensures.items, times)
    (times_add f.narrow f.capacities.items f.firsts.items f.widths.items f.times.items c.requires.blocks c.args.time)
