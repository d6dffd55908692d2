use Rattle.std.proofs.Common.{◌≡◌, ◌+◌, ◌-◌, ◌++◌, length, map, min, get_or, ap, ◌∙◌, arith}
use Rattle.std.specs.List.{range_with_len}
use Rattle.clru_curve.proofs.FetchBlocks.{AreBlocks-move, read_at, times_move}
use Rattle.clru_curve.proofs.fetches.Fetches.move_times.Goals as goal

pub returns-clause-blocks : goal.returns-clause-blocks
returns-clause-blocks g c =
    let f = c.args.self.now in let k = c.args.number in
    let first = read_at f.firsts.items k c.index-first.result.now c.requires.number c.index-first.ensures in
    let width = read_at f.widths.items k c.index.result.now (omega (arith, c.requires.number, c.requires.blocks.as_many)) c.index.ensures in
    let start : c.len-start.result ≡ length f.times.items = omega (arith, c.len-start.ensures, f.times.ok.0) in
    let items = c.copy_times.ensures
    ∙ ap (λ n. f.times.items ++ map (λ p. get_or f.times.items (n + min p (c.index.result.now - 1)) 0) (range_with_len 0 c.args.wide)) first
    ∙ ap (λ n. f.times.items ++ map (λ p. get_or f.times.items (get_or f.firsts.items k 0 + min p (n - 1)) 0) (range_with_len 0 c.args.wide)) width in
    rw (items, start)
    (AreBlocks-move f.narrow f.capacities.items f.firsts.items f.widths.items f.times.items c.requires.blocks k c.args.wide
    c.requires.number c.requires.wide c.requires.within)

pub returns-clause-times : goal.returns-clause-times
returns-clause-times g c =
    let f = c.args.self.now in let k = c.args.number in
    let first = read_at f.firsts.items k c.index-first.result.now c.requires.number c.index-first.ensures in
    let width = read_at f.widths.items k c.index.result.now (omega (arith, c.requires.number, c.requires.blocks.as_many)) c.index.ensures in
    let start : c.len-start.result ≡ length f.times.items = omega (arith, c.len-start.ensures, f.times.ok.0) in
    let items = c.copy_times.ensures
    ∙ ap (λ n. f.times.items ++ map (λ p. get_or f.times.items (n + min p (c.index.result.now - 1)) 0) (range_with_len 0 c.args.wide)) first
    ∙ ap (λ n. f.times.items ++ map (λ p. get_or f.times.items (get_or f.firsts.items k 0 + min p (n - 1)) 0) (range_with_len 0 c.args.wide)) width in
    rw (items, start)
    (times_move f.narrow f.capacities.items f.firsts.items f.widths.items f.times.items c.requires.blocks k c.args.wide
    c.requires.number c.requires.wide c.requires.within c.requires.some)
