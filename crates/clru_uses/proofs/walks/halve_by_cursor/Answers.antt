use Rattle.std.proofs.Common.{◌≡◌, ◌/◌, [], refl, sym, ap, ◌∙◌, length, arith}
use Rattle.std.specs.Option.{option_copied_mut}
use Rattle.clru.specs.Walks.{cursor_rest}
use Rattle.clru.proofs.CallerWalks.{first-none, writes-start, writes-next, writes-end}
use Rattle.clru_uses.proofs.walks.halve_by_cursor.Goals as goal

pub loop-size-init : goal.loop-size-init
loop-size-init c = record { writes = writes-start (λ x. x / 2) _ _ c.iter_mut-cursor.ensures.start; same_cache = refl }

pub loop-size-preserved : goal.loop-size-preserved
loop-size-preserved c =
    let w = c.loop-size.invariant in
    record { writes = writes-next (λ x. x / 2) _ _ _ _ w.writes (c.in-Some.ensures.passes (c.in-Some.size.now / 2)); same_cache = w.same_cache }

pub loop-size-smaller : goal.loop-size-smaller
loop-size-smaller c = let less = ap length (c.in-Some.ensures.passes (c.in-Some.size.now / 2)).rest in omega (arith, less)

pub returns : goal.returns
returns c =
    let w = c.loop-size.invariant in
    let name = sym (w.same_cache ∙ c.iter_mut-cursor.ensures.same_cache) in
    let none : cursor_rest c.loop-size.cursor ≡ [] = first-none _ (ap option_copied_mut (sym c.in_default.is) ∙ c.next.ensures.value) in
    let end = writes-end (λ x. x / 2) _ _ w.writes none in
    grind (arith, name, end)
