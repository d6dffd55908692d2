use Rattle.std.proofs.Common.{◌≡◌, ◌/◌, [], refl, sym, ap, ◌∙◌, length, arith}
use Rattle.std.specs.Option.{option_copied_mut}
use Rattle.clru_list.specs.Cursors.{cursor_rest}
use Rattle.clru_list.proofs.CallerLemmas.{first_entry-none, writes-start, writes-next, writes-end}
use Rattle.clru_uses.proofs.of_lists.halve.Goals as goal

pub loop-item-init : goal.loop-item-init
loop-item-init g c = record { writes = writes-start (λ x. x / 2) _ _ c.iter_mut-cursor.ensures.start; same_list = refl }

pub loop-item-preserved : goal.loop-item-preserved
loop-item-preserved g c =
    let w = c.loop-item.invariant in
    record { writes = writes-next (λ x. x / 2) _ _ _ _ w.writes (c.in-Some.ensures.passes (c.in-Some.item.now / 2)); same_list = w.same_list }

pub loop-item-smaller : goal.loop-item-smaller
loop-item-smaller g c = let less = ap length (c.in-Some.ensures.passes (c.in-Some.item.now / 2)).rest in omega arith

pub returns : goal.returns
returns g c =
    let w = c.loop-item.invariant in
    let name = sym (w.same_list ∙ c.iter_mut-cursor.ensures.same_list) in
    let none : cursor_rest c.loop-item.cursor ≡ [] = first_entry-none _ (ap option_copied_mut (sym c.in_default.is) ∙ c.next.ensures.value) in
    let end = writes-end (λ x. x / 2) _ _ w.writes none in
    grind (arith, name, end)
