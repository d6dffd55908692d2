use Rattle.std.proofs.Common.{◌≡◌, ◌/◌, [], refl, sym, ap, ◌∙◌, length, arith}
use Rattle.std.proofs.lemmas.List.{nil_from_length, length-append}
use Rattle.clru_list.specs.Cursors.{cursor_rest}
use Rattle.clru_list.proofs.CallerLemmas.{writes-start, writes-next_back, writes-end}
use Rattle.clru_uses.proofs.of_lists.halve_backwards.Goals as goal

pub loop-at-init : goal.loop-at-init
loop-at-init c = record { writes = writes-start (λ x. x / 2) _ _ c.iter_mut-cursor.ensures.start; same_list = refl }

pub loop-at-preserved : goal.loop-at-preserved
loop-at-preserved c =
    let w = c.loop-at.invariant in
    let last = c.next_entry_back-place.ensures.passes (c.next_entry_back-place.result.1.now / 2) in
    record { writes = writes-next_back (λ x. x / 2) _ _ _ _ w.writes last; same_list = w.same_list }

pub loop-at-smaller : goal.loop-at-smaller
loop-at-smaller c =
    let last = ap length (c.next_entry_back-place.ensures.passes (c.next_entry_back-place.result.1.now / 2)).rest in
    omega (arith, simp length-append at last)

pub returns : goal.returns
returns c =
    let w = c.loop-at.invariant in
    let name = sym (w.same_list ∙ c.iter_mut-cursor.ensures.same_list) in
    let none : cursor_rest c.loop-at.cursor ≡ [] = nil_from_length _ (omega (arith, c.len.ensures)) in
    let end = writes-end (λ x. x / 2) _ _ w.writes none in
    grind (arith, name, end)
