use Rattle.std.proofs.Common.{◌≡◌, ◌/◌, [], refl, sym, ap, ◌∙◌, length, arith}
use Rattle.std.proofs.lemmas.List.{nil_from_length, length-append}
use Rattle.clru_list.specs.Cursors.{cursor_rest}
use Rattle.clru_list.proofs.CallerLemmas.{writes-start, writes-next, writes-next_back, writes-end}
use Rattle.clru_uses.proofs.of_lists.halve_by_both_ends.Goals as goal

pub loop-cursor-init : goal.loop-cursor-init
loop-cursor-init c = record { writes = writes-start (λ x. x / 2) _ _ c.iter_mut-cursor.ensures.start; same_list = refl }

pub next_back-requires : goal.next_back-requires
next_back-requires c = (c.next_entry-first.ensures.passes (c.next_entry-first.result.1.now / 2)).can

pub loop-cursor-preserved-in-Some : goal.loop-cursor-preserved-in-Some
loop-cursor-preserved-in-Some c =
    let w = c.loop-cursor.invariant in
    let first = c.next_entry-first.ensures.passes (c.next_entry-first.result.1.now / 2) in
    let last = c.in-Some.ensures.passes (c.in-Some.last.now / 2) in
    record { writes = writes-next_back (λ x. x / 2) _ _ _ _ (writes-next (λ x. x / 2) _ _ _ _ w.writes first) last; same_list = w.same_list }

pub loop-cursor-preserved : goal.loop-cursor-preserved
loop-cursor-preserved c =
    let w = c.loop-cursor.invariant in
    let first = c.next_entry-first.ensures.passes (c.next_entry-first.result.1.now / 2) in
    record { writes = writes-next (λ x. x / 2) _ _ _ _ w.writes first; same_list = w.same_list }

pub loop-cursor-smaller-in-Some : goal.loop-cursor-smaller-in-Some
loop-cursor-smaller-in-Some c =
    let first = ap length (c.next_entry-first.ensures.passes (c.next_entry-first.result.1.now / 2)).rest in
    let last = ap length (c.in-Some.ensures.passes (c.in-Some.last.now / 2)).rest in
    omega (arith, simp length-append at last)

pub loop-cursor-smaller : goal.loop-cursor-smaller
loop-cursor-smaller c = let first = ap length (c.next_entry-first.ensures.passes (c.next_entry-first.result.1.now / 2)).rest in omega arith

pub returns : goal.returns
returns c =
    let w = c.loop-cursor.invariant in
    let name = sym (w.same_list ∙ c.iter_mut-cursor.ensures.same_list) in
    let none : cursor_rest c.loop-cursor.cursor ≡ [] = nil_from_length _ (omega (arith, c.len.ensures)) in
    let end = writes-end (λ x. x / 2) _ _ w.writes none in
    grind (arith, name, end)
