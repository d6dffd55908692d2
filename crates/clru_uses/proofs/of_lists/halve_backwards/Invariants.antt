use Rattle.std.proofs.Common.{◌≡◌, ◌/◌, length}
use Rattle.clru_list.specs.Cursors.{cursor_name, cursor_rest}
use Rattle.clru_list.proofs.CallerLemmas.{Writes}
use Rattle.clru_uses.proofs.of_lists.halve_backwards.Given as goal

abbrev pub invariant-loop-at : goal.invariant-loop-at
invariant-loop-at l = record {
  writes : Writes (λ x. x / 2) l.fn.list l.cursor;
  same_list : cursor_name l.cursor ≡ cursor_name l.initial.cursor;
}

abbrev pub decreases-loop-at : goal.decreases-loop-at
decreases-loop-at l = length (cursor_rest l.cursor)
