use Rattle.std.proofs.Common.{◌≡◌, ◌/◌, length}
use Rattle.clru_list.specs.Cursors.{cursor_name, cursor_rest}
use Rattle.clru_list.proofs.CallerLemmas.{Writes}
use Rattle.clru_uses.proofs.of_lists.halve.Given as goal

abbrev pub invariant-loop-item : goal.invariant-loop-item
invariant-loop-item g l = record {
  writes : Writes (λ x. x / 2) l.fn.list l.cursor;
  same_list : cursor_name l.cursor ≡ cursor_name l.initial.cursor;
}

abbrev pub decreases-loop-item : goal.decreases-loop-item
decreases-loop-item g l = length (cursor_rest l.cursor)
