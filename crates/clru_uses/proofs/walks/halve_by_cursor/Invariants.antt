use Rattle.std.proofs.Common.{◌≡◌, ◌/◌, length}
use Rattle.clru.specs.Walks.{cursor_name, cursor_rest}
use Rattle.clru.proofs.CallerWalks.{Writes}
use Rattle.clru_uses.proofs.walks.halve_by_cursor.Given as goal

abbrev pub invariant-loop-size : goal.invariant-loop-size
invariant-loop-size l = record {
  writes : Writes (λ x. x / 2) l.fn.sizes l.cursor;
  same_cache : cursor_name l.cursor ≡ cursor_name l.initial.cursor;
}

abbrev pub decreases-loop-size : goal.decreases-loop-size
decreases-loop-size l = length (cursor_rest l.cursor)
