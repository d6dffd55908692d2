use Rattle.std.proofs.Common.{◌≡◌, ◌/◌, length}
use Rattle.clru.specs.Walks.{cursor_name, cursor_rest}
use Rattle.clru.proofs.CallerWalks.{Writes}
use Rattle.clru_uses.proofs.walks.halve_by_both_ends.Given as goal

abbrev pub invariant-loop-cursor : goal.invariant-loop-cursor
invariant-loop-cursor l = record {
  writes : Writes (λ x. x / 2) l.fn.sizes l.cursor;
  same_cache : cursor_name l.cursor ≡ cursor_name l.initial.cursor;
}

abbrev pub decreases-loop-cursor : goal.decreases-loop-cursor
decreases-loop-cursor l = length (cursor_rest l.cursor)
