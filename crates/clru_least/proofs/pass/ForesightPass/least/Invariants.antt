use Rattle.std.proofs.Common.{◌≡◌, ◌≤◌, List, length, reverse}
use Rattle.std.specs.Int.NonZero.{non_zero_usize_get}
use Rattle.clru_least.specs.Passes.{IsForesight}
use Rattle.clru_least.specs.Queue.{IsQueue, queued}
use Rattle.clru_least.proofs.Held.{IsOnTheWay}
use Rattle.clru_least.proofs.pass.ForesightPass.least.Given as goal

abbrev pub invariant-loop-position : goal.invariant-loop-position
invariant-loop-position g l = record {
  way : (past : List g.row.K.Denot) → IsForesight g.K.PartialEq.eq past l.self
      → IsOnTheWay g.K.PartialEq.eq (non_zero_usize_get l.room) l.position (reverse past) (queued l.next_uses) l.held l.misses;
  sound : IsQueue l.next_uses;
  end : l.next_uses.end ≡ l.count;
  many : l.count ≡ length l.self;
  few : l.misses ≤ l.position;
  few_never_again : l.next_uses.never_again ≤ l.position;
}
