use Rattle.std.proofs.Common.{◌≡◌, ◌≤◌, length, vec_len, vec_capacity}
use Rattle.std.specs.Int.NonZero.{non_zero_usize_get}
use Rattle.clru.proofs.Replaying.{Replays}
use Rattle.clru.proofs.replays.replay.Given as goal

abbrev pub invariant-loop-key : goal.invariant-loop-key
invariant-loop-key g l = record {
  next : (goal.iterator-loop-key g).can_next l.key-iterator;
  ends : (goal.iterator-loop-key g).is_finite l.key-iterator;
  replays : Replays g.K.PartialEq.eq (non_zero_usize_get l.fn.capacity) (length l.fn.keys.items) l.yielded l.marks.items l.misses l.cache;
  few : l.misses ≤ length l.yielded;
  marked : vec_len l.marks ≡ length l.yielded;
  same_capacity : vec_capacity l.marks ≡ length l.fn.keys.items;
}
