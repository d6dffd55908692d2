use Rattle.std.proofs.Common.{◌≡◌, ◌≤◌, length, take, vec_len, vec_capacity}
use Rattle.std.specs.Int.NonZero.{non_zero_usize_get}
use Rattle.clru.proofs.Replaying.{Replays}
use Rattle.clru.proofs.replays.slice.replay_slice.Given as goal

abbrev pub invariant-loop-key : goal.invariant-loop-key
invariant-loop-key g l = record {
  replays : Replays g.K.PartialEq.eq (non_zero_usize_get l.fn.capacity) (length l.keys) (take l.key-index l.keys) l.marks.items l.misses l.cache;
  few : l.misses ≤ l.key-index;
  marked : vec_len l.marks ≡ l.key-index;
  same_capacity : vec_capacity l.marks ≡ length l.keys;
}
