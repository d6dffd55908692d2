use Rattle.std.proofs.Common.{◌≡◌, length, vec_len, vec_capacity}
use Rattle.clru_runs.specs.Run.{Run}
use Rattle.clru_runs.proofs.run.perform_all.Given as goal

abbrev pub invariant-loop-call : goal.invariant-loop-call
invariant-loop-call g l = record {
  next : (goal.iterator-loop-call g).can_next l.call-iterator;
  ends : (goal.iterator-loop-call g).is_finite l.call-iterator;
  run : Run g.Q.Perform.step l.fn.cache l.yielded l.answers.items l.cache;
  answered : vec_len l.answers ≡ length l.yielded;
  same_capacity : vec_capacity l.answers ≡ length l.fn.calls.items;
}
