use Rattle.std.proofs.Common.{arith}
use Rattle.std.proofs.lemmas.List.{length_push}
use Rattle.clru_runs.proofs.Running.{Run-push}
use Rattle.clru_runs.proofs.run.perform_all.Goals as goal

pub loop-call-preserved : goal.loop-call-preserved
loop-call-preserved g c =
    let before = c.loop-call.invariant in let pushed = c.push_reserved.ensures in
    record {
      next = tt;
      ends = tt;
      run = rw pushed.items (Run-push g.Q.Perform.step _ c.loop-call.yielded _ c.in-Some.call c.perform.result before.run c.perform.ensures);
      answered = omega (arith, pushed.len, before.answered, length_push c.loop-call.yielded c.in-Some.call);
      same_capacity = omega (arith, pushed.capacity, before.same_capacity);
    }
