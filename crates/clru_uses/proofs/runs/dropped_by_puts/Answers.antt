use Rattle.std.proofs.Common.{◌+◌, ap, ◌∙◌, arith}
use Rattle.std.proofs.lemmas.List.{length_push}
use Rattle.clru_model.specs.Runs.{IsPut}
use Rattle.clru.proofs.CallerLemmas.{DroppedRuns-push, IsPut-plain}
use Rattle.clru_uses.proofs.runs.dropped_by_puts.Goals as goal

pub loop-key-preserved : goal.loop-key-preserved
loop-key-preserved g c =
    let eq = g.K.PartialEq.eq in
    let before = c.loop-key.invariant in
    let key = c.in-Some.key in
    let k = c.args.cache.now.capacity in
    let put = c.in_ok-dropped.ensures in
    let entries = rw before.capacity at put.entries in
    record {
      next = tt;
      ends = tt;
      runs = DroppedRuns-push eq (IsPut eq k) key before.runs (IsPut-plain eq g.met.K.Eq.laws k key tt c.loop-key.cache.entries _ entries)
          (ap (λ n. c.loop-key.dropped + n) (rw before.capacity at put.dropped));
      fewer = omega (arith, before.fewer, put.few, length_push c.loop-key.yielded key);
      capacity = c.number_dropped.ensures.capacity ∙ before.capacity;
    }
