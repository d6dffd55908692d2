use Rattle.std.proofs.Common.{rules, ◌≡◌, [], ◌∷◌, ◌++◌, ◌∙◌}
use Rattle.clru_model.specs.Entries.{plain_put}
use Rattle.clru_model.specs.Runs.{IsPut}
use Rattle.clru.proofs.CallerLemmas.{IsPut-plain, Runs-push}
use Rattle.clru_uses.proofs.runs.held_before_puts.Goals as goal

pub loop-key-preserved : goal.loop-key-preserved
loop-key-preserved g c =
    let eq = g.K.PartialEq.eq in let before = c.loop-key.invariant in
    let entries : c.put.new.self.entries ≡ plain_put eq c.loop-key.cache.capacity c.in-Some.key tt c.loop-key.cache.entries = search rules in
    let items : c.push.new.self.items ≡ c.loop-key.held.items ++ c.contains-before.result ∷ [] = search rules in
    let put = IsPut-plain eq g.met.K.Eq.laws c.loop-key.cache.capacity c.in-Some.key tt c.loop-key.cache.entries c.put.new.self.entries entries in
    record {
      next = tt;
      ends = tt;
      runs = Runs-push eq (IsPut eq c.args.cache.now.capacity) c.in-Some.key c.contains-before.result before.runs c.contains-before.ensures
          (rw before.capacity at put) items;
      capacity = c.put.ensures.places.capacity ∙ before.capacity;
    }
