use Rattle.std.proofs.Common.{rules, refl, ap, ◌∙◌}
use Rattle.clru.specs.Cache.{with_entries}
use Rattle.clru_runs.proofs.Retained.{passed_and_written}
use Rattle.clru_runs.proofs.perform.retain_mut.Goals as goal

pub returns : goal.returns
returns g c =
    let e = c.retain_mut.ensures in
    (refl, e.same ∙ ap (with_entries c.args.cache.now) (passed_and_written _ _ _ _ (λ k v b w f' t. search rules) _ _ e.kept))
