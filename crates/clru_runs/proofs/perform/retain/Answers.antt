use Rattle.std.proofs.Common.{rules, refl, ap, ◌∙◌}
use Rattle.std.proofs.lemmas.Map.Made.{filter_same_pairs}
use Rattle.clru.specs.Cache.{with_entries}
use Rattle.clru_runs.proofs.perform.retain.Goals as goal

pub returns : goal.returns
returns g c =
    let e = c.retain.ensures in
    (refl, e.same ∙ ap (with_entries c.args.cache.now) (filter_same_pairs _ _ _ (λ k v b w f' t. search rules) _ _ e.kept))
