use Rattle.std.proofs.Common.{ℕ, ap, ◌∙◌}
use Rattle.std.specs.List.{slice_get}
use Rattle.std.specs.Option.{option_map}
use Rattle.clru.proofs.CallerLemmas.{key-written}
use Rattle.clru_uses.proofs.lends.correct_latest.Goals as goal

pub returns-clause-page : goal.returns-clause-page
returns-clause-page c =
    let e = c.in_ok-latest.latest in let is = c.in_ok-latest.ensures.entry in
    c.key.ensures ∙ key-written e c.args.size
    ∙ ap (λ i. option_map (λ (p : ℕ × ℕ). p.0) (slice_get e.cache.now.entries i)) is.at
    ∙ ap (λ o. option_map (λ (p : ℕ × ℕ). p.0) (slice_get o.entries 0)) is.cache
