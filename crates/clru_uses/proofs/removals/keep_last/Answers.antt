use Rattle.std.proofs.Common.{refl, ap, ◌∙◌}
use Rattle.clru.proofs.CallerLemmas.{fit-weightless}
use Rattle.clru_uses.proofs.removals.keep_last.Goals as goal

pub returns-clause-entries : goal.returns-clause-entries
returns-clause-entries c = ap (λ n. n.entries) c.resize.ensures ∙ fit-weightless (λ k v. 0) (λ k v. refl) 1 c.args.sizes.now.entries
