use Rattle.std.proofs.Common.{rules}
use Rattle.std.proofs.lemmas.Map.Made.{filter_same_pairs}
use Rattle.clru_uses.proofs.removals.keep_larger.Goals as goal

pub returns : goal.returns
returns c = filter_same_pairs _ _ _ (λ k v b w f' t. search rules) _ _ c.retain.ensures.kept
