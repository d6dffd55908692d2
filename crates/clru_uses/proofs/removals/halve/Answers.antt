use Rattle.std.proofs.Common.{rules}
use Rattle.std.proofs.lemmas.Map.Made.{map_same_pairs}
use Rattle.clru_uses.proofs.removals.halve.Goals as goal

pub returns : goal.returns
returns c = map_same_pairs _ _ _ (λ k v b w f' t. search rules) _ _ c.retain_mut.ensures.kept
