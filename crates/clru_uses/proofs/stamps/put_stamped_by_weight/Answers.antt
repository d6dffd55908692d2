use Rattle.std.proofs.Common.{nat_eq}
use Rattle.std.proofs.lemmas.List.Elements.{All-same}
use Rattle.clru_uses.specs.Stamps.{HasTrueStamp}
use Rattle.clru.proofs.CallerLemmas.{All-weighted_put}
use Rattle.clru_uses.proofs.stamps.put_stamped_by_weight.Goals as goal

pub returns : goal.returns
returns c =
    let cache = c.args.cache.now in
    All-same HasTrueStamp _ _ c.in_ok-put_with_weight.ensures.entries
    (All-weighted_put HasTrueStamp nat_eq cache.capacity c.args.page c.with_stamp.result cache.entries c.requires (λ _ _. 0) c.with_stamp.ensures)
