use Rattle.std.proofs.Common.{nat_eq}
use Rattle.std.proofs.lemmas.Bool.{eqb-true}
use Rattle.std.proofs.lemmas.List.Elements.{All-same}
use Rattle.std.specs.Cmp.{nat_eq_equiv}
use Rattle.clru_uses.specs.Stamps.{HasTrueStamp}
use Rattle.clru.proofs.CallerLemmas.{All-plain_put}
use Rattle.clru_uses.proofs.stamps.put_stamped.Goals as goal

pub returns : goal.returns
returns c =
    let page = c.args.page in
    let cache = c.args.cache.now in
    All-same HasTrueStamp _ _ c.in_ok-put.ensures.entries
    (All-plain_put HasTrueStamp nat_eq cache.capacity page c.with_stamp.result cache.entries c.requires nat_eq_equiv
    (λ k same. rw (← eqb-true page k same) c.with_stamp.ensures))
