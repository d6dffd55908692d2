use Rattle.std.proofs.Common.{rules, ◌∙◌}
use Rattle.clru_model.proofs.Finding.{is_some-lookup_entry}
use Rattle.clru.proofs.Replaying.{lends_whether_held}
use Rattle.clru.proofs.replays.request.Goals as goal

pub returns-clause-hit : goal.returns-clause-hit
returns-clause-hit g c =
    let test = g.K.PartialEq.eq c.args.key in
    lends_whether_held _ _ _ _ (λ shown r put' called. search rules) (λ shown lent left modify' called. search rules) c.in-Ok.ensures.called
    ∙ is_some-lookup_entry test c.args.cache.now.entries
