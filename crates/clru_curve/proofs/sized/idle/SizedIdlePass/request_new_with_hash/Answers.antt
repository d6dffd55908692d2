use Rattle.std.specs.Map.{keys_of}
use Rattle.clru_curve.proofs.IdlePassing.{unseen}
use Rattle.clru_curve.proofs.sized.idle.SizedIdlePass.request_new_with_hash.Goals as goal

pub request_new-requires-clause-new : goal.request_new-requires-clause-new
request_new-requires-clause-new g c =
    let new = c.requires.new in unseen g.K.PartialEq.eq (keys_of new.2) c.args.self.now.seen new.3.ranked.known c.args.key new.4
