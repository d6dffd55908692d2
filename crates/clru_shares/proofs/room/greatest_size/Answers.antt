use Rattle.std.proofs.Common.{arith}
use Rattle.clru_shares.proofs.RoomLemmas.{size_by_keys, size_by_size}
use Rattle.clru_shares.proofs.room.greatest_size.Goals as goal

pub returns-in-ByKeys : goal.returns-in-ByKeys
returns-in-ByKeys g c sizes limit requests of = size_by_keys limit requests c.args.curve.now sizes c.in-ByKeys.field-0 c.in-ByKeys.is of

pub returns-in-BySize : goal.returns-in-BySize
returns-in-BySize g c sizes limit requests of =
    let curve = c.in-BySize.curve in
    size_by_size limit requests c.args.curve.now sizes curve c.saturating_add.result c.in-BySize.is (omega (arith, c.distinct_size-size.ensures))
    (omega (arith, c.saturating_add.ensures, c.greatest_weight.ensures)) of
