use Rattle.std.specs.Int.NonZero.{non_zero_usize_get}
use Rattle.clru_text.proofs.SortedSets.{sorted_set}
use Rattle.clru_text.proofs.arguments.sort_and_dedup.Goals as goal

pub returns : goal.returns
returns g c = sorted_set non_zero_usize_get c.args.named.now.items c.sort_unstable.new.self.items c.dedup.new.self.items
    c.sort_unstable.ensures.permutation c.sort_unstable.ensures.sorted c.dedup.ensures.filtered
