use Rattle.std.proofs.Common.{length}
use Rattle.clru_list.specs.Retains.{CalledAtItemMut, TakesItemMut}
use Rattle.clru_list.proofs.Retaining.{IsRetaining, from_place}
use Rattle.clru_list.proofs.list.FixedSizeList.retain_mut.Given as goal

abbrev pub invariant-loop-next : goal.invariant-loop-next
invariant-loop-next g l = IsRetaining (CalledAtItemMut g.F.FnMut) (TakesItemMut g.F.FnMut) l.fn.f l.fn.self l.f l.self l.next

abbrev pub decreases-loop-next : goal.decreases-loop-next
decreases-loop-next g l = length (from_place l.next l.self.entries)
