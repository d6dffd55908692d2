use Rattle.std.proofs.Common.{length, ap, arith}
use Rattle.clru_linked_map.proofs.indexed_list.IndexedList.make_index.Goals as goal

pub returns-clause-indexed : goal.returns-clause-indexed
returns-clause-indexed g c =
    let old = c.requires.indexed in let new = c.in_ok-self.ensures in let list = c.relink.ensures.list in let same = c.relink.ensures.same in
    record {
      chained = c.relink.ensures.chained;
      held = omega (arith, ap (λ l. length l.entries) list, ap (λ l. l.places) list, old.held);
      spread = omega (arith, same.index.buckets, same.index.links, new.spread);
      linked = omega (arith, ap (λ l. l.places) list, same.index.links, new.linked, c.if-places-link_count.false, c.link_count.ensures.count, old.linked);
      named = omega (
        arith,
        ap (λ l. l.places) list,
        same.index.bound,
        new.linked,
        new.named,
        c.if-places-link_count.false,
        c.link_count.ensures.count,
        old.linked,
      );
    }
