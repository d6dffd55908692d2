use Rattle.std.proofs.Common.{◌≡◌, Some, length, sym, ap, ◌∙◌, subst}
use Rattle.clru_list.specs.PlaceList.{item_at}
use Rattle.clru_linked_map.specs.Buckets.{bucket_by}
use Rattle.clru_linked_map.proofs.Placed.{none_at_start}
use Rattle.clru_linked_map.proofs.indexed_list.IndexedList.home.Goals as goal

pub returns-clause-home : goal.returns-clause-home
returns-clause-home g c =
    let x = c.args.self.now in let es = x.list.entries in
    let held : item_at c.args.place es ≡ Some c.item-item.result.now = c.item-item.ensures.value in
    let is = c.bucket_of.ensures.bucket in
    record {
      item = c.item-item.result.now;
      held = held;
      home = sym (is ∙ ap (λ n. bucket_by (length x.index.firsts) n) c.hash.ensures);
      off = λ e. none_at_start x.list c.item-item.ensures.valid (c.item-item.result.now, subst (λ q. item_at q es ≡ Some c.item-item.result.now) e held);
      within = c.bucket_of.ensures.within;
    }
