use Rattle.std.proofs.Common.{◌≡◌, Some, length, sym, ap, ◌∙◌, subst}
use Rattle.clru_list.specs.PlaceList.{item_at}
use Rattle.clru_linked_map.specs.Buckets.{bucket_by}
use Rattle.clru_linked_map.specs.IndexedList.{map_of}
use Rattle.clru_linked_map.specs.LinkedMap.{linked_map, pairs_of, with_entries}
use Rattle.clru_linked_map.proofs.Indexed.{same_hash}
use Rattle.clru_linked_map.proofs.Placed.{none_at_start}
use Rattle.clru_linked_map.proofs.PlaceEnds.{some_live}
use Rattle.clru_linked_map.proofs.PlacedPairs.{found_item, none_removed}
use Rattle.clru_linked_map.proofs.map.LinkedHashMap.take.Goals as goal

pub returns-in_err-place-clause-entries : goal.returns-in_err-place-clause-entries
returns-in_err-place-clause-entries g c =
    let x = c.self.inside.items in
    rw (← c.self.view_is) (ap (λ l. with_entries (map_of x) l)
    (sym (none_removed g.Q.Equivalent.equivalent c.args.key (pairs_of x.list.entries) c.in_err-place.ensures.absent)))

pub remove-requires-clause-home : goal.remove-requires-clause-home
remove-requires-clause-home g c =
    let x = c.self.inside.items in let es = x.list.entries in let p = c.in_ok-place.place in
    let at = c.in_ok-place.ensures.found in
    let is = c.bucket_of-bucket.ensures.bucket in
    let live = some_live p es (at.item, at.held) in
    let hashed = rw (← c.self.view_is) at c.requires.hash in
    record {
      item = at.item;
      held = at.held;
      home = sym (is ∙ ap (λ n. bucket_by (length x.index.firsts) n) (hashed ∙ same_hash g.S.Hasher.Hasher.finish g.S.Hasher.Hasher.write
          g.S.BuildHasher.build_hasher g.Q.Hash.hash_input g.K.Hash.hash_input x.hash_builder (g.met.Q.Equivalent.respects_hash c.args.key at.item.0 at.same)));
      off = λ e. none_at_start x.list c.find.ensures.valid (at.item, subst (λ q. item_at q es ≡ Some at.item) e at.held);
      within = c.bucket_of-bucket.ensures.within;
    }

pub returns-clause-pair : goal.returns-clause-pair
returns-clause-pair g c =
    let distinct = rw (← c.self.view_is) at c.requires.distinct in
    let f = found_item g.Q.Equivalent.equivalent c.args.key g.met.K.Eq.laws (g.met.Q.Equivalent.respects_eq c.args.key) distinct c.in_ok-place.ensures.found _ c.remove.ensures.pair in
    rw (← c.self.view_is) (sym f.entry)

pub returns-clause-entries : goal.returns-clause-entries
returns-clause-entries g c =
    let r = c.remove.ensures in let distinct = rw (← c.self.view_is) at c.requires.distinct in
    let f = found_item g.Q.Equivalent.equivalent c.args.key g.met.K.Eq.laws (g.met.Q.Equivalent.respects_eq c.args.key) distinct c.in_ok-place.ensures.found _ c.remove.ensures.pair in
    let pairs = ap (λ l. pairs_of l) r.entries ∙ sym f.removed in
    rw (← c.self.view_is) (λ j. linked_map (pairs j) (r.same.capacity j) (r.same.places j) (r.same.builder j))
