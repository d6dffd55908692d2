use Rattle.std.proofs.Common.{◌≡◌, ◌+◌, ◌<◌, ◌∷◌, [], ℕ, suc, List, length, take, sym, ap, ◌∙◌, subst, arith}
use Rattle.std.proofs.lemmas.List.{length-map, length-take-le}
use Rattle.clru_linked_map.specs.BytesTable.{bytes_hash_by, entries_onto, hashes_of, string_at}
use Rattle.clru_linked_map.specs.Stacked.{IsStacked}
use Rattle.clru_linked_map.proofs.Strings.{hashes_more, length-entries}
use Rattle.clru_linked_map.proofs.bytes_table.BytesTable.grown_index.Goals as goal

pub loop-place-preserved : goal.loop-place-preserved
loop-place-preserved g c =
    let t = c.args.self.now in let p = c.loop-place.place in let i = c.loop-place.invariant in let links = c.link_place.ensures in
    let hash = bytes_hash_by g.S.Hasher.Hasher.finish g.S.Hasher.Hasher.write g.S.BuildHasher.build_hasher t.hash_builder in
    let b = t.buffer.items in let is = t.held.items in let before = hashes_of hash (entries_onto b 0 (take p is) []) in
    let within : p < length is = omega (arith, t.held.ok.0) in
    let long : length before ≡ p =
    length-map (entries_onto b 0 (take p is) []) (λ e. hash e.0) ∙ length-entries b (take p is) ∙ length-take-le p is (omega (arith, within)) in
    let hashed : c.hash-hash.result ≡ hash (string_at b 0 is p) = c.hash-hash.ensures ∙ ap hash c.bytes_at.ensures in
    let next : suc p ≡ p + 1 = omega arith in
    record {
      stacked = subst (λ (q : ℕ). IsStacked c.link_place.new.index (hashes_of hash (entries_onto b 0 (take q is) []))) next
          (subst (λ (hs : List ℕ). IsStacked c.link_place.new.index hs) (ap (λ n. n ∷ before) hashed ∙ sym (hashes_more hash b 0 is p [] within))
          (links.stacked before long i.stacked));
      linked = omega (arith, i.linked, links.same.links);
      named = omega (arith, i.named, links.same.links, links.same.bound);
    }
