use Rattle.std.proofs.Common.{ℕ, length, ap, arith}
use Rattle.std.proofs.lemmas.List.{length-replicate}
use Rattle.clru_linked_map.specs.LinkedMap.{hash_by}
use Rattle.clru_linked_map.proofs.Indexed.{indexed_none, free-replicate}
use Rattle.clru_linked_map.proofs.map.LinkedHashMap.clear.Goals as goal

pub invariant_of-self : goal.invariant_of-self
invariant_of-self g c =
    let hash = hash_by g.S.Hasher.Hasher.finish g.S.Hasher.Hasher.write g.S.BuildHasher.build_hasher g.K.Hash.hash_input in
    let x = c.self.inside.items in let list = c.clear.ensures.entries in let buckets = c.clear-2.ensures in let old = c.self.invariant in
    let firsts = ap (λ l. length l.firsts) buckets in let links = ap (λ l. length l.links) buckets in
    let n = length-replicate {A = ℕ} (length x.index.firsts) 0 in let m = length-replicate {A = ℕ} (length x.index.links) 0 in
    indexed_none hash _ (ap (λ l. l.entries) list) (λ h. free-replicate (length x.index.firsts) h _ (ap (λ l. l.firsts) buckets))
    (omega (arith, firsts, links, n, m, old.spread))
    (omega (arith, ap (λ l. l.places) list, links, m, old.linked)) (omega (arith, ap (λ l. l.places) list, ap (λ l. l.bound) buckets, old.named))
