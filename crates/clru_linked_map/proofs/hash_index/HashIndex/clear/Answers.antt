use Rattle.std.proofs.Common.{◌+◌, take, drop, ap, ◌∙◌}
use Rattle.clru_linked_map.proofs.BucketLists.{buckets_cleared, links_cleared}
use Rattle.clru_linked_map.proofs.hash_index.HashIndex.clear.Goals as goal

pub returns : goal.returns
returns g c =
    let s = c.self.inside in let xs = s.words.numbers in let new = c.clear.ensures.numbers in
    let firsts = ap (λ ws. take (s.mask + 1) ws) new ∙ buckets_cleared (s.mask + 1) xs in
    let links = ap (λ ws. drop (s.mask + 1) ws) new ∙ links_cleared (s.mask + 1) xs in
    rw (← c.self.view_is) (λ i. record { firsts = firsts i; links = links i; bound = s.mask; tags = s.tags })
