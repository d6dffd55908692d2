use Rattle.std.proofs.Common.{◌+◌, take, drop, ap, ◌∙◌}
use Rattle.clru_linked_map.proofs.BucketLists.{link_written, buckets_stay}
use Rattle.clru_linked_map.proofs.hash_index.HashIndex.set_next.Goals as goal

pub returns : goal.returns
returns g c =
    let s = c.self.inside in let xs = s.words.numbers in let k = c.args.place in let n = c.args.number in
    let new = c.set.ensures.numbers in
    let firsts = ap (λ ws. take (s.mask + 1) ws) new ∙ buckets_stay (s.mask + 1) xs k n in
    let links = ap (λ ws. drop (s.mask + 1) ws) new ∙ link_written (s.mask + 1) xs k n in
    rw (← c.self.view_is) (λ i. record { firsts = firsts i; links = links i; bound = s.mask; tags = s.tags })
