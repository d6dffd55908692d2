use Rattle.std.proofs.Common.{◌+◌, ◌<◌, length, take, drop, ap, ◌∙◌, arith}
use Rattle.std.proofs.lemmas.List.{length-take}
use Rattle.clru_linked_map.proofs.BucketLists.{bucket_written, links_stay}
use Rattle.clru_linked_map.proofs.hash_index.HashIndex.set_first.Goals as goal

pub returns : goal.returns
returns g c =
    let s = c.self.inside in let xs = s.words.numbers in let k = c.args.bucket in let n = c.args.number in
    let within : k < s.mask + 1 =
    omega (arith, c.requires.bucket, ap (λ l. length l.firsts) c.self.view_is, length-take (s.mask + 1) xs) in
    let new = c.set.ensures.numbers in
    let firsts = ap (λ ws. take (s.mask + 1) ws) new ∙ bucket_written (s.mask + 1) xs k n within in
    let links = ap (λ ws. drop (s.mask + 1) ws) new ∙ links_stay (s.mask + 1) xs k n within in
    rw (← c.self.view_is) (λ i. record { firsts = firsts i; links = links i; bound = s.mask; tags = s.tags })
