-- A place put to the end of the chain of its key's bucket, and one taken out of its chain, step by step.
use Rattle.std.proofs.Common.{◌≡◌, ℕ, ◌<◌, ◌≤◌, Option, Some, None, length, set, refl, sym, ap, ◌∙◌, subst, arith, inl, inr}
use Rattle.std.proofs.lemmas.Bool.{cases_eq}
use mathlib.Core.Path.{fun_ext}
use Rattle.clru_list.specs.Places.{nowhere, put}
use Rattle.clru_list.proofs.Puts.{put-here, put-other}
use Rattle.clru_linked_map.specs.Chained.{steps_of, of_bucket, IsCut, IsCutBehind, IsLinked, IsRelinked}
use Rattle.clru_linked_map.specs.BucketList.{BucketList, bucket_list, place_named, tag_by}
use Rattle.clru_linked_map.specs.Buckets.{bucket_by, number_in, place_in, steps_in, numbers_along, low_of, IsChainedIn, IsRewritten, KeepsSizes}
use Rattle.clru_linked_map.proofs.Chaining.{single, steps_off, met_key}
use Rattle.clru_linked_map.proofs.Cuts.{passed_met, cut_passed, next_not_passed}
use Rattle.clru_linked_map.proofs.Hints.{relinked_places, link_stays, met_before, one_before}
use Rattle.clru_linked_map.proofs.Indexed.{sized_stay, linked_apart}
use Rattle.clru_linked_map.proofs.Linking.{steps_again, linked_again, linked_insert, linked_remove}
use Rattle.clru_linked_map.proofs.Same.{size_trans}

module _ {K : Type 0} (hash : K → ℕ) (key : ℕ → Option K) (p : ℕ) where
  -- the link of a place in no chain is cleared
  pub chained_cleared : (a b : BucketList) → p < length a.links → IsChainedIn hash a (put key p None)
      → b ≡ bucket_list a.firsts (set a.links p 0) a.bound a.tags → IsChainedIn hash b (put key p None)
  chained_cleared a b within chained cleared =
      subst (λ h. IsChainedIn hash h (put key p None)) (sym cleared) (linked_apart a.links p 0 key within chained)

  -- the number that leads to the last place of a chain says that it is linked on
  module _ (b c : BucketList) (bucket last behind : ℕ) (chained : IsChainedIn hash b (put key p None))
      (leads : (last ≡ nowhere → ⊥) → steps_in b bucket behind ≡ last)
      (cut : IsCutBehind (steps_in b bucket) (of_bucket (λ k. bucket_by (length b.firsts) (hash k)) bucket (put key p None)) behind last)
      (none : last ≡ nowhere → c ≡ b) (written : (last ≡ nowhere → ⊥) → IsRewritten b c bucket behind)
      (noted : (last ≡ nowhere → ⊥) → low_of b < numbers_along c bucket behind) where
    chained_noted : IsLinked hash (tag_by b.tags) (low_of b) last (λ k. bucket_by (length b.firsts) (hash k)) (place_named b.bound)
        (number_in c.firsts) (number_in c.links) (put key p None)
    chained_noted = elim (cases_eq last nowhere) [
      | inl e ↦
          subst (λ (z : ℕ). IsLinked hash (tag_by b.tags) (low_of b) z (λ k. bucket_by (length b.firsts) (hash k)) (place_named b.bound)
          (number_in c.firsts) (number_in c.links) (put key p None)) (sym e)
          (subst (λ (h : BucketList). IsLinked hash (tag_by b.tags) (low_of b) nowhere (λ k. bucket_by (length b.firsts) (hash k)) (place_named b.bound)
          (number_in h.firsts) (number_in h.links) (put key p None)) (sym (none e)) chained)
      | inr o ↦
          let r = written o in
          let is : numbers_along c bucket behind ≡ r.number =
          r.written.here behind ∙ put-here (numbers_along b bucket) behind r.number behind refl in
          linked_again chained bucket behind r.number (number_in c.firsts) (number_in c.links) (passed_met cut) r.written r.place r.tag
          (λ more z. o (sym (leads o) ∙ z)) (λ short. let more = noted o in absurd (omega (arith, more, is, short)))
          last (λ more end. leads o) (λ g q met more now end z. absurd ((chained.hints g q met).leads more z))
    ]

    steps_noted : (q : ℕ) → steps_of (place_in b.bound c.firsts) (place_in b.bound c.links) bucket q ≡ steps_in b bucket q
    steps_noted q = elim (cases_eq last nowhere) [
      | inl e ↦ ap (λ (h : BucketList). steps_of (place_in b.bound h.firsts) (place_in b.bound h.links) bucket q) (none e)
      | inr o ↦ steps_again (place_named b.bound) (written o).written (written o).place q
    ]

    number_noted : (p ≡ nowhere → ⊥) → number_in c.links p ≡ number_in b.links p
    number_noted off = elim (cases_eq last nowhere) [
      | inl e ↦ ap (λ (h : BucketList). number_in h.links p) (none e)
      | inr o ↦ link_stays (written o).written p off (λ e.
          let home : K → ℕ = λ k. bucket_by (length b.firsts) (hash k) in
          let (k, is, _) = met_key home bucket (put key p None) p off (subst (λ x. 0 < of_bucket home bucket (put key p None) x) e (passed_met cut)) in
          let wrong : None ≡ Some k = sym (put-here key p None p refl) ∙ is in cc)
    ]

    -- and the place is put behind it
    pub chained_behind : {d : BucketList} {n : ℕ} {k : K} → (p ≡ nowhere → ⊥) → key p ≡ Some k → bucket_by (length b.firsts) (hash k) ≡ bucket
        → place_named b.bound n ≡ p → tag_by b.tags n ≡ tag_by b.tags (hash k) → (low_of b < n → ⊥) → number_in b.links p ≡ 0
        → steps_in b bucket last ≡ nowhere → KeepsSizes b c
        → IsRelinked (number_in c.firsts) (number_in c.links) bucket last n (number_in d.firsts) (number_in d.links) → KeepsSizes c d
        → IsChainedIn hash d key
    chained_behind {d} {n} {k} off held is named tagged last_named cleared ends size linked size' =
        let home : K → ℕ = λ k. bucket_by (length b.firsts) (hash k) in
        let zero = number_noted off ∙ cleared in
        let at_p : place_in b.bound c.links p ≡ nowhere = ap (λ x. place_named b.bound x) zero in
        let sizes = size_trans size size' in
        sized_stay hash sizes.buckets sizes.bound sizes.tags
        (linked_insert chained_noted bucket refl
        (subst (λ f. IsCut f (of_bucket home bucket (put key p None)) last) (sym (fun_ext steps_noted)) cut.cut)
        p n (number_in d.firsts) (number_in d.links) key k off (put-here key p None p refl) linked named tagged
        (λ short. at_p) (λ more end. last_named more) (at_p ∙ sym (steps_noted last ∙ ends)) (λ e. sym e ∙ at_p)
        (record {
          leads = λ more z. omega (arith, more, zero);
          on = λ more end. absurd (omega (arith, more, zero));
          tagged = λ j o h. absurd (o at_p);
          ends = λ j o h short. absurd (o at_p);
        })
        (λ g r met e o.
        let (same, here) = one_before chained_noted bucket g behind r last o (passed_met cut) met (steps_noted behind ∙ leads o) e in
        subst (λ x. low_of b < numbers_along c x r) (sym same) (subst (λ x. low_of b < numbers_along c bucket x) here (noted o)))
        held is (λ q d. sym (put-other key p None q (λ e. d (sym e)))))

  -- the place is taken out: the place before it gets its number, and the number that leads there is written anew
  pub chained_taken : {a b c : BucketList} {bucket at behind n : ℕ} → (p ≡ nowhere → ⊥) → IsChainedIn hash a key
      → steps_in a bucket at ≡ p → ((at ≡ nowhere → ⊥) → steps_in a bucket behind ≡ at)
      → ((met : ℕ → ℕ) → IsCut (steps_in a bucket) met nowhere → IsCutBehind (steps_in a bucket) met behind at)
      → n ≡ number_in a.links p → IsRelinked (number_in a.firsts) (number_in a.links) bucket at n (number_in b.firsts) (number_in b.links)
      → KeepsSizes a b → (at ≡ nowhere → c ≡ b) → ((at ≡ nowhere → ⊥) → IsRewritten b c bucket behind)
      → ((at ≡ nowhere → ⊥) → numbers_along c bucket behind ≤ low_of b → place_named a.bound n ≡ nowhere)
      → ((at ≡ nowhere → ⊥) → low_of b < numbers_along c bucket behind → place_named a.bound n ≡ nowhere → ⊥) → KeepsSizes b c
      → IsChainedIn hash c (put key p None)
  chained_taken {a} {b} {c} {bucket} {at} {behind} {n} off chained leads there cut next linked size none written ends led size' =
      let home : K → ℕ = λ k. bucket_by (length a.firsts) (hash k) in
      let place = place_named a.bound in
      let key' : ℕ → Option K = put key p None in
      let here = cut _ (chained.chains.chain bucket) in
      let apart = next_not_passed here.cut p (single home bucket key p) leads off in
      let linked' = subst (λ x. IsRelinked (number_in a.firsts) (number_in a.links) bucket at x (number_in b.firsts) (number_in b.links)) next linked in
      let without = linked_remove chained bucket refl here.cut p (number_in b.firsts) (number_in b.links) key' off leads linked'
      (put-here key p None p refl) (λ q d. put-other key p None q (λ e. d (sym e))) in
      let rel = relinked_places place linked in
      let sizes = size_trans size size' in
      sized_stay hash sizes.buckets sizes.bound sizes.tags (elim (cases_eq at nowhere) [
        | inl e ↦
            subst (λ (z : ℕ). IsLinked hash (tag_by a.tags) (low_of a) z home place (number_in c.firsts) (number_in c.links) key') e
            (subst (λ (h : BucketList). IsLinked hash (tag_by a.tags) (low_of a) at home place (number_in h.firsts) (number_in h.links) key') (sym (none e)) without)
        | inr o ↦
            let r = written o in
            let low : low_of b ≡ low_of a = omega (arith, size.bound, size.tags) in
            let is : numbers_along c bucket behind ≡ r.number =
            r.written.here behind ∙ put-here (numbers_along b bucket) behind r.number behind refl in
            let other : at ≡ behind → ⊥ = λ e. apart at (cut_passed here.cut) (sym (there o) ∙ ap (steps_in a bucket) (sym e) ∙ leads) in
            let leads' : steps_of (place_in a.bound b.firsts) (place_in a.bound b.links) bucket behind ≡ at =
            rel.here behind ∙ put-other (steps_in a bucket) at (place n) behind other ∙ there o in
            let link' : place_in a.bound b.links at ≡ place n =
            sym (steps_off (place_in a.bound b.firsts) (place_in a.bound b.links) bucket at o) ∙ rel.here at ∙ put-here (steps_in a bucket) at (place n) at refl in
            let met = met_before home bucket behind key' key (sym (put-other key p None behind (λ e. apart behind here.passed (sym e)))) (passed_met here) in
            linked_again without bucket behind r.number (number_in c.firsts) (number_in c.links) met r.written
            (subst (λ m. place_named m r.number ≡ steps_of (place_in m b.firsts) (place_in m b.links) bucket behind) size.bound r.place)
            (subst (λ t. tag_by t r.number ≡ tag_by t (numbers_along b bucket behind)) size.tags r.tag)
            (λ more z. o (sym leads' ∙ z))
            (λ short. ap (place_in a.bound b.links) leads' ∙ link' ∙ ends o (omega (arith, short, is, low)))
            nowhere
            (λ more end. absurd (led o (omega (arith, more, is, low)) (sym link' ∙ sym (ap (place_in a.bound b.links) leads') ∙ end)))
            (λ g q there more now end e.
            let (same, here) = one_before without bucket g behind q at o met there leads' e in
            let new = subst (λ x. low_of a < numbers_along c bucket x) (sym here) (subst (λ x. low_of a < numbers_along c x q) same now) in
            absurd (led o (omega (arith, new, low)) (sym link' ∙ ap (place_in a.bound b.links) (sym e) ∙ end)))
      ])
