-- Chains that grow at their front: where a number leads, and a place that comes in front.
use Rattle.std.proofs.Common.{◌≡◌, ℕ, ◌+◌, ◌<◌, ◌≤◌, List, [], ◌∷◌, ◌++◌, length, map, set, refl, sym, ap, subst, arith, inl, inr}
use Rattle.std.proofs.lemmas.Bool.{cases_eq}
use Rattle.std.proofs.lemmas.List.{get_or-set_same, get_or-set_other, length-set}
use Rattle.clru_list.specs.Places.{nowhere}
use Rattle.clru_linked_map.specs.BucketList.{BucketList, bucket_list, place_named, tag_by}
use Rattle.clru_linked_map.specs.Buckets.{bucket_by, number_in}
use Rattle.clru_linked_map.specs.Stacked.{AreLinked, HasNone, IsStacked, LeadsTo, Names}

module _ (size bound tags : ℕ) where
  -- a number that names no place is low, and no place has the bucket
  pub led_nowhere : (h n : ℕ) (hashes : List ℕ) → LeadsTo size bound tags h n hashes → length hashes ≤ nowhere → place_named bound n ≡ nowhere
      → (n ≤ bound + tags) × HasNone size h hashes
  led_nowhere h n [] leads below none = (leads.last, tt)
  led_nowhere h n (hash ∷ hashes) leads below none = elim (cases_eq (bucket_by size hash) h) [
    | inl is ↦ let here = (leads.0 is).place in absurd (omega (arith, here, none, below))
    | inr other ↦ let rest = led_nowhere h n hashes (leads.1 other) (omega (arith, below)) none in (rest.0, (other, rest.1))
  ]

  -- the links of earlier places stay
  links_stay : (links : List ℕ) (p n : ℕ) (hashes : List ℕ) → length hashes ≤ p → AreLinked size bound tags links hashes
      → AreLinked size bound tags (set links p n) hashes
  links_stay links p n [] below linked = tt
  links_stay links p n (hash ∷ hashes) below linked =
      let other : length hashes ≡ p → ⊥ = λ e. omega (arith, e, below) in (
        subst (λ (k : ℕ). LeadsTo size bound tags (bucket_by size hash) k hashes) (sym (get_or-set_other links p (length hashes) n 0 other)) linked.0,
        links_stay links p n hashes (omega (arith, below)) linked.1,
      )

  -- a place comes in front
  firsts_more : (firsts : List ℕ) (hash n : ℕ) (hashes : List ℕ) → ((h : ℕ) → LeadsTo size bound tags h (number_in firsts h) hashes)
      → bucket_by size hash < length firsts → Names size bound tags (bucket_by size hash) hash hashes n
      → (h : ℕ) → LeadsTo size bound tags h (number_in (set firsts (bucket_by size hash) n) h) (hash ∷ hashes)
  firsts_more firsts hash n hashes leads within names h =
      let b = bucket_by size hash in (
        λ is. subst (λ (k : ℕ). Names size bound tags k hash hashes (number_in (set firsts b n) k)) is
            (rw (get_or-set_same firsts b n 0 within) names),
        λ other. subst (λ (k : ℕ). LeadsTo size bound tags h k hashes) (sym (get_or-set_other firsts b h n 0 (λ e. other (sym e)))) (leads h),
      )

  -- where a number leads to, among entries with these hashes
  pub record Led {X : Type 0} (hash : X → ℕ) (h n : ℕ) (es : List X) : Type 0 where
    pub later : List X
    pub entry : X
    pub earlier : List X
    pub split : es ≡ later ++ entry ∷ earlier
    pub apart : HasNone size h (map hash later)
    pub home : bucket_by size (hash entry) ≡ h
    pub names : Names size bound tags h (hash entry) (map hash earlier) n

  pub led : {X : Type 0} (hash : X → ℕ) (h n : ℕ) (es : List X) → LeadsTo size bound tags h n (map hash es)
      → (place_named bound n ≡ nowhere → ⊥) → Led hash h n es
  led hash h n [] leads off = absurd (off leads.place)
  led hash h n (e ∷ es) leads off = elim (cases_eq (bucket_by size (hash e)) h) [
    | inl is ↦ record { later = []; entry = e; earlier = es; split = refl; apart = tt; home = is; names = leads.0 is }
    | inr other ↦
        let next = led hash h n es (leads.1 other) off in
        record {
          later = e ∷ next.later;
          entry = next.entry;
          earlier = next.earlier;
          split = ap (λ l. e ∷ l) next.split;
          apart = (other, next.apart);
          home = next.home;
          names = next.names;
        }
  ]

  -- earlier entries are linked too
  pub linked_earlier : {X : Type 0} (hash : X → ℕ) (links : List ℕ) (later earlier : List X)
      → AreLinked size bound tags links (map hash (later ++ earlier)) → AreLinked size bound tags links (map hash earlier)
  linked_earlier hash links [] earlier linked = linked
  linked_earlier hash links (e ∷ later) earlier linked = linked_earlier hash links later earlier linked.1

-- a place is linked in front of the chain of its bucket
pub stacked_more : (x : BucketList) (hash n : ℕ) (hashes : List ℕ) → IsStacked x hashes → bucket_by (length x.firsts) hash < length x.firsts
    → length hashes < length x.links → length hashes ≤ nowhere → place_named x.bound n ≡ length hashes → tag_by x.tags n ≡ tag_by x.tags hash
    → (n ≤ x.bound + x.tags → place_named x.bound (number_in x.firsts (bucket_by (length x.firsts) hash)) ≡ nowhere)
    → IsStacked (bucket_list (set x.firsts (bucket_by (length x.firsts) hash) n)
    (set x.links (length hashes) (number_in x.firsts (bucket_by (length x.firsts) hash))) x.bound x.tags) (hash ∷ hashes)
stacked_more x hash n hashes stacked within linked below place tag last =
    let size = length x.firsts in let b = bucket_by size hash in let p = length hashes in let first = number_in x.firsts b in
    let names : Names size x.bound x.tags b hash hashes n =
    record { place = place; tag = tag; last = λ low. (led_nowhere size x.bound x.tags b first hashes (stacked.firsts b) below (last low)).1 } in
    let same = sym (length-set x.firsts b n) in
    record {
      firsts = subst (λ (s : ℕ). (h : ℕ) → LeadsTo s x.bound x.tags h (number_in (set x.firsts b n) h) (hash ∷ hashes)) same
          (firsts_more size x.bound x.tags x.firsts hash n hashes stacked.firsts within names);
      links = subst (λ (s : ℕ). AreLinked s x.bound x.tags (set x.links p first) (hash ∷ hashes)) same (
        subst (λ (k : ℕ). LeadsTo size x.bound x.tags b k hashes) (sym (get_or-set_same x.links p first 0 linked)) (stacked.firsts b),
        links_stay size x.bound x.tags x.links p first hashes (omega arith) stacked.links,
      );
    }
