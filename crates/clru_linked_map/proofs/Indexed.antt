-- The index over a list: what keeps it, by the chains and by what stands where.
use Rattle.std.proofs.Common.{◌≡◌, ℕ, ◌+◌, ◌<◌, ◌≤◌, Option, Some, None, List, [], ◌∷◌, length, replicate, set, refl, sym, ap, ◌∙◌, subst, arith, inl, inr}
use Rattle.std.proofs.lemmas.Bool.{cases_eq, cases_lt, eq-eqb, ne_eqb}
use Rattle.std.proofs.lemmas.List.{get_or-replicate, get_or-set_same, get_or-set_other, get_or_past, length-replicate}
use Rattle.std.proofs.lemmas.Map.Entries.{length-keys_of}
use Rattle.std.specs.List.{fold}
use Rattle.std.specs.Map.{keys_of}
use Rattle.std.specs.Option.{option_map}
use Rattle.clru_list.specs.PlaceList.{item_at}
use Rattle.clru_list.specs.Places.{nowhere, put, count}
use Rattle.clru_linked_map.specs.Chained.{steps_of, of_bucket, IsCut, IsChained, IsLinked, IsWalk}
use Rattle.clru_linked_map.specs.BucketList.{place_named, tag_by}
use Rattle.clru_linked_map.specs.Buckets.{bucket_by, key_at, number_in, IsLive}
use Rattle.clru_linked_map.specs.IndexedList.{IsIndexed}
use Rattle.clru_linked_map.specs.LinkedMap.{hash_by}
use Rattle.clru_linked_map.specs.declared.indexed_list.IndexedList.{IndexedList}
use Rattle.clru_list.proofs.Puts.{put-here, put-other}
use Rattle.clru_linked_map.proofs.Chaining.{single, met_key}
use Rattle.clru_linked_map.proofs.Hints.{linked_none, linked_same}
use Rattle.clru_linked_map.proofs.ChainWalks.{walk_start}
use Rattle.clru_linked_map.proofs.Cuts.{cut_here}

-- a key has the hash of a form of it, and of each key, with the same writes
pub same_hash : {S H W X K : Type 0} (finish : H → ℕ) (write : H → W → H) (build : S → H) (form : X → List W) (input : K → List W) (builder : S) {x : X} {k : K}
    → form x ≡ input k → hash_by finish write build form builder x ≡ hash_by finish write build input builder k
same_hash {W = W} finish write build form input builder e = ap (λ (ws : List W). finish (fold write (build builder) ws)) e

module _ {K V : Type 0} where
  -- a place that holds something is among the places
  live_counted : (q : ℕ) (es : List (ℕ × (K × V))) → IsLive es q → 0 < count q (keys_of es)
  live_counted q [] live = let no = live.1 in cc
  live_counted q (e ∷ es) live = elim (cases_eq q e.0) [
    | inl here ↦ rw (eq-eqb q e.0 here) (omega arith)
    | inr there ↦ let later = live_counted q es (live.0, rw (ne_eqb q e.0 there) at live.1) in omega (arith, later)
  ]

  -- a key at a place stands in an item
  pub live_of_key : (es : List (ℕ × (K × V))) (q : ℕ) (k : K) → key_at es q ≡ Some k → IsLive es q
  live_of_key es q k is = (elim (item_at q es) as (λ o. item_at q es ≡ o → option_map (λ (i : K × V). i.0) o ≡ Some k → IsLive es q) [
    | None ↦ λ e no. cc
    | Some i ↦ λ e yes. (i, e)
  ]) refl is

  module _ (home : K → ℕ) {buckets link : ℕ → ℕ} (es : List (ℕ × (K × V))) {key : ℕ → Option K}
      (c : IsChained home buckets link key) (lives : (q : ℕ) (k : K) → key q ≡ Some k → IsLive es q) where
    -- a walk along a chain begins at its bucket
    pub walk_along : (h : ℕ) (alive wanted : ℕ → Type 0) → ((q : ℕ) → (q ≡ nowhere → ⊥) → 0 < of_bucket home h key q → alive q)
        → ((q : ℕ) → wanted q → (q ≡ nowhere → ⊥) × (0 < of_bucket home h key q)) → IsWalk (steps_of buckets link h) alive wanted (buckets h) (length es)
    walk_along h alive wanted living held =
        walk_start (c.chain h) alive wanted (length es) (keys_of es) (single home h key nowhere) living
        (λ q off. elim (cases_eq (of_bucket home h key q) 0) [
          | inl e ↦ omega (arith, e)
          | inr n ↦
              let (k, is, _) = met_key home h key q off (omega (arith, n)) in
              omega (arith, single home h key q, live_counted q es (lives q k is))
        ])
        (omega (arith, length-keys_of es)) held

    pub walk_of_chain : (h : ℕ) (wanted : ℕ → Type 0) → ((q : ℕ) → wanted q → (q ≡ nowhere → ⊥) × (0 < of_bucket home h key q))
        → IsWalk (steps_of buckets link h) (IsLive es) wanted (buckets h) (length es)
    walk_of_chain h wanted held = walk_along h (IsLive es) wanted (λ q off met. let (k, is, _) = met_key home h key q off met in lives q k is) held

    -- a place that a chain meets holds something
    pub live_met : (h q : ℕ) → 0 < of_bucket home h key q → (q ≡ nowhere → ⊥) → IsLive es q
    live_met h q met off = let (k, is, _) = met_key home h key q off met in lives q k is

    -- a place on the way holds something
    pub live_at_cut : (h at : ℕ) → IsCut (steps_of buckets link h) (of_bucket home h key) at → (at ≡ nowhere → ⊥) → IsLive es at
    live_at_cut h at cut off = live_met h at (cut_here cut) off

  -- the keys that are chained stand in items, also where one is out
  pub live_but : (es : List (ℕ × (K × V))) (out q : ℕ) (k : K) → put (key_at es) out None q ≡ Some k → IsLive es q
  live_but es out q k is = elim (cases_eq out q) [
    | inl e ↦ let no = sym (put-here (key_at es) out None q e) ∙ is in cc
    | inr n ↦ live_of_key es q k (sym (put-other (key_at es) out None q n) ∙ is)
  ]

-- all stays where there are as many buckets
pub sized_stay : {K : Type 0} (hash : K → ℕ) {n m b c t u : ℕ} {first next : ℕ → ℕ} {key : ℕ → Option K} → m ≡ n → c ≡ b → u ≡ t
    → IsLinked hash (tag_by t) (b + t) nowhere (λ k. bucket_by n (hash k)) (place_named b) first next key
    → IsLinked hash (tag_by u) (c + u) nowhere (λ k. bucket_by m (hash k)) (place_named c) first next key
sized_stay hash {n} {m} {b} {c} {t} {u} {first} {next} {key} size bound tags l =
    subst (λ i. IsLinked hash (tag_by u) (c + u) nowhere (λ k. bucket_by i (hash k)) (place_named c) first next key) (sym size)
    (subst (λ i. IsLinked hash (tag_by u) (i + u) nowhere (λ k. bucket_by n (hash k)) (place_named i) first next key) (sym bound)
    (subst (λ i. IsLinked hash (tag_by i) (b + i) nowhere (λ k. bucket_by n (hash k)) (place_named b) first next key) (sym tags) l))

-- a link that is written
pub link_set : (links : List ℕ) (p n q : ℕ) → p < length links → number_in (set links p n) q ≡ put (number_in links) p n q
link_set links p n q within = elim (cases_eq p q) [
  | inl e ↦ subst (λ k. number_in (set links p n) k ≡ n) e (get_or-set_same links p n 0 within) ∙ sym (put-here (number_in links) p n q e)
  | inr d ↦ get_or-set_other links p q n 0 (λ e. d (sym e)) ∙ sym (put-other (number_in links) p n q d)
]

-- a place that is in no chain may be linked
pub linked_apart : {K : Type 0} {hash : K → ℕ} {tag : ℕ → ℕ} {low ahead : ℕ} {home : K → ℕ} {place first : ℕ → ℕ} (links : List ℕ) (p n : ℕ) (key : ℕ → Option K)
    → p < length links → IsLinked hash tag low ahead home place first (number_in links) (put key p None)
    → IsLinked hash tag low ahead home place first (number_in (set links p n)) (put key p None)
linked_apart {K} {hash} {tag} {low} {ahead} {home} {place} {first} links p n key within l =
    linked_same l first (number_in (set links p n)) (λ h. refl)
    (λ q k off is. elim (cases_eq p q) [
      | inl e ↦ let no : None ≡ Some k = sym (put-here key p None q e) ∙ is in cc
      | inr d ↦ link_set links p n q within ∙ put-other (number_in links) p n q d
    ])

-- new buckets lead nowhere
pub free-replicate : (n h : ℕ) (buckets : List ℕ) → buckets ≡ replicate n 0 → number_in buckets h ≡ 0
free-replicate n h buckets same =
    rw same (elim (cases_lt h n) [
      | inl within ↦ get_or-replicate n h 0 0 within
      | inr past ↦ get_or_past (replicate {A = ℕ} n 0) h 0 (omega (arith, length-replicate {A = ℕ} n 0))
    ])

module _ {K V S A H : Type 0} (hash : S → K → ℕ) (x : IndexedList K V S A H) where
  -- with no pair all chains are empty
  pub indexed_none : x.list.entries ≡ [] → ((h : ℕ) → number_in x.index.firsts h ≡ 0)
      → length x.index.links ≤ length x.index.firsts → x.list.places ≤ length x.index.links → x.list.places ≤ x.index.bound → IsIndexed hash x
  indexed_none none free spread linked named = record {
    chained = linked_none (number_in x.index.firsts) (number_in x.index.links) (key_at x.list.entries) free refl (λ q off. rw none refl);
    held = rw none (omega arith);
    spread = spread;
    linked = linked;
    named = named;
  }
