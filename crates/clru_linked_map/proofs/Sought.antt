-- The walk along a chain that looks for a string.
use Rattle.std.proofs.Common.{◌≡◌, ℕ, ◌+◌, ◌<◌, ◌≤◌, Bool, true, false, List, [], ◌∷◌, ◌++◌, length, refl, sym, ap, ◌∙◌, subst, arith, inl, inr, append_assoc}
use Rattle.std.proofs.lemmas.Bool.{cases_eq, eq-eqb, ne_eqb}
use Rattle.std.proofs.lemmas.List.{length-append, length-map}
use Rattle.std.proofs.lemmas.Slice.Eq.{bytes_eq-Decides}
use Rattle.std.specs.List.{AllByRecursion}
use Rattle.std.specs.Prelude.{bytes_eq}
use Rattle.clru_list.specs.Places.{nowhere}
use Rattle.clru_model.proofs.Cases.{split}
use Rattle.clru_linked_map.specs.BucketList.{BucketList, place_named, tag_by}
use Rattle.clru_linked_map.specs.Buckets.{bucket_by, number_in}
use Rattle.clru_linked_map.specs.BytesTable.{IsFoundAt, IsSought, NonePass, StandsAt, entries_onto, hashes_of, places_to, string_at}
use Rattle.clru_linked_map.specs.Stacked.{AreLinked, HasNone, IsStacked, LeadsTo}
use Rattle.clru_linked_map.specs.declared.bytes_table.Item.{Item}
use Rattle.clru_linked_map.proofs.Stacked.{Led, led, led_nowhere, linked_earlier}
use Rattle.clru_linked_map.proofs.Strings.{length-entries, string_stands}

all_append : {X : Type 0} (P : X → Type 0) (xs ys : List X) → AllByRecursion P xs → AllByRecursion P ys → AllByRecursion P (xs ++ ys)
all_append P [] ys first rest = rest
all_append P (x ∷ xs) ys first rest = (first.0, all_append P xs ys first.1 rest)

module _ {V : Type 0} (hash : List ℕ → ℕ) (test : List ℕ → Bool) (x : BucketList) where
  -- a walk begins at a bucket
  pub sought_first : (h : ℕ) (es : List (List ℕ × V)) → IsStacked x (hashes_of hash es) → IsSought hash test x h (number_in x.firsts h) es
  sought_first h es stacked = record {
    later = [];
    left = es;
    split = refl;
    passed = tt;
    leads = stacked.firsts h;
    linked = stacked.links;
  }

  module _ {h n : ℕ} {es : List (List ℕ × V)} (s : IsSought hash test x h n es) where
    left_within : length s.left ≤ length es
    left_within = omega (arith, ap length s.split, length-append s.later s.left)

    -- a number that says that its place is linked on names one
    sought_named : length es ≤ nowhere → x.bound + x.tags < n → place_named x.bound n ≡ nowhere → ⊥
    sought_named below more none =
        let end = led_nowhere (length x.firsts) x.bound x.tags h n (hashes_of hash s.left) s.leads
        (omega (arith, left_within, below, length-map s.left (λ (e : List ℕ × V). hash e.0))) none in
        omega (arith, more, end.0)

    module _ (off : place_named x.bound n ≡ nowhere → ⊥) where
      here : Led (length x.firsts) x.bound x.tags (λ (e : List ℕ × V). hash e.0) h n s.left
      here = led (length x.firsts) x.bound x.tags (λ (e : List ℕ × V). hash e.0) h n s.left s.leads off

      place_here : place_named x.bound n ≡ length here.earlier
      place_here = here.names.place ∙ length-map here.earlier (λ (e : List ℕ × V). hash e.0)

      whole : es ≡ (s.later ++ here.later) ++ here.entry ∷ here.earlier
      whole = s.split ∙ ap (λ l. s.later ++ l) here.split ∙ sym (append_assoc s.later here.later (here.entry ∷ here.earlier))

      -- the place is one of an entry
      sought_within : place_named x.bound n < length es
      sought_within = omega (arith, place_here, ap length whole, length-append (s.later ++ here.later) (here.entry ∷ here.earlier))

      stands : StandsAt here.entry.0 (place_named x.bound n) es
      stands = record { later = s.later ++ here.later; value = here.entry.1; earlier = here.earlier; split = whole; place = place_here }

      links_here : LeadsTo (length x.firsts) x.bound x.tags h (number_in x.links (place_named x.bound n)) (hashes_of hash here.earlier)
          × AreLinked (length x.firsts) x.bound x.tags x.links (hashes_of hash here.earlier)
      links_here =
          let size = length x.firsts in let earlier = hashes_of hash here.earlier in
          let linked = linked_earlier size x.bound x.tags (λ (e : List ℕ × V). hash e.0) x.links here.later (here.entry ∷ here.earlier)
          (subst (λ (l : List (List ℕ × V)). AreLinked size x.bound x.tags x.links (hashes_of hash l)) here.split s.linked) in (
            subst (λ (k : ℕ). LeadsTo size x.bound x.tags k (number_in x.links (place_named x.bound n)) earlier) here.home
                (subst (λ (p : ℕ). LeadsTo size x.bound x.tags (bucket_by size (hash here.entry.0)) (number_in x.links p) earlier)
                (sym here.names.place) linked.0),
            linked.1,
          )

      -- a walk that goes on comes nearer to its end
      pub sought_nearer : places_to (place_named x.bound (number_in x.links (place_named x.bound n))) < places_to (place_named x.bound n)
      sought_nearer =
          let m = number_in x.links (place_named x.bound n) in let t = ne_eqb (place_named x.bound n) nowhere off in
          elim (cases_eq (place_named x.bound m) nowhere) [
            | inl end ↦ rw (t, eq-eqb (place_named x.bound m) nowhere end) (omega arith)
            | inr on ↦
                let size = length x.firsts in
                let l = led size x.bound x.tags (λ (e : List ℕ × V). hash e.0) h m here.earlier links_here.0 on in
                let place = l.names.place ∙ length-map l.earlier (λ (e : List ℕ × V). hash e.0) in
                rw (t, ne_eqb (place_named x.bound m) nowhere on)
                (omega (arith, place, place_here, ap length l.split, length-append l.later (l.entry ∷ l.earlier)))
          ]

-- what a walk looks for: a key with this hash, in its bucket, among strings of which each has a place
pub record Seeks {V : Type 0} (hash : List ℕ → ℕ) (x : BucketList) (key : List ℕ) (hashed h : ℕ) (is : List (Item V)) : Type 0 where
  pub hashed_is : hashed ≡ hash key
  pub home : h ≡ bucket_by (length x.firsts) hashed
  pub short : length is ≤ nowhere

module _ {V : Type 0} {hash : List ℕ → ℕ} {x : BucketList} {key : List ℕ} {hashed h : ℕ} {is : List (Item V)} (k : Seeks hash x key hashed h is) where
  -- strings of another bucket are not the key
  others_fail : (es : List (List ℕ × V)) → HasNone (length x.firsts) h (hashes_of hash es) → NonePass (bytes_eq key) es
  others_fail [] none = tt
  others_fail (e ∷ es) none = (
    split (bytes_eq key e.0)
        (λ t. absurd (none.0 (ap (λ bs. bucket_by (length x.firsts) (hash bs)) (sym ((bytes_eq-Decides key e.0).0 t))
        ∙ ap (bucket_by (length x.firsts)) (sym k.hashed_is) ∙ sym k.home)))
        (λ f. f),
    others_fail es none.1,
  )

  -- in a buffer of these bytes
  module _ (bytes : List ℕ) where
    below : length (entries_onto bytes 0 is []) ≤ nowhere
    below = omega (arith, k.short, length-entries bytes is)

    module _ {n : ℕ} (s : IsSought hash (bytes_eq key) x h n (entries_onto bytes 0 is [])) where
      -- the place has a string
      pub found_within : (place_named x.bound n ≡ nowhere → ⊥) → place_named x.bound n < length is
      found_within off = let within = sought_within hash (bytes_eq key) x s off in omega (arith, within, length-entries bytes is)

      -- a number that says that its place is linked on names one
      pub found_named : x.bound + x.tags < n → place_named x.bound n ≡ nowhere → ⊥
      found_named = sought_named hash (bytes_eq key) x s below

      front_passed : (off : place_named x.bound n ≡ nowhere → ⊥) → NonePass (bytes_eq key) (s.later ++ (here hash (bytes_eq key) x s off).later)
      front_passed off =
          let l = here hash (bytes_eq key) x s off in
          all_append (λ e. bytes_eq key e.0 ≡ false) s.later l.later s.passed (others_fail l.later l.apart)

      -- it is the key's, if it is the same
      pub found_same : (place_named x.bound n ≡ nowhere → ⊥) → bytes_eq key (string_at bytes 0 is (place_named x.bound n)) ≡ true
          → IsFoundAt (bytes_eq key) (place_named x.bound n) (entries_onto bytes 0 is [])
      found_same off same =
          let l = here hash (bytes_eq key) x s off in
          record {
            later = s.later ++ l.later;
            entry = l.entry;
            earlier = l.earlier;
            split = whole hash (bytes_eq key) x s off;
            passed = front_passed off;
            same = ap (bytes_eq key)
                (string_stands bytes is (place_named x.bound n) l.entry.0 (found_within off) (stands hash (bytes_eq key) x s off)) ∙ same;
            place = place_here hash (bytes_eq key) x s off;
          }

      -- where it differs, or its tag does
      module _ (other : (place_named x.bound n ≡ nowhere → ⊥) → tag_by x.tags n ≡ tag_by x.tags hashed
          → bytes_eq key (string_at bytes 0 is (place_named x.bound n)) ≡ false) where
        fails_here : (off : place_named x.bound n ≡ nowhere → ⊥) → bytes_eq key (here hash (bytes_eq key) x s off).entry.0 ≡ false
        fails_here off =
            let l = here hash (bytes_eq key) x s off in
            let same = string_stands bytes is (place_named x.bound n) l.entry.0 (found_within off) (stands hash (bytes_eq key) x s off) in
            split (bytes_eq key l.entry.0)
            (λ t. ap (bytes_eq key) same ∙ other off (l.names.tag ∙ ap (λ bs. tag_by x.tags (hash bs)) (sym ((bytes_eq-Decides key l.entry.0).0 t))
            ∙ ap (tag_by x.tags) (sym k.hashed_is)))
            (λ f. f)

        -- the walk goes on
        pub found_next : (place_named x.bound n ≡ nowhere → ⊥)
            → IsSought hash (bytes_eq key) x h (number_in x.links (place_named x.bound n)) (entries_onto bytes 0 is [])
        found_next off =
            let l = here hash (bytes_eq key) x s off in let links = links_here hash (bytes_eq key) x s off in let front = s.later ++ l.later in
            record {
              later = front ++ l.entry ∷ [];
              left = l.earlier;
              split = whole hash (bytes_eq key) x s off ∙ sym (append_assoc front (l.entry ∷ []) l.earlier);
              passed = all_append (λ e. bytes_eq key e.0 ≡ false) front (l.entry ∷ []) (front_passed off) (fails_here off, tt);
              leads = links.0;
              linked = links.1;
            }

        -- at a low number it has missed nothing
        pub found_none : n ≤ x.bound + x.tags → NonePass (bytes_eq key) (entries_onto bytes 0 is [])
        found_none low = elim (cases_eq (place_named x.bound n) nowhere) [
          | inl none ↦
              let end = led_nowhere (length x.firsts) x.bound x.tags h n (hashes_of hash s.left) s.leads
              (omega (arith, left_within hash (bytes_eq key) x s, below, length-map s.left (λ (e : List ℕ × V). hash e.0))) none in
              subst (λ (l : List (List ℕ × V)). NonePass (bytes_eq key) l) (sym s.split)
              (all_append (λ e. bytes_eq key e.0 ≡ false) s.later s.left s.passed (others_fail s.left end.1))
          | inr off ↦
              let l = here hash (bytes_eq key) x s off in
              subst (λ (l : List (List ℕ × V)). NonePass (bytes_eq key) l) (sym (whole hash (bytes_eq key) x s off))
              (all_append (λ e. bytes_eq key e.0 ≡ false) (s.later ++ l.later) (l.entry ∷ l.earlier) (front_passed off)
              (fails_here off, others_fail l.earlier (l.names.last low)))
        ]
