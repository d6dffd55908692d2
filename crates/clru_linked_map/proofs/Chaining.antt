-- The chains of all buckets: what stays, a key that comes, and one that goes.
use Rattle.std.proofs.Common.{◌≡◌, ℕ, ◌<◌, ◌≤◌, ◌==◌, true, false, cond, Option, Some, None, [], refl, sym, ap, ◌∙◌, subst, arith, inl, inr}
use Rattle.std.proofs.lemmas.Bool.{cases_eq, eq-eqb, ne_eqb}
use Rattle.clru_list.specs.Places.{nowhere, put}
use Rattle.clru_linked_map.specs.Chained.{steps_of, is_of, of_bucket, IsCut, IsChained, IsRelinked}
use Rattle.clru_list.proofs.Puts.{put-here, put-other}
use Rattle.clru_linked_map.proofs.Cuts.{whole_cut, cut_here, cut_next, cut_same, cut_insert, cut_remove}

-- the steps off the start are the links
pub steps_off : (buckets link : ℕ → ℕ) (h q : ℕ) → (q ≡ nowhere → ⊥) → steps_of buckets link h q ≡ link q
steps_off buckets link h q off = put-other link nowhere (buckets h) q (λ e. off (sym e))

module _ {K : Type 0} (home : K → ℕ) where
  one_at_most : (h : ℕ) (o : Option K) → is_of home h o ≤ 1
  one_at_most h None = omega arith
  one_at_most h (Some k) = elim (home k == h) as (λ b. cond b 1 0 ≤ 1) [ true ↦ omega arith | false ↦ omega arith ]

  -- no chain meets a place twice
  pub single : (h : ℕ) (key : ℕ → Option K) (q : ℕ) → of_bucket home h key q ≤ 1
  single h key q = elim (nowhere == q) as (λ b. cond b 1 (is_of home h (key q)) ≤ 1) [ true ↦ omega arith | false ↦ one_at_most h (key q) ]

  -- off the start a chain meets the keys of its bucket
  pub of_bucket-off : (h : ℕ) (key : ℕ → Option K) (q : ℕ) → (q ≡ nowhere → ⊥) → of_bucket home h key q ≡ is_of home h (key q)
  of_bucket-off h key q off = put-other (λ p. is_of home h (key p)) nowhere 1 q (λ e. off (sym e))

  key_of_met : (h : ℕ) (o : Option K) → 0 < is_of home h o → (k : K) × (o ≡ Some k) × (home k ≡ h)
  key_of_met h None met = absurd (omega arith)
  key_of_met h (Some k) met = elim (cases_eq (home k) h) [ inl e ↦ (k, refl, e) | inr n ↦ let no = rw (ne_eqb (home k) h n) at met in absurd (omega arith) ]

  -- what a chain meets off the start has a key of its bucket
  pub met_key : (h : ℕ) (key : ℕ → Option K) (q : ℕ) → (q ≡ nowhere → ⊥) → 0 < of_bucket home h key q
      → (k : K) × (key q ≡ Some k) × (home k ≡ h)
  met_key h key q off met = key_of_met h (key q) (let e = of_bucket-off h key q off in omega arith)

  -- a chain meets each key of its bucket
  pub key_met : (h : ℕ) (key : ℕ → Option K) (q : ℕ) (k : K) → key q ≡ Some k → home k ≡ h → 0 < of_bucket home h key q
  key_met h key q k is e = elim (nowhere == q) as (λ b. 0 < cond b 1 (is_of home h (key q))) [
    | true ↦ omega arith
    | false ↦ rw is (rw (eq-eqb (home k) h e) (omega arith))
  ]

  -- two chains meet at the start alone
  pub buckets_apart : (h g : ℕ) (key : ℕ → Option K) (q : ℕ) → (q ≡ nowhere → ⊥) → 0 < of_bucket home h key q → 0 < of_bucket home g key q → g ≡ h
  buckets_apart h g key q off here there =
      let (k, is, e) = met_key h key q off here in
      let (l, as_well, d) = met_key g key q off there in
      let same : k ≡ l = let both : Some k ≡ Some l = sym is ∙ as_well in cc in
      sym d ∙ sym (ap home same) ∙ e

  -- the chains of no keys
  pub chained_none : (buckets link : ℕ → ℕ) (key : ℕ → Option K) → ((h : ℕ) → buckets h ≡ nowhere) → ((q : ℕ) → (q ≡ nowhere → ⊥) → key q ≡ None)
      → IsChained home buckets link key
  chained_none buckets link key free none = record {
    chain = λ h. whole_cut (steps_of buckets link h) (of_bucket home h key) [] (free h)
        (λ q. elim (cases_eq nowhere q) [
          | inl e ↦ rw (put-here (λ p. is_of home h (key p)) nowhere 1 q e, eq-eqb q nowhere (sym e)) refl
          | inr n ↦ let off : q ≡ nowhere → ⊥ = λ e. n (sym e) in rw (of_bucket-off h key q off, none q off, ne_eqb q nowhere off) refl
        ]);
  }

  module _ {buckets link : ℕ → ℕ} {key : ℕ → Option K} (c : IsChained home buckets link key) where
    -- a bucket's chain stays where its bucket and the links of its keys do
    chain_same : (h : ℕ) (buckets' link' : ℕ → ℕ) (key' : ℕ → Option K) → buckets' h ≡ buckets h
        → ((q : ℕ) → (q ≡ nowhere → ⊥) → 0 < of_bucket home h key q → link' q ≡ link q)
        → ((q : ℕ) → (q ≡ nowhere → ⊥) → is_of home h (key' q) ≡ is_of home h (key q)) → IsCut (steps_of buckets' link' h) (of_bucket home h key') nowhere
    chain_same h buckets' link' key' bucket links keys =
        cut_same (c.chain h) (steps_of buckets' link' h) (of_bucket home h key')
        (λ q met. elim (cases_eq q nowhere) [
          | inl e ↦ put-here link' nowhere (buckets' h) q (sym e) ∙ bucket ∙ sym (put-here link nowhere (buckets h) q (sym e))
          | inr off ↦ steps_off buckets' link' h q off ∙ links q off met ∙ sym (steps_off buckets link h q off)
        ])
        (λ q. elim (cases_eq q nowhere) [
          | inl e ↦ put-here (λ p. is_of home h (key' p)) nowhere 1 q (sym e) ∙ sym (put-here (λ p. is_of home h (key p)) nowhere 1 q (sym e))
          | inr off ↦ of_bucket-off h key' q off ∙ keys q off ∙ sym (of_bucket-off h key q off)
        ])
        (single h key nowhere)

    -- all chains stay where the buckets, the links of keys and the keys do
    pub chained_same : (buckets' link' : ℕ → ℕ) (key' : ℕ → Option K) → ((h : ℕ) → buckets' h ≡ buckets h)
        → ((q : ℕ) (k : K) → (q ≡ nowhere → ⊥) → key q ≡ Some k → link' q ≡ link q)
        → ((q : ℕ) → (q ≡ nowhere → ⊥) → key' q ≡ key q) → IsChained home buckets' link' key'
    chained_same buckets' link' key' same links keys = record {
      chain = λ h. chain_same h buckets' link' key' (same h)
          (λ q off met. let (k, is, _) = met_key h key q off met in links q k off is)
          (λ q off. ap (λ o. is_of home h o) (keys q off));
    }

    -- a written step of one chain leaves the links of another
    links_elsewhere : (h g at to : ℕ) (buckets' link' : ℕ → ℕ) → IsCut (steps_of buckets link h) (of_bucket home h key) at
        → IsRelinked buckets link h at to buckets' link' → (g ≡ h → ⊥) → (q : ℕ) → (q ≡ nowhere → ⊥) → 0 < of_bucket home g key q → link' q ≡ link q
    links_elsewhere h g at to buckets' link' cut set other q off met =
        let apart : at ≡ q → ⊥ = λ e. other (buckets_apart h g key q off (subst (λ x. 0 < of_bucket home h key x) e (cut_here cut)) met) in
        sym (steps_off buckets' link' h q off) ∙ set.here q ∙ put-other (steps_of buckets link h) at to q apart ∙ steps_off buckets link h q off

    -- a key comes at a new place, behind a place of its bucket's chain
    pub chained_insert : (h : ℕ) {at : ℕ} → IsCut (steps_of buckets link h) (of_bucket home h key) at
        → (p : ℕ) (buckets' link' : ℕ → ℕ) (key' : ℕ → Option K) (k : K) → (p ≡ nowhere → ⊥) → key p ≡ None → link p ≡ steps_of buckets link h at
        → IsRelinked buckets link h at p buckets' link' → key' p ≡ Some k → home k ≡ h
        → ((q : ℕ) → (q ≡ p → ⊥) → key' q ≡ key q) → IsChained home buckets' link' key'
    chained_insert h {at} cut p buckets' link' key' k off fresh onward set new is keys =
        let none : of_bucket home h key p ≡ 0 = of_bucket-off h key p off ∙ ap (λ o. is_of home h o) fresh in
        let apart : at ≡ p → ⊥ = λ e. let here = subst (λ x. 0 < of_bucket home h key x) e (cut_here cut) in omega (arith, here, none) in
        let here : IsCut (steps_of buckets' link' h) (of_bucket home h key') nowhere =
        cut_insert cut p (steps_of buckets' link' h) (of_bucket home h key') (single h key at) none
        (set.here at ∙ put-here (steps_of buckets link h) at p at refl)
        (set.here p ∙ put-other (steps_of buckets link h) at p p apart ∙ steps_off buckets link h p off ∙ onward)
        (λ q met n. set.here q ∙ put-other (steps_of buckets link h) at p q (λ e. n (sym e)))
        (λ q. elim (cases_eq p q) [
          | inl e ↦
              let one : of_bucket home h key' p ≡ 1 = of_bucket-off h key' p off ∙ ap (λ o. is_of home h o) new ∙ rw (eq-eqb (home k) h is) refl in
              subst (λ x. of_bucket home h key' x ≡ put (of_bucket home h key) p 1 x) e (one ∙ sym (put-here (of_bucket home h key) p 1 p refl))
          | inr n ↦ elim (cases_eq q nowhere) [
            | inl e ↦ put-here (λ x. is_of home h (key' x)) nowhere 1 q (sym e)
                ∙ sym (put-other (of_bucket home h key) p 1 q n ∙ put-here (λ x. is_of home h (key x)) nowhere 1 q (sym e))
            | inr away ↦ of_bucket-off h key' q away ∙ ap (λ o. is_of home h o) (keys q (λ e. n (sym e)))
                ∙ sym (put-other (of_bucket home h key) p 1 q n ∙ of_bucket-off h key q away)
          ]
        ]) in
        record {
          chain = λ g. elim (cases_eq h g) [
            | inl e ↦ subst (λ x. IsCut (steps_of buckets' link' x) (of_bucket home x key') nowhere) e here
            | inr n ↦ chain_same g buckets' link' key' (set.others g (λ e. n (sym e)))
                (λ q away met. links_elsewhere h g at p buckets' link' cut set (λ e. n (sym e)) q away met)
                (λ q away. elim (cases_eq q p) [
                  | inl e ↦
                      let zero : is_of home g (key' p) ≡ is_of home g (key p) = rw (new, fresh) (rw (ne_eqb (home k) g (λ d. n (sym is ∙ d))) refl) in
                      subst (λ x. is_of home g (key' x) ≡ is_of home g (key x)) (sym e) zero
                  | inr d ↦ ap (λ o. is_of home g o) (keys q d)
                ])
          ];
        }

    -- the key at the next place of a chain goes
    pub chained_remove : (h : ℕ) {at : ℕ} → IsCut (steps_of buckets link h) (of_bucket home h key) at
        → (p : ℕ) (buckets' link' : ℕ → ℕ) (key' : ℕ → Option K) → (p ≡ nowhere → ⊥) → steps_of buckets link h at ≡ p
        → IsRelinked buckets link h at (link p) buckets' link' → key' p ≡ None
        → ((q : ℕ) → (q ≡ p → ⊥) → key' q ≡ key q) → IsChained home buckets' link' key'
    chained_remove h {at} cut p buckets' link' key' off next set gone keys =
        let met : 0 < of_bucket home h key p = cut_next cut p next off in
        let here : IsCut (steps_of buckets' link' h) (of_bucket home h key') nowhere =
        cut_remove cut p (steps_of buckets' link' h) (of_bucket home h key') (single h key) next off
        (set.here at ∙ put-here (steps_of buckets link h) at (link p) at refl ∙ sym (steps_off buckets link h p off))
        (λ q met n away. set.here q ∙ put-other (steps_of buckets link h) at (link p) q (λ e. n (sym e)))
        (λ q. elim (cases_eq p q) [
          | inl e ↦
              let zero : of_bucket home h key' p ≡ 0 = of_bucket-off h key' p off ∙ ap (λ o. is_of home h o) gone in
              subst (λ x. of_bucket home h key' x ≡ put (of_bucket home h key) p 0 x) e (zero ∙ sym (put-here (of_bucket home h key) p 0 p refl))
          | inr n ↦ elim (cases_eq q nowhere) [
            | inl e ↦ put-here (λ x. is_of home h (key' x)) nowhere 1 q (sym e)
                ∙ sym (put-other (of_bucket home h key) p 0 q n ∙ put-here (λ x. is_of home h (key x)) nowhere 1 q (sym e))
            | inr away ↦ of_bucket-off h key' q away ∙ ap (λ o. is_of home h o) (keys q (λ e. n (sym e)))
                ∙ sym (put-other (of_bucket home h key) p 0 q n ∙ of_bucket-off h key q away)
          ]
        ]) in
        record {
          chain = λ g. elim (cases_eq h g) [
            | inl e ↦ subst (λ x. IsCut (steps_of buckets' link' x) (of_bucket home x key') nowhere) e here
            | inr n ↦ chain_same g buckets' link' key' (set.others g (λ e. n (sym e)))
                (λ q away m. links_elsewhere h g at (link p) buckets' link' cut set (λ e. n (sym e)) q away m)
                (λ q away. elim (cases_eq q p) [
                  | inl e ↦
                      let (k, is, of) = met_key h key p off met in
                      let zero : is_of home g (key' p) ≡ is_of home g (key p) = rw (gone, is) (rw (ne_eqb (home k) g (λ d. n (sym of ∙ d))) refl) in
                      subst (λ x. is_of home g (key' x) ≡ is_of home g (key x)) (sym e) zero
                  | inr d ↦ ap (λ o. is_of home g o) (keys q d)
                ])
          ];
        }
