-- The join of what is known of two lists of requests.
use Rattle.std.proofs.Common.{◌≡◌, ℕ, ◌+◌, Bool, true, false, not, ◌||◌, List, [], ◌∷◌, ◌++◌, reverse, refl, sym, ap, ◌∙◌, append_assoc, arith}
use Rattle.std.proofs.lemmas.List.{reverse-append, reverse-reverse}
use Rattle.std.proofs.lemmas.List.Elements.{filter-append}
use Rattle.std.specs.Cmp.{IsEquivalence}
use Rattle.std.specs.List.{filter}
use Rattle.clru_model.specs.Joins.{Part, part_of, join, JoinIsOfBoth, JoinsAssociate}
use Rattle.clru_model.specs.Parts.{missed_cost, firsts, lasts, IsOfKeys, SamplesKeepParts}
use Rattle.clru_model.specs.Requests.{holds, sum_distinct}
use Rattle.clru_model.proofs.Cases.{split}
use Rattle.clru_model.proofs.Distinct.{others}
use Rattle.clru_model.proofs.Parts.{holds-lasts, lasts-append, lasts-lasts, reverse-lasts}
use Rattle.clru_model.proofs.TestedParts.{tested_parts_miss}

module _ {K : Type 0} (eq : K → K → Bool) (laws : IsEquivalence eq) where
  -- the first requests are the latest ones of the list read backwards
  firsts-reverse : (rs : List K) → firsts eq rs ≡ reverse (lasts eq (reverse rs))
  firsts-reverse rs = ap (firsts eq) (sym (reverse-reverse rs)) ∙ sym (reverse-lasts eq laws (reverse rs))

  filter_same : (ys zs : List K) → ((z : K) → holds eq z ys ≡ holds eq z zs) → (xs : List K)
      → filter (λ x. not (holds eq x ys)) xs ≡ filter (λ x. not (holds eq x zs)) xs
  filter_same ys zs same [] = refl
  filter_same ys zs same (x ∷ xs) =
      let ih = filter_same ys zs same xs in
      rw (same x) (split (holds eq x zs) (λ t. rw t ih) (λ f. rw f (ap (λ l. x ∷ l) ih)))

  -- the latest ones of both
  pub lasts_both : (one two : List K) → lasts eq (lasts eq one ++ lasts eq two) ≡ lasts eq (one ++ two)
  lasts_both one two =
      let b = lasts eq two in
      lasts-append eq laws (lasts eq one) b
      ∙ ap (λ l. filter (λ x. not (holds eq x b)) l ++ lasts eq b) (lasts-lasts eq laws one)
      ∙ ap (λ l. filter (λ x. not (holds eq x b)) (lasts eq one) ++ l) (lasts-lasts eq laws two)
      ∙ ap (λ l. l ++ b) (filter_same b two (λ z. holds-lasts eq laws z two) (lasts eq one))
      ∙ sym (lasts-append eq laws one two)

  -- and the first ones
  pub firsts_both : (one two : List K) → firsts eq (firsts eq one ++ firsts eq two) ≡ firsts eq (one ++ two)
  firsts_both one two =
      let a = lasts eq (reverse one) in let b = lasts eq (reverse two) in
      let turned : reverse (firsts eq one ++ firsts eq two) ≡ b ++ a =
      ap (λ l. reverse (l ++ firsts eq two)) (firsts-reverse one) ∙ ap (λ l. reverse (reverse a ++ l)) (firsts-reverse two)
      ∙ reverse-append (reverse a) (reverse b) ∙ ap (λ l. l ++ reverse (reverse a)) (reverse-reverse b)
      ∙ ap (λ l. b ++ l) (reverse-reverse a) in
      firsts-reverse (firsts eq one ++ firsts eq two)
      ∙ ap (λ l. reverse (lasts eq l)) turned
      ∙ ap reverse (lasts_both (reverse two) (reverse one))
      ∙ ap (λ l. reverse (lasts eq l)) (sym (reverse-append one two))
      ∙ sym (firsts-reverse (one ++ two))

  -- the latest requests cost what one request of each key does, counted from the end
  sum-lasts : (cost : K → ℕ) (rs : List K) → sum_distinct eq cost (lasts eq rs) ≡ sum_distinct eq cost rs
  sum-lasts cost [] = refl
  sum-lasts cost (x ∷ rs) =
      let ih = sum-lasts cost rs in
      split (holds eq x rs) (λ t. rw t ih) (λ f. rw f (rw (holds-lasts eq laws x rs, f) (ap (λ n. cost x + n) ih)))

  sum-firsts : (cost : K → ℕ) (rs : List K) → sum_distinct eq cost (reverse (firsts eq rs)) ≡ sum_distinct eq cost (reverse rs)
  sum-firsts cost rs =
      ap (λ l. sum_distinct eq cost (reverse l)) (firsts-reverse rs)
      ∙ ap (sum_distinct eq cost) (reverse-reverse (lasts eq (reverse rs))) ∙ sum-lasts cost (reverse rs)

  abbrev part_with : List K → List K → ℕ → Part K
  part_with first latest missed = record { first = first; latest = latest; missed = missed }

  pub join_is_of_both : JoinIsOfBoth eq
  join_is_of_both hits cost one two by_latest =
      let joined = join eq hits cost (part_of eq hits cost one) (part_of eq hits cost two) in
      let law = tested_parts_miss eq laws hits cost one two by_latest in
      let missed : joined.missed ≡ missed_cost hits cost (one ++ two) = omega (arith, law, sum-lasts cost one, sum-firsts cost two) in
      ap (λ l. part_with l joined.latest joined.missed) (firsts_both one two)
      ∙ ap (λ l. part_with (firsts eq (one ++ two)) l joined.missed) (lasts_both one two)
      ∙ ap (part_with (firsts eq (one ++ two)) (lasts eq (one ++ two))) missed

  pub joins_associate : JoinsAssociate eq
  joins_associate hits cost one two three by_latest =
      let part = part_of eq hits cost in
      ap (λ p. join eq hits cost p (part three)) (join_is_of_both hits cost one two by_latest)
      ∙ join_is_of_both hits cost (one ++ two) three by_latest
      ∙ ap part (append_assoc one two three)
      ∙ sym (join_is_of_both hits cost one (two ++ three) by_latest)
      ∙ ap (λ p. join eq hits cost (part one) p) (sym (join_is_of_both hits cost two three by_latest))

  module _ (test : K → Bool) (of_keys : IsOfKeys eq test) where
    filter_others : (x : K) (ks : List K) → filter test (others eq x ks) ≡ others eq x (filter test ks)
    filter_others x [] = refl
    filter_others x (k ∷ ks) =
        let ih = filter_others x ks in
        split (eq x k)
        (λ t. split (test k) (λ u. rw (t, u) (rw t ih)) (λ v. rw (t, v) ih))
        (λ f. split (test k) (λ u. rw (f, u) (rw f (ap (λ l. k ∷ l) ih))) (λ v. rw (f, v) ih))

    -- no request that fails the test is for the key of one that passes
    others_failed : (x : K) (ks : List K) → test x ≡ false → others eq x (filter test ks) ≡ filter test ks
    others_failed x [] failed = refl
    others_failed x (k ∷ ks) failed =
        let ih = others_failed x ks failed in
        split (test k)
        (λ t. let apart : eq x k ≡ false = split (eq x k) (λ u. cc (of_keys x k u, failed, t)) (λ v. v) in
        rw t (rw apart (ap (λ l. k ∷ l) ih)))
        (λ f. rw f ih)

    holds-filter : (x : K) (ks : List K) → test x ≡ true → holds eq x (filter test ks) ≡ holds eq x ks
    holds-filter x [] passes = refl
    holds-filter x (k ∷ ks) passes =
        let ih = holds-filter x ks passes in
        split (test k)
        (λ t. rw t (ap (λ b. eq x k || b) ih))
        (λ f. let apart : eq x k ≡ false = split (eq x k) (λ u. cc (of_keys x k u, passes, f)) (λ v. v) in rw (f, apart) ih)

    firsts-filter : (rs : List K) → firsts eq (filter test rs) ≡ filter test (firsts eq rs)
    firsts-filter [] = refl
    firsts-filter (x ∷ rs) =
        let ih = firsts-filter rs in
        split (test x)
        (λ t. rw t (ap (λ l. x ∷ l) (ap (others eq x) ih ∙ sym (filter_others x (firsts eq rs)))))
        (λ f. rw f (ih ∙ sym (filter_others x (firsts eq rs) ∙ others_failed x (firsts eq rs) f)))

    lasts-filter : (rs : List K) → lasts eq (filter test rs) ≡ filter test (lasts eq rs)
    lasts-filter [] = refl
    lasts-filter (x ∷ rs) =
        let ih = lasts-filter rs in
        split (test x)
        (λ t. rw (t, holds-filter x rs t) (split (holds eq x rs) (λ u. rw u ih) (λ v. rw v (rw t (ap (λ l. x ∷ l) ih)))))
        (λ f. rw f (split (holds eq x rs) (λ u. rw u ih) (λ v. rw v (rw f ih))))

  pub samples_keep_parts : SamplesKeepParts eq
  samples_keep_parts test of_keys =
      record { both = filter-append test; first = firsts-filter test of_keys; latest = lasts-filter test of_keys }
