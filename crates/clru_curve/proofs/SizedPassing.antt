-- What a pass over keys with sizes has taken, after one more request.
use Rattle.std.proofs.Common.{◌≡◌, ℕ, suc, ◌+◌, ◌↔◌, ◌-◌, ◌^◌, ◌<◌, ◌≤◌, Bool, true, false, cond, nat_lt, List, [], ◌∷◌, ◌++◌, Some, None, is_some, refl, sym, ap, ◌∙◌, arith}
use Rattle.std.proofs.lemmas.List.{length_push}
use Rattle.std.proofs.lemmas.List.Sums.{sum_by-cons, sum_by_push}
use Rattle.std.proofs.lemmas.Map.{length-set_value}
use Rattle.std.specs.Cmp.{IsEquivalence}
use Rattle.std.specs.Map.{lookup, set_value}
use Rattle.clru_linked_map.proofs.KeyTables.{moved_again, moved_new}
use Rattle.clru_model.specs.Requests.{holds, distinct, since}
use Rattle.clru_model.specs.Sizes.{SameWeights, total, span}
use Rattle.clru_curve.proofs.Ranks.{IsMeasure, distinct_measures, IsRanked-none, IsRanked-new, IsRanked-again, latest_moved}
use Rattle.clru_curve.proofs.SizedHits.{AreHits-none, AreHits-new, AreHits-again}
use Rattle.clru_curve.proofs.Totals.{total_measures}
use Rattle.clru_curve.proofs.UpTo.{up_by-le}
use Rattle.clru_curve.specs.declared.numbered.Numbered.{Numbered}
use Rattle.clru_curve.specs.declared.sized.step.Step.{Step}
use Rattle.clru_curve.specs.LatestSizes.{total_from, live_from, IsSummed}
use Rattle.clru_curve.specs.Ranked.{IsRanked}
use Rattle.clru_curve.specs.SizedCurves.{step}
use Rattle.clru_curve.specs.SizedPasses.{PassBySize, pass_by_size, IsSizedPass, IsSoundBySize}
use Rattle.clru_curve.specs.Tree.{up_by, up_to}

-- a size that is not too large
pub not_too_large : {size old weight : ℕ} → size ≡ old → weight < 2 ^ 64 - 1 - size → ⊥ ↔ (2 ^ 64 ≤ old + (1 + weight))
not_too_large is small = (λ no. absurd no, λ large. omega (arith, is, small, large))

module _ {K : Type 0} (eq : K → K → Bool) where
  -- before the first request
  pub IsSizedPass-none : {S : Type 0} {b : S} (weight : K → ℕ) → IsSizedPass eq weight [] (pass_by_size [] [] 0 [] 0 0 b)
  IsSizedPass-none weight = record {
    ranked = IsRanked-none eq (λ x. 1 + weight x) (total eq weight) (total_from []) (λ p. refl);
    hits = AreHits-none eq weight;
    requests = refl;
    held = refl;
    size = refl;
    greatest = refl;
    latest = λ x q at. cc;
  }

  pub IsSoundBySize-none : {S : Type 0} {b : S} (nodes : List ℕ) → IsSummed [] nodes 0 → IsSoundBySize eq nodes (pass_by_size [] [] 0 [] 0 0 b)
  IsSoundBySize-none nodes summed = record {
    summed = summed;
    past = [];
    ranked = IsRanked-none eq (λ x. 1) (distinct eq) (live_from []) (λ p. refl);
    few_hits = omega arith;
    many = omega arith;
    held = omega arith;
    hit_sizes = omega arith;
    fits = omega arith;
  }

  -- it holds over other nodes that have the same sums
  pub IsSoundBySize-nodes : {S : Type 0} {nodes nodes' : List ℕ} {p : PassBySize K S} → IsSummed p.sizes nodes' p.requests
      → IsSoundBySize eq nodes p → IsSoundBySize eq nodes' p
  IsSoundBySize-nodes summed sound = record {
    summed = summed;
    past = sound.past;
    ranked = sound.ranked;
    few_hits = sound.few_hits;
    many = sound.many;
    held = sound.held;
    hit_sizes = sound.hit_sizes;
    fits = sound.fits;
  }

module _ {K : Type 0} (eq : K → K → Bool) (laws : IsEquivalence eq) (positions : List (K × ℕ)) (n : ℕ) (x : K) where
  -- what is noted of one more request, by any measure
  module _ (size : K → ℕ) (measure : List K → ℕ) (sums : IsMeasure eq size measure) (past : List K) (f f' : ℕ → ℕ)
      (r : IsRanked eq size measure past positions n f) where
    pub ranked_new : lookup (eq x) positions ≡ None → ((t : ℕ) → f' t ≡ f t + up_by (size x) t n)
        → IsRanked eq size measure (x ∷ past) ((x, n) ∷ positions) (suc n) f'
    ranked_new absent counts =
        IsRanked-new eq laws size measure sums past positions ((x, n) ∷ positions) n f f' x r (moved_new eq laws positions x n) (sym (r.known x) ∙ ap is_some absent) counts
        (omega (arith, r.few))

    pub ranked_again : (p : ℕ) → lookup (eq x) positions ≡ Some p → ((t : ℕ) → f' t + up_by (size x) t p ≡ f t + up_by (size x) t n)
        → IsRanked eq size measure (x ∷ past) (set_value (eq x) positions n) (suc n) f'
    ranked_again p found counts =
        IsRanked-again eq laws size measure sums past positions (set_value (eq x) positions n) n f f' x r (moved_again eq laws positions x n p found) p found counts
        (omega (arith, length-set_value (eq x) positions n, r.few))

module _ {K S : Type 0} {b : S} (eq : K → K → Bool) (laws : IsEquivalence eq) (positions : List (K × ℕ)) (ss : List Numbered) (n : ℕ) (hs : List Step) (a g : ℕ) (x : K) where
  module _ (weight : K → ℕ) (past : List K) (is : IsSizedPass eq weight past (pass_by_size positions ss n hs a g b)) where
    -- a key that is not known was not requested
    not_held : lookup (eq x) positions ≡ None → holds eq x past ≡ false
    not_held absent = sym (is.ranked.known x) ∙ ap is_some absent

    pub span_none : lookup (eq x) positions ≡ None → None ≡ span eq weight x past
    span_none absent = rw (not_held absent) refl

    module _ (same : SameWeights eq weight) (w : ℕ) (weighs : weight x ≡ w) (g' : ℕ) (greater : g' ≡ cond (nat_lt g w) w g) (ts : List Numbered) where
      pub IsSizedPass-new : lookup (eq x) positions ≡ None
          → ((t : ℕ) → total_from ts t ≡ total_from ss t + up_by (w + 1) t n)
          → IsSizedPass eq weight (x ∷ past) (pass_by_size ((x, n) ∷ positions) ts (n + 1) hs (a + (w + 1)) g' b)
      IsSizedPass-new absent counts =
          let size : w + 1 ≡ 1 + weight x = omega (arith, weighs) in
          let one : n + 1 ≡ suc n = omega arith in
          let sized : (t : ℕ) → total_from ts t ≡ total_from ss t + up_by (1 + weight x) t n = λ t. counts t ∙ ap (λ s. total_from ss t + up_by s t n) size in
          rw one (record {
            ranked = ranked_new eq laws positions n x (λ y. 1 + weight y) (total eq weight) (total_measures eq laws weight same) past (total_from ss) (total_from ts)
                is.ranked absent sized;
            hits = AreHits-new eq weight past hs x is.hits (not_held absent);
            requests = ap suc is.requests;
            held = rw (not_held absent) (omega (arith, sized 0, up_by-le (1 + weight x) 0 n (omega arith), is.held));
            size = omega (arith, weighs, is.size, sum_by-cons (λ y. 1 + weight y) x past);
            greatest = rw (greater, is.greatest, ← weighs) refl;
            latest = latest_moved eq laws past positions ((x, n) ∷ positions) n x is.requests is.latest (moved_new eq laws positions x n);
          })

      -- a key with a position was requested there
      module _ (p : ℕ) (found : lookup (eq x) positions ≡ Some p) where
        was_held : holds eq x past ≡ true
        was_held = sym (is.ranked.known x) ∙ ap is_some found

        -- of this size
        pub size_there : total_from ss p ≡ w + 1 + total_from ss (suc p)
        size_there = omega (arith, weighs, is.ranked.latest x p found)

        span_there : total_from ss p ≡ 1 + weight x + total eq weight (since eq x past)
        span_there = omega (arith, is.ranked.latest x p found, is.ranked.rank x p found)

        pub span_some : Some (total_from ss p) ≡ span eq weight x past
        span_some = rw was_held (ap (λ d. Some d) span_there)

        pub IsSizedPass-again : ((t : ℕ) → total_from ts t + up_by (w + 1) t p ≡ total_from ss t + up_by (w + 1) t n)
            → IsSizedPass eq weight (x ∷ past)
            (pass_by_size (set_value (eq x) positions n) ts (n + 1) (hs ++ step (total_from ss p) (w + 1) ∷ []) (a + (w + 1)) g' b)
        IsSizedPass-again counts =
            let size : w + 1 ≡ 1 + weight x = omega (arith, weighs) in
            let one : n + 1 ≡ suc n = omega arith in
            let sized : (t : ℕ) → total_from ts t + up_by (1 + weight x) t p ≡ total_from ss t + up_by (1 + weight x) t n =
            λ t. omega (arith, counts t, ap (λ s. up_by s t p) size, ap (λ s. up_by s t n) size) in
            rw (size, one, span_there) (record {
              ranked = ranked_again eq laws positions n x (λ y. 1 + weight y) (total eq weight) (total_measures eq laws weight same) past (total_from ss) (total_from ts)
                  is.ranked p found sized;
              hits = AreHits-again eq weight past hs x is.hits was_held;
              requests = ap suc is.requests;
              held = rw was_held (omega (arith, sized 0, up_by-le (1 + weight x) 0 n (omega arith), up_by-le (1 + weight x) 0 p (omega arith), is.held));
              size = omega (arith, is.size, sum_by-cons (λ y. 1 + weight y) x past);
              greatest = rw (greater, is.greatest, ← weighs) refl;
              latest = latest_moved eq laws past positions (set_value (eq x) positions n) n x is.requests is.latest (moved_again eq laws positions x n p found);
            })

  -- whatever the keys weigh
  module _ (nodes : List ℕ) (sound : IsSoundBySize eq nodes (pass_by_size positions ss n hs a g b)) (w g' : ℕ) (fits : a + (w + 1) < 2 ^ 64)
      (ts : List Numbered) (nodes' : List ℕ) (summed : IsSummed ts nodes' (n + 1)) (held : total_from ts 0 ≤ a + (w + 1)) where
    pub IsSoundBySize-new : lookup (eq x) positions ≡ None
        → ((t : ℕ) → live_from ts t ≡ live_from ss t + up_to t n)
        → IsSoundBySize eq nodes' (pass_by_size ((x, n) ∷ positions) ts (n + 1) hs (a + (w + 1)) g' b)
    IsSoundBySize-new absent counts =
        let one : n + 1 ≡ suc n = omega arith in
        record {
          summed = summed;
          past = x ∷ sound.past;
          ranked = rw one (ranked_new eq laws positions n x (λ y. 1) (distinct eq) (distinct_measures eq laws) sound.past (live_from ss) (live_from ts)
              sound.ranked absent counts);
          few_hits = omega (arith, sound.few_hits);
          many = omega (arith, sound.many);
          held = held;
          hit_sizes = omega (arith, sound.hit_sizes);
          fits = fits;
        }

    pub IsSoundBySize-again : (p s : ℕ) → lookup (eq x) positions ≡ Some p
        → ((t : ℕ) → live_from ts t + up_to t p ≡ live_from ss t + up_to t n)
        → IsSoundBySize eq nodes' (pass_by_size (set_value (eq x) positions n) ts (n + 1) (hs ++ step s (w + 1) ∷ []) (a + (w + 1)) g' b)
    IsSoundBySize-again p s found counts =
        let one : n + 1 ≡ suc n = omega arith in
        let more = length_push hs (step s (w + 1)) in
        record {
          summed = summed;
          past = x ∷ sound.past;
          ranked = rw one (ranked_again eq laws positions n x (λ y. 1) (distinct eq) (distinct_measures eq laws) sound.past (live_from ss) (live_from ts)
              sound.ranked p found counts);
          few_hits = omega (arith, sound.few_hits, more);
          many = omega (arith, sound.many);
          held = held;
          hit_sizes = omega (arith, sound.hit_sizes, sum_by_push (λ h. h.missed_size) hs (step s (w + 1)));
          fits = fits;
        }
