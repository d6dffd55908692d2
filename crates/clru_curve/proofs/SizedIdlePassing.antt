-- What a pass over requests with times for keys with sizes has taken, after one more request.
use Rattle.std.proofs.Common.{◌≡◌, ℕ, suc, ◌+◌, ◌-◌, ◌^◌, ◌<◌, ◌≤◌, Bool, true, false, cond, nat_le, nat_lt, List, [], ◌∷◌, ◌++◌, reverse, Some, None, is_some, refl, sym, ap, ◌∙◌, arith}
use Rattle.std.proofs.lemmas.List.{length_push, reverse-reverse}
use Rattle.std.proofs.lemmas.List.Sums.{sum_by-cons, sum_by_push}
use Rattle.std.proofs.lemmas.List.Sorted.{sum_by-IsPermutation, IsPermutation-reverse, length_permutation}
use Rattle.std.proofs.lemmas.Map.{length-set_value}
use Rattle.std.specs.Cmp.{IsEquivalence}
use Rattle.std.specs.List.{sum_by}
use Rattle.std.specs.Map.{keys_of, lookup, set_value}
use Rattle.std.specs.Option.{option_map}
use Rattle.clru_model.proofs.Cases.{split}
use Rattle.clru_model.specs.Ages.{is_recent}
use Rattle.clru_model.specs.Requests.{holds, distinct, since}
use Rattle.clru_model.specs.Sizes.{SameWeights, total, span}
use Rattle.clru_linked_map.proofs.KeyTables.{moved_again, moved_new}
use Rattle.clru_curve.proofs.IdlePassing.{position_found, same_length, seen_known, positions_move, times_move}
use Rattle.clru_curve.proofs.IdleReuses.{reuse-late, reuse-soon, keys_of-reverse}
use Rattle.clru_curve.proofs.Ranks.{distinct_measures, IsRanked-none, IsRanked-new, IsRanked-again}
use Rattle.clru_curve.proofs.SizedCurves.{counts_by, sizes_by}
use Rattle.clru_curve.proofs.SizedIdleHits.{AreIdleHits-none, AreIdleHits-new, AreIdleHits-again}
use Rattle.clru_curve.proofs.Totals.{total_measures}
use Rattle.clru_curve.proofs.UpTo.{up_by-le}
use Rattle.clru_curve.specs.declared.numbered.Numbered.{Numbered}
use Rattle.clru_curve.specs.declared.seen.Seen.{Seen}
use Rattle.clru_curve.specs.declared.sized.step.Step.{Step}
use Rattle.clru_curve.specs.LatestSizes.{total_from, live_from, IsSummed}
use Rattle.clru_curve.specs.Seen.{seen_at, positions_of, reuse_by}
use Rattle.clru_curve.specs.SizedCurves.{CurveBySize, step, greatest_of, IsCurveOfHits}
use Rattle.clru_curve.specs.SizedIdlePasses.{TimedPassBySize, timed_pass_by_size, IsSizedIdlePass, IsSizedIdleCurveOf, IsSoundIdleBySize}
use Rattle.clru_curve.specs.Tree.{up_by, up_to}

module _ {K : Type 0} (eq : K → K → Bool) where
  -- before the first request
  pub IsSizedIdlePass-none : {S : Type 0} {b : S} → IsEquivalence eq → (weight : K → ℕ) (idle : ℕ) → IsSizedIdlePass eq weight idle [] (timed_pass_by_size [] [] 0 [] 0 0 idle b)
  IsSizedIdlePass-none laws weight idle = record {
    limit = refl;
    ranked = IsRanked-none eq (λ x. 1 + weight x) (total eq weight) (total_from []) (λ p. refl);
    times = λ x. refl;
    hits = AreIdleHits-none eq laws weight idle;
    requests = refl;
    held = refl;
    size = refl;
    greatest = refl;
  }

module _ {K S : Type 0} {b : S} (eq : K → K → Bool) (laws : IsEquivalence eq) (seen : List (K × Seen)) (ss : List Numbered) (n : ℕ) (hs : List Step) (a g l : ℕ) (x : K) (t : ℕ) where
  module _ (weight : K → ℕ) (idle : ℕ) (past : List (K × ℕ)) (is : IsSizedIdlePass eq weight idle past (timed_pass_by_size seen ss n hs a g l b)) where
    not_held : lookup (eq x) seen ≡ None → holds eq x (keys_of past) ≡ false
    not_held absent = sym (seen_known eq (keys_of past) seen is.ranked.known x) ∙ ap is_some absent

    module _ (same : SameWeights eq weight) (w : ℕ) (weighs : weight x ≡ w) (g' : ℕ) (greater : g' ≡ cond (nat_lt g w) w g) (ts : List Numbered) where
      pub IsSizedIdlePass-new : lookup (eq x) seen ≡ None
          → ((p : ℕ) → total_from ts p ≡ total_from ss p + up_by (w + 1) p n)
          → IsSizedIdlePass eq weight idle ((x, t) ∷ past) (timed_pass_by_size ((x, seen_at n t) ∷ seen) ts (n + 1) hs (a + (w + 1)) g' l b)
      IsSizedIdlePass-new absent counts =
          let here = seen_at n t in
          let size : w + 1 ≡ 1 + weight x = omega (arith, weighs) in
          let one : n + 1 ≡ suc n = omega arith in
          let moved = moved_new eq laws seen x here in
          let sized : (p : ℕ) → total_from ts p ≡ total_from ss p + up_by (1 + weight x) p n = λ p. counts p ∙ ap (λ s. total_from ss p + up_by s p n) size in
          rw one (record {
            limit = is.limit;
            ranked = IsRanked-new eq laws (λ y. 1 + weight y) (total eq weight) (total_measures eq laws weight same)
                (keys_of past) (positions_of seen) (positions_of ((x, here) ∷ seen)) n (total_from ss) (total_from ts) x is.ranked
                (positions_move eq laws seen ((x, here) ∷ seen) x n t moved) (not_held absent) sized (omega (arith, is.ranked.few));
            times = times_move eq laws seen ((x, here) ∷ seen) x n t moved past is.times;
            hits = AreIdleHits-new eq laws weight idle past hs (x, t) is.hits (not_held absent);
            requests = ap suc is.requests;
            held = rw (not_held absent) (omega (arith, sized 0, up_by-le (1 + weight x) 0 n (omega arith), is.held));
            size = omega (arith, weighs, is.size, sum_by-cons (λ y. 1 + weight y) x (keys_of past));
            greatest = rw (greater, is.greatest, ← weighs) refl;
          })

      -- a key that was seen was requested there
      module _ (s : Seen) (found : lookup (eq x) seen ≡ Some s) where
        was_held : holds eq x (keys_of past) ≡ true
        was_held = sym (seen_known eq (keys_of past) seen is.ranked.known x) ∙ ap is_some found

        -- of this size
        pub size_there : total_from ss s.position ≡ w + 1 + total_from ss (suc s.position)
        size_there = omega (arith, weighs, is.ranked.latest x s.position (position_found eq seen x s found))

        span_there : total_from ss s.position ≡ 1 + weight x + total eq weight (since eq x (keys_of past))
        span_there = omega (arith, is.ranked.latest x s.position (position_found eq seen x s found), is.ranked.rank x s.position (position_found eq seen x s found))

        -- the time is that of the latest request of the key
        pub recent_there : is_recent eq (Some idle) (x, t) past ≡ nat_le (t - s.time) l
        recent_there =
            let time : lookup (eq x) past ≡ Some s.time = sym (is.times x) ∙ ap (option_map (λ (q : Seen). q.time)) found in
            rw (time, is.limit) refl

        pub span_some : cond (nat_le (t - s.time) l) (Some (total_from ss s.position)) None ≡ reuse_by eq (span eq weight) idle (x, t) past
        span_some = split (nat_le (t - s.time) l)
            (λ u. rw u (sym (reuse-soon eq (span eq weight) idle (x, t) past (recent_there ∙ u) ∙ rw was_held (ap (λ k. Some k) (sym span_there)))))
            (λ f. rw f (sym (reuse-late eq (span eq weight) idle (x, t) past (recent_there ∙ f))))

        pub IsSizedIdlePass-again : ((p : ℕ) → total_from ts p + up_by (w + 1) p s.position ≡ total_from ss p + up_by (w + 1) p n)
            → IsSizedIdlePass eq weight idle ((x, t) ∷ past) (timed_pass_by_size (set_value (eq x) seen (seen_at n t)) ts (n + 1)
            (cond (nat_le (t - s.time) l) (hs ++ step (total_from ss s.position) (w + 1) ∷ []) hs) (a + (w + 1)) g' l b)
        IsSizedIdlePass-again counts =
            let here = seen_at n t in
            let size : w + 1 ≡ 1 + weight x = omega (arith, weighs) in
            let one : n + 1 ≡ suc n = omega arith in
            let moved = moved_again eq laws seen x here s found in
            let seen' = set_value (eq x) seen here in
            let sized : (p : ℕ) → total_from ts p + up_by (1 + weight x) p s.position ≡ total_from ss p + up_by (1 + weight x) p n =
            λ p. omega (arith, counts p, ap (λ z. up_by z p s.position) size, ap (λ z. up_by z p n) size) in
            rw (size, one, span_there) (record {
              limit = is.limit;
              ranked = IsRanked-again eq laws (λ y. 1 + weight y) (total eq weight) (total_measures eq laws weight same)
                  (keys_of past) (positions_of seen) (positions_of seen') n (total_from ss) (total_from ts) x is.ranked
                  (positions_move eq laws seen seen' x n t moved) s.position (position_found eq seen x s found) sized
                  (omega (arith, same_length eq seen', same_length eq seen, length-set_value (eq x) seen here, is.ranked.few));
              times = times_move eq laws seen seen' x n t moved past is.times;
              hits = AreIdleHits-again eq laws weight idle past hs (x, t) is.hits was_held (nat_le (t - s.time) l) recent_there;
              requests = ap suc is.requests;
              held = rw was_held (omega (arith, sized 0, up_by-le (1 + weight x) 0 n (omega arith), up_by-le (1 + weight x) 0 s.position (omega arith), is.held));
              size = omega (arith, is.size, sum_by-cons (λ y. 1 + weight y) x (keys_of past));
              greatest = rw (greater, is.greatest, ← weighs) refl;
            })

  -- whatever the keys weigh
  module _ (nodes : List ℕ) (sound : IsSoundIdleBySize eq nodes (timed_pass_by_size seen ss n hs a g l b)) (w g' : ℕ) (fits : a + (w + 1) < 2 ^ 64)
      (ts : List Numbered) (nodes' : List ℕ) (summed : IsSummed ts nodes' (n + 1)) (held : total_from ts 0 ≤ a + (w + 1)) where
    pub IsSoundIdleBySize-new : lookup (eq x) seen ≡ None
        → ((p : ℕ) → live_from ts p ≡ live_from ss p + up_to p n)
        → IsSoundIdleBySize eq nodes' (timed_pass_by_size ((x, seen_at n t) ∷ seen) ts (n + 1) hs (a + (w + 1)) g' l b)
    IsSoundIdleBySize-new absent counts =
        let here = seen_at n t in
        let one : n + 1 ≡ suc n = omega arith in
        let absent_there : holds eq x sound.past ≡ false = sym (seen_known eq sound.past seen sound.ranked.known x) ∙ ap is_some absent in
        record {
          summed = summed;
          past = x ∷ sound.past;
          ranked = rw one (IsRanked-new eq laws (λ y. 1) (distinct eq) (distinct_measures eq laws)
              sound.past (positions_of seen) (positions_of ((x, here) ∷ seen)) n (live_from ss) (live_from ts) x sound.ranked
              (positions_move eq laws seen ((x, here) ∷ seen) x n t (moved_new eq laws seen x here)) absent_there counts (omega (arith, sound.ranked.few)));
          few_hits = omega (arith, sound.few_hits);
          many = omega (arith, sound.many);
          held = held;
          hit_sizes = omega (arith, sound.hit_sizes);
          fits = fits;
        }

    pub IsSoundIdleBySize-again : (s : Seen) (soon : Bool) (m : ℕ) → lookup (eq x) seen ≡ Some s
        → ((p : ℕ) → live_from ts p + up_to p s.position ≡ live_from ss p + up_to p n)
        → IsSoundIdleBySize eq nodes' (timed_pass_by_size (set_value (eq x) seen (seen_at n t)) ts (n + 1)
        (cond soon (hs ++ step m (w + 1) ∷ []) hs) (a + (w + 1)) g' l b)
    IsSoundIdleBySize-again s soon m found counts =
        let here = seen_at n t in
        let one : n + 1 ≡ suc n = omega arith in
        let more = length_push hs (step m (w + 1)) in
        let longer = sum_by_push (λ h. h.missed_size) hs (step m (w + 1)) in
        let seen' = set_value (eq x) seen here in
        record {
          summed = summed;
          past = x ∷ sound.past;
          ranked = rw one (IsRanked-again eq laws (λ y. 1) (distinct eq) (distinct_measures eq laws)
              sound.past (positions_of seen) (positions_of seen') n (live_from ss) (live_from ts) x sound.ranked
              (positions_move eq laws seen seen' x n t (moved_again eq laws seen x here s found)) s.position
              (position_found eq seen x s found) counts
              (omega (arith, same_length eq seen', same_length eq seen, length-set_value (eq x) seen here, sound.ranked.few)));
          few_hits = split soon (λ u. rw u (omega (arith, sound.few_hits, more))) (λ f. rw f (omega (arith, sound.few_hits)));
          many = omega (arith, sound.many);
          held = held;
          hit_sizes = split soon (λ u. rw u (omega (arith, sound.hit_sizes, longer))) (λ f. rw f (omega (arith, sound.hit_sizes)));
          fits = fits;
        }

-- the hits of a pass make the curve of its requests
pub IsSizedIdleCurveOf-by : {K S : Type 0} (eq : K → K → Bool) (weight : K → ℕ) (idle : ℕ) (past : List (K × ℕ)) (p : TimedPassBySize K S) (curve : CurveBySize)
    (hits : List Step) (n d : ℕ) → IsSizedIdlePass eq weight idle past p → hits ≡ p.hits → n ≡ p.requests → d ≡ total_from p.sizes 0
    → IsCurveOfHits hits n p.size d p.greatest curve → IsSizedIdleCurveOf eq weight idle (reverse past) curve
IsSizedIdleCurveOf-by eq weight idle past p curve hits n d is from all held of =
    let long = length_permutation past (reverse past) (IsPermutation-reverse past) in
    let keys = keys_of-reverse past in
    let turned = ap reverse keys ∙ reverse-reverse (keys_of past) in
    record {
      misses = λ c. omega (arith, counts_by p.hits hits n p.size d p.greatest curve from of c, of.requests_in_all, all, is.requests, is.hits.misses c);
      missed_size = λ c. omega (arith, sizes_by p.hits hits n p.size d p.greatest curve from of c, of.size_in_all, is.size, is.hits.size c);
      requests_in_all = omega (arith, of.requests_in_all, all, is.requests, long);
      size = omega (
        arith,
        of.size_in_all,
        is.size,
        sum_by-IsPermutation (λ x. 1 + weight x) (keys_of past) (reverse (keys_of past)) (IsPermutation-reverse (keys_of past)),
        ap (sum_by (λ x. 1 + weight x)) keys,
      );
      distinct_size = of.distinct_size_in_all ∙ held ∙ is.held ∙ ap (total eq weight) (sym turned);
      greatest_weight = of.greatest ∙ is.greatest ∙ ap (greatest_of weight) (sym turned);
    }
