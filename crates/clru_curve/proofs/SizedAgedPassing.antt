-- What a pass over requests with times for keys with sizes has taken under an age limit, after one more request.
use Rattle.std.proofs.Common.{◌≡◌, ℕ, zero, suc, ◌+◌, ◌-◌, ◌^◌, ◌<◌, ◌≤◌, Bool, true, false, cond, ◌&&◌, nat_le, nat_lt, List, [], ◌∷◌, ◌++◌, length, map, replicate, get_or, ◌*◌, ◌/◌, Option, Some, None, is_some, inl, inr, refl, sym, ap, ◌∙◌, subst, arith}
use Rattle.std.proofs.lemmas.List.{length-map, length-append, length-replicate, get_or_append_left}
use Rattle.std.proofs.lemmas.List.Sums.{sum_by-cons}
use Rattle.std.proofs.lemmas.Map.{length-set_value}
use Rattle.std.proofs.lemmas.Map.Made.{lookup-map_values}
use Rattle.std.proofs.lemmas.Option.{same_Some}
use Rattle.std.specs.Cmp.{IsEquivalence}
use Rattle.std.specs.Map.{keys_of, lookup, set_value}
use Rattle.std.specs.Option.{option_map}
use Rattle.clru_linked_map.proofs.KeyTables.{moved_again, moved_new}
use Rattle.clru_model.proofs.Cases.{split}
use Rattle.clru_model.proofs.Lookups.{lookup-same}
use Rattle.clru_model.specs.Ages.{is_in_limit}
use Rattle.clru_model.specs.Requests.{holds, distinct, since}
use Rattle.clru_model.specs.Sizes.{SameWeights, total}
use Rattle.clru_curve.specs.declared.fetches.Fetched.{Fetched}
use Rattle.clru_curve.specs.declared.numbered.Numbered.{Numbered}
use Rattle.clru_curve.specs.declared.seen.Seen.{Seen}
use Rattle.clru_curve.specs.Fetches.{fetched_at, seens_of, is_row_hit, AreCounted, AreFetched}
use Rattle.clru_curve.specs.LatestSizes.{total_from, live_from, IsSummed}
use Rattle.clru_curve.specs.Seen.{seen_at, positions_of}
use Rattle.clru_curve.specs.SizedAgedPasses.{AgedPassBySize, fetch_table, aged_pass_by_size, AreAligned, IsSizedAgedPass, IsSoundAgedBySize, IsApart}
use Rattle.clru_curve.specs.Tree.{up_by, up_to}
use Rattle.clru_curve.proofs.AgedRows.{new_misses, known_hits, IsAgedRow-step}
use Rattle.clru_curve.proofs.FetchTables.{AreCounted-below}
use Rattle.clru_curve.proofs.IdlePassing.{position_found, seen_known, positions_move, times_move}
use Rattle.clru_curve.proofs.Ranks.{distinct_measures, IsRanked-none, IsRanked-new, IsRanked-again}
use Rattle.clru_curve.proofs.SizedPassing.{IsSoundBySize-none, IsSoundBySize-nodes}
use Rattle.clru_curve.proofs.Totals.{total_measures}
use Rattle.clru_curve.proofs.UpTo.{up_by-le}

zeros : (n i : ℕ) → ◌≡◌ {A = ℕ} (get_or (replicate n 0) i 0) 0
zeros zero i = refl
zeros (suc n) zero = refl
zeros (suc n) (suc i) = zeros n i

module _ {K : Type 0} (eq : K → K → Bool) where
  -- what was seen of a key
  pub seen_of : (test : K → Bool) (seen : List (K × Fetched)) → lookup test (seens_of seen) ≡ option_map (λ f. f.seen) (lookup test seen)
  seen_of test seen = lookup-map_values (λ f. f.seen) test seen

  pub seen_found : (seen : List (K × Fetched)) (x : K) (s : Fetched) → lookup (eq x) seen ≡ Some s → lookup (eq x) (seens_of seen) ≡ Some s.seen
  seen_found seen x s found = seen_of (eq x) seen ∙ ap (option_map (λ (q : Fetched). q.seen)) found

  pub many_seen : (seen : List (K × Fetched)) → length (positions_of (seens_of seen)) ≡ length seen
  many_seen seen = length-map (seens_of seen) (λ e. (e.0, e.1.position)) ∙ length-map seen (λ e. (e.0, e.1.seen))

  -- a key is known exactly where it was requested
  pub fetched_known : (past : List K) (seen : List (K × Fetched)) → ((x : K) → is_some (lookup (eq x) (positions_of (seens_of seen))) ≡ holds eq x past)
      → (x : K) → is_some (lookup (eq x) seen) ≡ holds eq x past
  fetched_known past seen known x =
      some_either (lookup (eq x) seen) ∙ ap is_some (sym (seen_of (eq x) seen)) ∙ seen_known eq past (seens_of seen) known x
    where
      some_either : (o : Option Fetched) → is_some o ≡ is_some (option_map (λ f. f.seen) o)
      some_either None = refl
      some_either (Some f) = refl

  pub AreAligned-new : IsEquivalence eq → (n : ℕ) (seen : List (K × Fetched)) (x : K) (here : Seen) (f : ℕ) → AreAligned eq n seen
      → f / n * n ≡ f → AreAligned eq n ((x, fetched_at here f) ∷ seen)
  AreAligned-new laws n seen x here f are fits y s at = split (eq x y)
      (λ u. let same : Some (fetched_at here f) ≡ Some s = rw (moved_new eq laws seen x (fetched_at here f) y, u) at at in
      subst (λ k. k / n * n ≡ k) (ap (λ (r : Fetched). r.first) (same_Some (fetched_at here f) s same)) fits)
      (λ v. are y s (rw (moved_new eq laws seen x (fetched_at here f) y, v) at at))

  pub AreAligned-again : IsEquivalence eq → (n : ℕ) (seen : List (K × Fetched)) (x : K) (here : Seen) (s : Fetched) → AreAligned eq n seen
      → lookup (eq x) seen ≡ Some s → AreAligned eq n (set_value (eq x) seen (fetched_at here s.first))
  AreAligned-again laws n seen x here s are found y t at = split (eq x y)
      (λ u. let same : Some (fetched_at here s.first) ≡ Some t = rw (moved_again eq laws seen x (fetched_at here s.first) s found y, u) at at in
      subst (λ k. k / n * n ≡ k) (ap (λ (r : Fetched). r.first) (same_Some (fetched_at here s.first) t same)) (are x s found))
      (λ v. are y t (rw (moved_again eq laws seen x (fetched_at here s.first) s found y, v) at at))

  seens_move : (seen seen' : List (K × Fetched)) (x : K) (here : Seen) (f : ℕ)
      → ((y : K) → lookup (eq y) seen' ≡ cond (eq x y) (Some (fetched_at here f)) (lookup (eq y) seen))
      → (y : K) → lookup (eq y) (seens_of seen') ≡ cond (eq x y) (Some here) (lookup (eq y) (seens_of seen))
  seens_move seen seen' x here f moved y = seen_of (eq y) seen' ∙ ap (option_map (λ s. s.seen)) (moved y)
      ∙ split (eq x y) (λ u. rw u refl) (λ v. rw v (sym (seen_of (eq y) seen)))

  -- before the first request
  pub IsSizedAgedPass-none : {S : Type 0} {b : S} → IsEquivalence eq → (weight : K → ℕ) (cs : List ℕ) (idle : Option ℕ) (age : ℕ)
      → IsSizedAgedPass eq weight cs idle age [] (aged_pass_by_size [] [] 0 (fetch_table cs (replicate (length cs) 0) (replicate (length cs) 0) [] age) 0 0 idle b)
  IsSizedAgedPass-none laws weight cs idle age = record {
    places = refl;
    idle_limit = refl;
    age_limit = refl;
    ranked = IsRanked-none eq (λ x. 1 + weight x) (total eq weight) (total_from []) (λ p. refl);
    times = λ x. refl;
    rows = λ i inside. record {
      misses = zeros (length cs) i;
      missed_size = zeros (length cs) i;
      fetched = λ x s at. cc;
    };
    requests = refl;
    held = refl;
    size = refl;
    greatest = refl;
  }

  pub IsSoundAgedBySize-none : {S : Type 0} {b : S} (cs nodes : List ℕ) (age : ℕ) (idle : Option ℕ) → IsSummed [] nodes 0
      → IsSoundAgedBySize eq nodes (aged_pass_by_size [] [] 0 (fetch_table cs (replicate (length cs) 0) (replicate (length cs) 0) [] age) 0 0 idle b)
  IsSoundAgedBySize-none cs nodes age idle summed = record {
    sound = IsSoundBySize-none eq nodes summed;
    misses_length = length-replicate (length cs) 0;
    missed_length = length-replicate (length cs) 0;
    few = λ i. omega (arith, zeros (length cs) i);
    small = λ i. omega (arith, zeros (length cs) i);
    inside = λ x s at. cc;
    apart = λ x y s t at. cc;
  }

  -- it holds over other nodes that have the same sums
  pub IsSoundAgedBySize-nodes : {S : Type 0} {nodes nodes' : List ℕ} {p : AgedPassBySize K S} → IsSummed p.sizes nodes' p.requests
      → IsSoundAgedBySize eq nodes p → IsSoundAgedBySize eq nodes' p
  IsSoundAgedBySize-nodes summed s = record {
    sound = IsSoundBySize-nodes eq summed s.sound;
    misses_length = s.misses_length;
    missed_length = s.missed_length;
    few = s.few;
    small = s.small;
    inside = s.inside;
    apart = s.apart;
  }

module _ {K S : Type 0} {b : S} (eq : K → K → Bool) (laws : IsEquivalence eq) (seen : List (K × Fetched)) (ss : List Numbered) (n : ℕ)
    (ps ms zs ts : List ℕ) (ag a g : ℕ) (l : Option ℕ) (x : K) (t : ℕ) (nodes : List ℕ)
    (sound : IsSoundAgedBySize eq nodes (aged_pass_by_size seen ss n (fetch_table ps ms zs ts ag) a g l b)) where
  -- what was noted of other keys stays within their own times
  others_stay : (hits : ℕ → Bool) (f : ℕ) (us ts' : List ℕ) (x : K) → AreFetched hits (length ps) f t us ts'
      → ((q : ℕ) → q < length ts → get_or us q 0 ≡ get_or ts q 0)
      → ((y : K) (q : Fetched) → lookup (eq y) seen ≡ Some q → eq x y ≡ false → IsApart eq (length ps) f q.first)
      → (i : ℕ) → i < length ps → (y : K) (q : Fetched) → lookup (eq y) seen ≡ Some q → eq x y ≡ false
      → get_or ts' (q.first + i) 0 ≡ get_or ts (q.first + i) 0
  others_stay hits f us ts' x are same apart i inside y q at other =
      let within = same (q.first + i) (omega (arith, sound.inside y q at, inside)) in
      elim (apart y q at other) [
        | inl before ↦ are.above (q.first + i) (omega (arith, before)) ∙ within
        | inr after ↦ are.below (q.first + i) (omega (arith, after, inside)) ∙ within
      ]

  module _ (weight : K → ℕ) (cs : List ℕ) (idle : Option ℕ) (age : ℕ) (past : List (K × ℕ))
      (is : IsSizedAgedPass eq weight cs idle age past (aged_pass_by_size seen ss n (fetch_table ps ms zs ts ag) a g l b)) where
    not_held : lookup (eq x) seen ≡ None → holds eq x (keys_of past) ≡ false
    not_held absent = sym (fetched_known eq (keys_of past) seen is.ranked.known x) ∙ ap is_some absent

    module _ (same : SameWeights eq weight) (w : ℕ) (weighs : weight x ≡ w) (g' : ℕ) (greater : g' ≡ cond (nat_lt g w) w g) (ss' : List Numbered)
        (ms' zs' ts' : List ℕ) where
      size : w + 1 ≡ 1 + weight x
      size = omega (arith, weighs)

      pub IsSizedAgedPass-new : lookup (eq x) seen ≡ None
          → ((p : ℕ) → total_from ss' p ≡ total_from ss p + up_by (w + 1) p n)
          → AreCounted (λ i. false) (length ps) 1 ms ms'
          → AreCounted (λ i. false) (length ps) (w + 1) zs zs'
          → AreFetched (λ i. false) (length ps) (length ts) t (ts ++ replicate (length ps) t) ts'
          → IsSizedAgedPass eq weight cs idle age ((x, t) ∷ past)
          (aged_pass_by_size ((x, fetched_at (seen_at n t) (length ts)) ∷ seen) ss' (n + 1) (fetch_table ps ms' zs' ts' ag) (a + (w + 1)) g' l b)
      IsSizedAgedPass-new absent counts misses sizes times =
          let here = seen_at n t in let seen' = (x, fetched_at here (length ts)) ∷ seen in
          let one : n + 1 ≡ suc n = omega arith in
          let moved = moved_new eq laws seen x (fetched_at here (length ts)) in
          let seens = seens_move eq seen seen' x here (length ts) moved in
          let sized : (p : ℕ) → total_from ss' p ≡ total_from ss p + up_by (1 + weight x) p n = λ p. counts p ∙ ap (λ s. total_from ss p + up_by s p n) size in
          rw one (record {
            places = is.places;
            idle_limit = is.idle_limit;
            age_limit = is.age_limit;
            ranked = IsRanked-new eq laws (λ y. 1 + weight y) (total eq weight) (total_measures eq laws weight same)
                (keys_of past) (positions_of (seens_of seen)) (positions_of (seens_of seen')) n (total_from ss) (total_from ss') x is.ranked
                (positions_move eq laws (seens_of seen) (seens_of seen') x n t seens) (not_held absent) sized (omega (arith, is.ranked.few));
            times = times_move eq laws (seens_of seen) (seens_of seen') x n t seens past is.times;
            rows = λ i inside.
                let within : i < length ps = omega (arith, inside, ap (λ k. length k) is.places) in
                IsAgedRow-step eq laws weight idle age past seen ms zs ts i (get_or cs i 0) x t (is.rows i inside) seen' ms' zs' ts' false here (length ts)
                (new_misses eq laws weight idle age past seen ms zs ts i (get_or cs i 0) x t (not_held absent)) moved
                (misses.counted i within) (sizes.counted i within ∙ ap (λ k. get_or zs i 0 + k) size)
                (λ yes. cc) (λ no. times.fetched i within)
                (others_stay (λ i. false) (length ts) (ts ++ replicate (length ps) t) ts' x times
                (λ q low. get_or_append_left ts (replicate (length ps) t) 0 q low)
                (λ y q at other. inr (sound.inside y q at)) i within);
            requests = ap suc is.requests;
            held = rw (not_held absent) (omega (arith, sized 0, up_by-le (1 + weight x) 0 n (omega arith), is.held));
            size = omega (arith, weighs, is.size, sum_by-cons (λ y. 1 + weight y) x (keys_of past));
            greatest = rw (greater, is.greatest, ← weighs) refl;
          })

      -- a key that was seen was requested there
      module _ (s : Fetched) (found : lookup (eq x) seen ≡ Some s) where
        place : lookup (eq x) (positions_of (seens_of seen)) ≡ Some s.seen.position
        place = position_found eq (seens_of seen) x s.seen (seen_found eq seen x s found)

        was_held : holds eq x (keys_of past) ≡ true
        was_held = sym (fetched_known eq (keys_of past) seen is.ranked.known x) ∙ ap is_some found

        -- of this size
        pub size_there : total_from ss s.seen.position ≡ w + 1 + total_from ss (suc s.seen.position)
        size_there = omega (arith, weighs, is.ranked.latest x s.seen.position place)

        span_there : total_from ss s.seen.position ≡ 1 + weight x + total eq weight (since eq x (keys_of past))
        span_there = omega (arith, is.ranked.latest x s.seen.position place, is.ranked.rank x s.seen.position place)

        time_there : lookup (eq x) past ≡ Some s.seen.time
        time_there = sym (is.times x) ∙ ap (option_map (λ (q : Seen). q.time)) (seen_found eq seen x s found)

        pub IsSizedAgedPass-again : (soon : Bool) (span : ℕ) → soon ≡ is_in_limit l (t - s.seen.time) → span ≡ total_from ss s.seen.position
            → ((p : ℕ) → total_from ss' p + up_by (w + 1) p s.seen.position ≡ total_from ss p + up_by (w + 1) p n)
            → AreCounted (is_row_hit soon span t ag s.first ps ts) (length ps) 1 ms ms'
            → AreCounted (is_row_hit soon span t ag s.first ps ts) (length ps) (w + 1) zs zs'
            → AreFetched (is_row_hit soon span t ag s.first ps ts) (length ps) s.first t ts ts'
            → IsSizedAgedPass eq weight cs idle age ((x, t) ∷ past)
            (aged_pass_by_size (set_value (eq x) seen (fetched_at (seen_at n t) s.first)) ss' (n + 1) (fetch_table ps ms' zs' ts' ag) (a + (w + 1)) g' l b)
        IsSizedAgedPass-again soon span within_limit spans counts misses sizes times =
            let here = seen_at n t in let seen' = set_value (eq x) seen (fetched_at here s.first) in
            let one : n + 1 ≡ suc n = omega arith in
            let moved = moved_again eq laws seen x (fetched_at here s.first) s found in
            let seens = seens_move eq seen seen' x here s.first moved in
            let sized : (p : ℕ) → total_from ss' p + up_by (1 + weight x) p s.seen.position ≡ total_from ss p + up_by (1 + weight x) p n =
            λ p. omega (arith, counts p, ap (λ z. up_by z p s.seen.position) size, ap (λ z. up_by z p n) size) in
            let hits = is_row_hit soon span t ag s.first ps ts in
            rw one (record {
              places = is.places;
              idle_limit = is.idle_limit;
              age_limit = is.age_limit;
              ranked = IsRanked-again eq laws (λ y. 1 + weight y) (total eq weight) (total_measures eq laws weight same)
                  (keys_of past) (positions_of (seens_of seen)) (positions_of (seens_of seen')) n (total_from ss) (total_from ss') x is.ranked
                  (positions_move eq laws (seens_of seen) (seens_of seen') x n t seens) s.seen.position place sized
                  (omega (arith, many_seen eq seen', many_seen eq seen, length-set_value (eq x) seen (fetched_at here s.first), is.ranked.few));
              times = times_move eq laws (seens_of seen) (seens_of seen') x n t seens past is.times;
              rows = λ i inside.
                  let within : i < length ps = omega (arith, inside, ap (λ k. length k) is.places) in
                  let row = is.rows i inside in
                  let hit = known_hits eq laws weight idle age past seen ms zs ts i (get_or cs i 0) x t row s s.seen.time span found was_held time_there
                  (spans ∙ span_there) in
                  let as_row : (is_in_limit idle (t - s.seen.time) && (nat_le span (get_or cs i 0) && nat_le (t - get_or ts (s.first + i) 0) age)) ≡ hits i =
                  rw (within_limit, is.places, is.age_limit, is.idle_limit) refl in
                  IsAgedRow-step eq laws weight idle age past seen ms zs ts i (get_or cs i 0) x t row seen' ms' zs' ts' (hits i) here s.first
                  (hit ∙ as_row) moved
                  (misses.counted i within) (sizes.counted i within ∙ ap (λ k. get_or zs i 0 + cond (hits i) 0 k) size)
                  (λ yes. let stays : get_or ts' (s.first + i) 0 ≡ get_or ts (s.first + i) 0 = times.fetched i within ∙ rw yes refl in
                  row.fetched x s found ∙ ap Some (sym stays))
                  (λ no. times.fetched i within ∙ rw no refl)
                  (others_stay hits s.first ts ts' x times (λ q low. refl)
                  (λ y q at other. sound.apart x y s q found at other) i within);
              requests = ap suc is.requests;
              held = rw was_held (omega (arith, sized 0, up_by-le (1 + weight x) 0 n (omega arith), up_by-le (1 + weight x) 0 s.seen.position (omega arith), is.held));
              size = omega (arith, is.size, weighs, sum_by-cons (λ y. 1 + weight y) x (keys_of past));
              greatest = rw (greater, is.greatest, ← weighs) refl;
            })

  -- whatever the keys weigh
  module _ (w g' : ℕ) (fits : a + (w + 1) < 2 ^ 64) (ss' : List Numbered) (nodes' : List ℕ) (summed : IsSummed ss' nodes' (n + 1))
      (held : total_from ss' 0 ≤ a + (w + 1)) (hits : ℕ → Bool) (ms' zs' ts' : List ℕ)
      (misses : AreCounted hits (length ps) 1 ms ms') (sizes : AreCounted hits (length ps) (w + 1) zs zs') where
    pub IsSoundAgedBySize-new : lookup (eq x) seen ≡ None → ((p : ℕ) → live_from ss' p ≡ live_from ss p + up_to p n)
        → AreFetched hits (length ps) (length ts) t (ts ++ replicate (length ps) t) ts'
        → IsSoundAgedBySize eq nodes' (aged_pass_by_size ((x, fetched_at (seen_at n t) (length ts)) ∷ seen) ss' (n + 1) (fetch_table ps ms' zs' ts' ag) (a + (w + 1)) g' l b)
    IsSoundAgedBySize-new absent counts times =
        let here = seen_at n t in let seen' = (x, fetched_at here (length ts)) ∷ seen in
        let one : n + 1 ≡ suc n = omega arith in
        let moved = moved_new eq laws seen x (fetched_at here (length ts)) in
        let seens = seens_move eq seen seen' x here (length ts) moved in
        let absent_there : holds eq x sound.sound.past ≡ false = sym (fetched_known eq sound.sound.past seen sound.sound.ranked.known x) ∙ ap is_some absent in
        let longer : length ts' ≡ length ts + length ps =
        times.same_length ∙ length-append ts (replicate (length ps) t) ∙ ap (λ k. length ts + k) (length-replicate (length ps) t) in
        record {
          sound = record {
            summed = summed;
            past = x ∷ sound.sound.past;
            ranked = rw one (IsRanked-new eq laws (λ y. 1) (distinct eq) (distinct_measures eq laws)
                sound.sound.past (positions_of (seens_of seen)) (positions_of (seens_of seen')) n (live_from ss) (live_from ss') x sound.sound.ranked
                (positions_move eq laws (seens_of seen) (seens_of seen') x n t seens) absent_there counts (omega (arith, sound.sound.ranked.few)));
            few_hits = omega arith;
            many = omega (arith, sound.sound.many);
            held = held;
            hit_sizes = omega arith;
            fits = fits;
          };
          misses_length = misses.same_length ∙ sound.misses_length;
          missed_length = sizes.same_length ∙ sound.missed_length;
          few = AreCounted-below hits (length ps) 1 n ms ms' misses sound.few;
          small = AreCounted-below hits (length ps) (w + 1) a zs zs' sizes sound.small;
          inside = λ y q at. split (eq x y)
              (λ u. let is : Some (fetched_at here (length ts)) ≡ Some q = rw (moved y, u) at at in
              omega (arith, longer, ap (λ (r : Fetched). r.first) (same_Some (fetched_at here (length ts)) q is)))
              (λ v. omega (arith, longer, sound.inside y q (rw (moved y, v) at at)));
          apart = λ y z p q at_y at_z other. split (eq x y)
              (λ u. let is : Some (fetched_at here (length ts)) ≡ Some p = rw (moved y, u) at at_y in
              let first = ap (λ (r : Fetched). r.first) (same_Some (fetched_at here (length ts)) p is) in
              let else : eq x z ≡ false = laws.congr x y z u ∙ other in
              inr (omega (arith, first, sound.inside z q (rw (moved z, else) at at_z))))
              (λ v. split (eq x z)
              (λ u. let is : Some (fetched_at here (length ts)) ≡ Some q = rw (moved z, u) at at_z in
              let first = ap (λ (r : Fetched). r.first) (same_Some (fetched_at here (length ts)) q is) in
              inl (omega (arith, first, sound.inside y p (rw (moved y, v) at at_y))))
              (λ u. sound.apart y z p q (rw (moved y, v) at at_y) (rw (moved z, u) at at_z) other));
        }

    pub IsSoundAgedBySize-again : (s : Fetched) → lookup (eq x) seen ≡ Some s
        → ((p : ℕ) → live_from ss' p + up_to p s.seen.position ≡ live_from ss p + up_to p n)
        → AreFetched hits (length ps) s.first t ts ts'
        → IsSoundAgedBySize eq nodes' (aged_pass_by_size (set_value (eq x) seen (fetched_at (seen_at n t) s.first)) ss' (n + 1) (fetch_table ps ms' zs' ts' ag) (a + (w + 1)) g' l b)
    IsSoundAgedBySize-again s found counts times =
        let here = seen_at n t in let seen' = set_value (eq x) seen (fetched_at here s.first) in
        let one : n + 1 ≡ suc n = omega arith in
        let moved = moved_again eq laws seen x (fetched_at here s.first) s found in
        let seens = seens_move eq seen seen' x here s.first moved in
        let before : (y : K) (q : Fetched) → lookup (eq y) seen' ≡ Some q → (r : Fetched) × (lookup (eq y) seen ≡ Some r) × (r.first ≡ q.first) =
        λ y q at. split (eq x y)
        (λ u. let is : Some (fetched_at here s.first) ≡ Some q = rw (moved y, u) at at in
        (s, lookup-same laws x y u seen ∙ found, ap (λ (r : Fetched). r.first) (same_Some (fetched_at here s.first) q is)))
        (λ v. (q, rw (moved y, v) at at, refl)) in
        record {
          sound = record {
            summed = summed;
            past = x ∷ sound.sound.past;
            ranked = rw one (IsRanked-again eq laws (λ y. 1) (distinct eq) (distinct_measures eq laws)
                sound.sound.past (positions_of (seens_of seen)) (positions_of (seens_of seen')) n (live_from ss) (live_from ss') x sound.sound.ranked
                (positions_move eq laws (seens_of seen) (seens_of seen') x n t seens) s.seen.position
                (position_found eq (seens_of seen) x s.seen (seen_found eq seen x s found)) counts
                (omega (arith, many_seen eq seen', many_seen eq seen, length-set_value (eq x) seen (fetched_at here s.first), sound.sound.ranked.few)));
            few_hits = omega arith;
            many = omega (arith, sound.sound.many);
            held = held;
            hit_sizes = omega arith;
            fits = fits;
          };
          misses_length = misses.same_length ∙ sound.misses_length;
          missed_length = sizes.same_length ∙ sound.missed_length;
          few = AreCounted-below hits (length ps) 1 n ms ms' misses sound.few;
          small = AreCounted-below hits (length ps) (w + 1) a zs zs' sizes sound.small;
          inside = λ y q at. let (r, old, first) = before y q at in omega (arith, sound.inside y r old, first, times.same_length);
          apart = λ y z p q at_y at_z other.
              let (r, old, first) = before y p at_y in let (v, old_z, first_z) = before z q at_z in
              elim (sound.apart y z r v old old_z other) [
                | inl low ↦ inl (omega (arith, low, first, first_z))
                | inr high ↦ inr (omega (arith, high, first, first_z))
              ];
        }

-- the numbers at each capacity make a list
pub rows_map : (f : ℕ → ℕ) (cs ms : List ℕ) → length ms ≡ length cs → ((i : ℕ) → i < length cs → get_or ms i 0 ≡ f (get_or cs i 0)) → ms ≡ map f cs
rows_map f [] [] same at = refl
rows_map f [] (m ∷ ms) same at = absurd (omega (arith, same))
rows_map f (c ∷ cs) [] same at = absurd (omega (arith, same))
rows_map f (c ∷ cs) (m ∷ ms) same at =
    let here = at 0 (omega arith) in
    let rest = rows_map f cs ms (omega (arith, same)) (λ i inside. at (suc i) (omega (arith, inside))) in
    cc
