-- What a pass over requests with times has taken, after one more request.
use Rattle.std.proofs.Common.{◌≡◌, ℕ, suc, ◌+◌, ◌-◌, ◌<◌, ◌≤◌, Bool, true, false, cond, nat_le, List, [], ◌∷◌, ◌++◌, length, get_or, set, take, reverse, Option, Some, None, is_some, refl, sym, ap, ◌∙◌, subst, arith}
use Rattle.std.proofs.lemmas.List.{length-map}
use Rattle.std.proofs.lemmas.Map.{length-set_value}
use Rattle.std.proofs.lemmas.Map.Made.{lookup-map_values}
use Rattle.std.specs.Cmp.{IsEquivalence}
use Rattle.std.specs.Map.{keys_of, lookup, set_value}
use Rattle.std.specs.Option.{option_map}
use Rattle.std.specs.Prelude.{sum}
use Rattle.clru_linked_map.proofs.KeyTables.{moved_again, moved_new}
use Rattle.clru_model.specs.Ages.{is_recent}
use Rattle.clru_model.specs.Distances.{distance}
use Rattle.clru_model.specs.Requests.{holds, distinct, since}
use Rattle.clru_model.proofs.Cases.{split}
use Rattle.clru_curve.specs.declared.numbered.Numbered.{Numbered}
use Rattle.clru_curve.specs.declared.seen.Seen.{Seen}
use Rattle.clru_curve.specs.IdlePasses.{TimedPass, timed_pass, IsIdlePass, HasIdleMissesOf}
use Rattle.clru_curve.specs.Latest.{ones_from}
use Rattle.clru_curve.specs.Seen.{seen_at, positions_of, AreTimes, reuse_by}
use Rattle.clru_curve.specs.Tree.{up_to}
use Rattle.clru_curve.proofs.IdleHistograms.{IsIdleHistogram-none, IsIdleHistogram-new, IsIdleHistogram-again, idle_distance_inside, idle_distance_few, HasIdleMissesOf-by}
use Rattle.clru_curve.proofs.IdleReuses.{reuse-late, reuse-soon}
use Rattle.clru_curve.proofs.Ranks.{distinct_measures, IsRanked-none, IsRanked-same, IsRanked-new, IsRanked-again}

-- what was seen has a position
some_either : (o : Option Seen) → is_some o ≡ is_some (option_map (λ s. s.position) o)
some_either None = refl
some_either (Some s) = refl

none_of : (o : Option Seen) → is_some o ≡ false → o ≡ None
none_of None is = refl
none_of (Some s) is = absurd (cc)

module _ {K : Type 0} (eq : K → K → Bool) where
  -- the position of a key
  pub position_at : (test : K → Bool) (seen : List (K × Seen)) → lookup test (positions_of seen) ≡ option_map (λ s. s.position) (lookup test seen)
  position_at test seen = lookup-map_values (λ s. s.position) test seen

  pub position_found : (seen : List (K × Seen)) (x : K) (s : Seen) → lookup (eq x) seen ≡ Some s → lookup (eq x) (positions_of seen) ≡ Some s.position
  position_found seen x s found = position_at (eq x) seen ∙ ap (option_map (λ (q : Seen). q.position)) found

  -- the keys that were seen are those with positions
  pub seen_known : (past : List K) (seen : List (K × Seen)) → ((x : K) → is_some (lookup (eq x) (positions_of seen)) ≡ holds eq x past)
      → (x : K) → is_some (lookup (eq x) seen) ≡ holds eq x past
  seen_known past seen known x = some_either (lookup (eq x) seen) ∙ ap is_some (sym (position_at (eq x) seen)) ∙ known x

  -- a key that was not requested was not seen
  pub unseen : (past : List K) (seen : List (K × Seen)) → ((x : K) → is_some (lookup (eq x) (positions_of seen)) ≡ holds eq x past)
      → (x : K) → holds eq x past ≡ false → lookup (eq x) seen ≡ None
  unseen past seen known x new = none_of (lookup (eq x) seen) (seen_known past seen known x ∙ new)

  pub same_length : (seen : List (K × Seen)) → length (positions_of seen) ≡ length seen
  same_length seen = length-map seen (λ e. (e.0, e.1.position))

  -- a request of x, the n-th of all, at the time t, took the place of what was seen of x
  module _ (laws : IsEquivalence eq) (seen seen' : List (K × Seen)) (x : K) (n t : ℕ)
      (moved : (y : K) → lookup (eq y) seen' ≡ cond (eq x y) (Some (seen_at n t)) (lookup (eq y) seen)) where
    pub positions_move : (y : K) → lookup (eq y) (positions_of seen') ≡ cond (eq x y) (Some n) (lookup (eq y) (positions_of seen))
    positions_move y = position_at (eq y) seen' ∙ ap (option_map (λ s. s.position)) (moved y)
        ∙ split (eq x y) (λ u. rw u refl) (λ f. rw f (sym (position_at (eq y) seen)))

    pub times_move : (past : List (K × ℕ)) → AreTimes eq past seen → AreTimes eq ((x, t) ∷ past) seen'
    times_move past are y = ap (option_map (λ s. s.time)) (moved y)
        ∙ split (eq x y)
        (λ u. let back : eq y x ≡ true = laws.symm y x ∙ u in rw (u, back) refl)
        (λ f. let back : eq y x ≡ false = laws.symm y x ∙ f in rw (f, back) (are y))

  -- before the first request
  pub IsIdlePass-none : {S : Type 0} {b : S} → IsEquivalence eq → (idle : ℕ) → IsIdlePass eq idle [] (timed_pass [] [] 0 [] idle b)
  IsIdlePass-none laws idle = record {
    limit = refl;
    ranked = IsRanked-none eq (λ x. 1) (distinct eq) (ones_from []) (λ p. refl);
    times = λ x. refl;
    counted = IsIdleHistogram-none eq laws idle;
    requests = refl;
  }

  -- the same bits in other blocks
  pub IsIdlePass-same : {S : Type 0} {b : S} (idle : ℕ) (past : List (K × ℕ)) (seen : List (K × Seen)) (bs cs : List Numbered) (n : ℕ) (h : List ℕ) (l : ℕ)
      → ((p : ℕ) → ones_from cs p ≡ ones_from bs p) → IsIdlePass eq idle past (timed_pass seen bs n h l b)
      → IsIdlePass eq idle past (timed_pass seen cs n h l b)
  IsIdlePass-same idle past seen bs cs n h l same is = record {
    limit = is.limit;
    ranked = IsRanked-same eq (λ x. 1) (distinct eq) (keys_of past) (positions_of seen) n (ones_from bs) (ones_from cs) same is.ranked;
    times = is.times;
    counted = is.counted;
    requests = is.requests;
  }

module _ {K S : Type 0} {b : S} (eq : K → K → Bool) (laws : IsEquivalence eq) (idle : ℕ) (past : List (K × ℕ)) (seen : List (K × Seen)) (bs : List Numbered) (n : ℕ)
    (h : List ℕ) (l : ℕ) (x : K) (t : ℕ) (is : IsIdlePass eq idle past (timed_pass seen bs n h l b)) where
  -- a key that is not known was not requested
  not_held : lookup (eq x) seen ≡ None → holds eq x (keys_of past) ≡ false
  not_held absent = sym (seen_known eq (keys_of past) seen is.ranked.known x) ∙ ap is_some absent

  -- and one that was not requested is not known
  pub absent_key : holds eq x (keys_of past) ≡ false → lookup (eq x) seen ≡ None
  absent_key new = unseen eq (keys_of past) seen is.ranked.known x new

  pub IsIdlePass-new : (cs : List Numbered) → lookup (eq x) seen ≡ None → ((p : ℕ) → ones_from cs p ≡ ones_from bs p + up_to p n)
      → IsIdlePass eq idle ((x, t) ∷ past) (timed_pass ((x, seen_at n t) ∷ seen) cs (n + 1) (h ++ 0 ∷ []) l b)
  IsIdlePass-new cs absent counts =
      let here = seen_at n t in
      let one : n + 1 ≡ suc n = omega arith in
      let moved = moved_new eq laws seen x here in
      rw one (record {
        limit = is.limit;
        ranked = IsRanked-new eq laws (λ y. 1) (distinct eq) (distinct_measures eq laws)
            (keys_of past) (positions_of seen) (positions_of ((x, here) ∷ seen)) n (ones_from bs) (ones_from cs) x is.ranked
            (positions_move eq laws seen ((x, here) ∷ seen) x n t moved) (not_held absent) counts
            (omega (arith, is.ranked.few));
        times = times_move eq laws seen ((x, here) ∷ seen) x n t moved past is.times;
        counted = IsIdleHistogram-new eq laws idle past h (x, t) is.counted (not_held absent);
        requests = ap suc is.requests;
      })

  -- a key that was seen was requested there, and then
  module _ (s : Seen) (found : lookup (eq x) seen ≡ Some s) where
    was_held : holds eq x (keys_of past) ≡ true
    was_held = sym (seen_known eq (keys_of past) seen is.ranked.known x) ∙ ap is_some found

    rank_there : ones_from bs (suc s.position) ≡ distinct eq (since eq x (keys_of past))
    rank_there = is.ranked.rank x s.position (position_found eq seen x s found)

    pub bit_there : ones_from bs s.position ≡ suc (ones_from bs (suc s.position))
    bit_there = omega (arith, is.ranked.latest x s.position (position_found eq seen x s found))

    pub distance_below : ones_from bs (suc s.position) < length h
    distance_below = omega (arith, idle_distance_inside eq laws idle past h (x, t) is.counted was_held, rank_there)

    pub number_few : get_or h (ones_from bs (suc s.position)) 0 ≤ n
    number_few =
        let few = idle_distance_few eq laws idle past h (x, t) is.counted was_held in
        omega (arith, few, is.requests, ap (λ d. get_or h d 0) rank_there)

    -- the time is that of the latest request of the key
    pub recent_there : is_recent eq (Some idle) (x, t) past ≡ nat_le (t - s.time) l
    recent_there =
        let time : lookup (eq x) past ≡ Some s.time = sym (is.times x) ∙ ap (option_map (λ (q : Seen). q.time)) found in
        rw (time, is.limit) refl

    pub distance_some : (d : ℕ) → d ≡ ones_from bs (suc s.position)
        → cond (nat_le (t - s.time) l) (Some d) None ≡ reuse_by eq (distance eq) idle (x, t) past
    distance_some d at = split (nat_le (t - s.time) l)
        (λ u. rw u (sym (reuse-soon eq (distance eq) idle (x, t) past (recent_there ∙ u) ∙ rw was_held (ap (λ k. Some k) (sym (at ∙ rank_there))))))
        (λ f. rw f (sym (reuse-late eq (distance eq) idle (x, t) past (recent_there ∙ f))))

    pub IsIdlePass-again : (d : ℕ) → d ≡ ones_from bs (suc s.position)
        → (cs : List Numbered) → ((q : ℕ) → ones_from cs q + up_to q s.position ≡ ones_from bs q + up_to q n)
        → IsIdlePass eq idle ((x, t) ∷ past)
        (timed_pass (set_value (eq x) seen (seen_at n t)) cs (n + 1) (cond (nat_le (t - s.time) l) (set h d (get_or h d 0 + 1)) h) l b)
    IsIdlePass-again d at cs counts =
        let here = seen_at n t in
        let one : n + 1 ≡ suc n = omega arith in
        let moved = moved_again eq laws seen x here s found in
        let seen' = set_value (eq x) seen here in
        rw one (record {
          limit = is.limit;
          ranked = IsRanked-again eq laws (λ y. 1) (distinct eq) (distinct_measures eq laws)
              (keys_of past) (positions_of seen) (positions_of seen') n (ones_from bs) (ones_from cs) x is.ranked
              (positions_move eq laws seen seen' x n t moved) s.position (position_found eq seen x s found) counts
              (omega (arith, same_length eq seen', same_length eq seen, length-set_value (eq x) seen here, is.ranked.few));
          times = times_move eq laws seen seen' x n t moved past is.times;
          counted = IsIdleHistogram-again eq laws idle past h (x, t) is.counted was_held (nat_le (t - s.time) l) recent_there d (at ∙ rank_there);
          requests = ap suc is.requests;
        })

module _ {K S : Type 0} (eq : K → K → Bool) (idle : ℕ) (past : List (K × ℕ)) (p : TimedPass K S) (old curve result : List ℕ)
    (is : IsIdlePass eq idle past p) (from : old ≡ p.histogram) where
  -- no sum of the numbers passes that of the requests
  pub sums_within : (k : ℕ) → sum (take k old) ≤ p.requests
  sums_within k = omega (arith, is.counted.hits k, is.requests, ap (λ h. sum (take k h)) from)

  module _ (to : result ≡ curve) (len : length curve ≡ length old) where
    pub curve_distinct : length result ≡ distinct eq (keys_of past)
    curve_distinct = ap (λ l. length l) to ∙ len ∙ ap (λ l. length l) from ∙ is.counted.distinct

    pub curve_misses : ((i : ℕ) → i < length old → get_or curve i 0 + sum (take (suc i) old) ≡ p.requests)
        → HasIdleMissesOf eq idle (reverse past) result
    curve_misses at =
        subst (λ l. HasIdleMissesOf eq idle (reverse past) l) (sym to)
        (HasIdleMissesOf-by eq idle past p.histogram curve is.counted (len ∙ ap (λ l. length l) from)
        (λ i within. let here = at i (omega (arith, within, ap (λ l. length l) from)) in
        omega (arith, here, ap (λ h. sum (take (suc i) h)) from, is.requests)))
