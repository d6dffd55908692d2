-- What a pass that holds no key has taken, after one more request.
use Rattle.std.proofs.Common.{◌≡◌, ℕ, suc, ◌+◌, ◌-◌, ◌<◌, ◌≤◌, Bool, true, false, cond, nat_le, List, [], ◌∷◌, ◌++◌, length, get_or, set, Option, Some, None, is_some, refl, sym, ap, ◌∙◌, subst, arith}
use Rattle.std.proofs.lemmas.Map.Entries.{length-keys_of}
use Rattle.std.specs.Cmp.{IsEquivalence}
use Rattle.std.specs.Map.{keys_of, lookup, set_value}
use Rattle.clru_model.specs.Ages.{is_recent}
use Rattle.clru_model.specs.Distances.{distance}
use Rattle.clru_model.specs.Requests.{IsLatestOf, holds, since}
use Rattle.clru_model.proofs.Cases.{split}
use Rattle.clru_model.proofs.Distinct.{since-cons}
use Rattle.clru_curve.specs.declared.numbered.Numbered.{Numbered}
use Rattle.clru_curve.specs.declared.seen.Seen.{Seen}
use Rattle.clru_curve.specs.Latest.{ones_from}
use Rattle.clru_curve.specs.PositionPasses.{IsPositionPass, counted}
use Rattle.clru_curve.specs.Seen.{positions_of, reuse_by, seen_at}
use Rattle.clru_curve.specs.Tree.{up_to}
use Rattle.clru_linked_map.proofs.KeyTables.{moved_again, moved_new}
use Rattle.clru_curve.proofs.IdlePassing.{IsIdlePass-again, IsIdlePass-new, IsIdlePass-none, IsIdlePass-same, absent_key, bit_there, distance_below, distance_some, number_few, recent_there, seen_known}
use Rattle.clru_curve.proofs.IdleReuses.{reuse-new}
use Rattle.clru_curve.proofs.Ranks.{same_some}

-- what is seen at the one place where it can be
some_seen : (o : Option Seen) (p n m : ℕ) → is_some o ≡ true → ((s : Seen) → o ≡ Some s → s.position + 1 + m ≡ n) → p + 1 + m ≡ n
    → (s : Seen) × (o ≡ Some s) × (s.position ≡ p)
some_seen None p n m is at here = absurd (cc)
some_seen (Some s) p n m is at here = (s, refl, omega (arith, at s refl, here))

same_position : (s t : Seen) → Some s ≡ Some t → s.position ≡ t.position
same_position s t is = ap (λ (q : Seen). q.position) (same_some is)

module _ {K : Type 0} (eq : K → K → Bool) where
  pub none_taken : IsEquivalence eq → (idle : ℕ) → IsPositionPass eq idle [] (counted [] 0 [])
  none_taken laws idle = record { seen = []; taken = IsIdlePass-none eq laws idle; latest = λ x s at. absurd (cc) }

  -- the same bits in other blocks
  pub taken_same : (idle : ℕ) (past : List (K × ℕ)) (bs cs : List Numbered) (n : ℕ) (h : List ℕ)
      → ((p : ℕ) → ones_from cs p ≡ ones_from bs p)
      → IsPositionPass eq idle past (counted bs n h) → IsPositionPass eq idle past (counted cs n h)
  taken_same idle past bs cs n h same is = record {
    seen = is.seen;
    taken = IsIdlePass-same eq idle past is.seen bs cs n h idle same is.taken;
    latest = is.latest;
  }

-- where each key was seen where its latest request is
module _ {K : Type 0} (eq : K → K → Bool) (past : List (K × ℕ)) (seen : List (K × Seen))
    (latest : (y : K) (s : Seen) → lookup (eq y) seen ≡ Some s → s.position + 1 + length (since eq y (keys_of past)) ≡ length past) (x : K) where
  -- so it is after one more request of x
  pub latest_more : IsEquivalence eq → (n t : ℕ) → n ≡ length past → (moved : List (K × Seen))
      → ((y : K) → lookup (eq y) moved ≡ cond (eq x y) (Some (seen_at n t)) (lookup (eq y) seen))
      → (y : K) (s : Seen) → lookup (eq y) moved ≡ Some s
      → s.position + 1 + length (since eq y (x ∷ keys_of past)) ≡ length ((x, t) ∷ past)
  latest_more laws n t all moved are y s at = split (eq x y)
      (λ u. let back : eq y x ≡ true = laws.symm y x ∙ u in
      let here : Some (seen_at n t) ≡ Some s = rw (are y, u) at at in
      let none : length (since eq y (x ∷ keys_of past)) ≡ 0 = rw (since-cons eq y x (keys_of past), back) refl in
      omega (arith, same_position (seen_at n t) s here, none, all))
      (λ f. let back : eq y x ≡ false = laws.symm y x ∙ f in
      let there : lookup (eq y) seen ≡ Some s = rw (are y, f) at at in
      let more : length (since eq y (x ∷ keys_of past)) ≡ suc (length (since eq y (keys_of past))) =
      rw (since-cons eq y x (keys_of past), back) refl in
      omega (arith, more, latest y s there))

  -- the position of the latest request of x is the one that is seen
  pub seen_there : ((y : K) → is_some (lookup (eq y) (positions_of seen)) ≡ holds eq y (keys_of past))
      → (p : ℕ) → IsLatestOf eq (keys_of past) x (Some p) → (s : Seen) × (lookup (eq x) seen ≡ Some s) × (s.position ≡ p)
  seen_there known p is = some_seen (lookup (eq x) seen) p (length past) (length (since eq x (keys_of past)))
      (seen_known eq (keys_of past) seen known x ∙ sym is.known) (latest x) (omega (arith, is.position, length-keys_of past))

module _ {K : Type 0} (eq : K → K → Bool) (laws : IsEquivalence eq) (idle : ℕ) (past : List (K × ℕ)) (bs : List Numbered) (n : ℕ)
    (h : List ℕ) (x : K) (t : ℕ) (is : IsPositionPass eq idle past (counted bs n h)) where
  -- one more request of a key that was not requested
  module _ (latest : IsLatestOf eq (keys_of past) x None) where
    pub none_reuse : None ≡ reuse_by eq (distance eq) idle (x, t) past
    none_reuse = sym (reuse-new eq (distance eq) idle (x, t) past (rw (sym latest.known) refl))

    pub taken_new : (cs : List Numbered) → ((p : ℕ) → ones_from cs p ≡ ones_from bs p + up_to p n)
        → IsPositionPass eq idle ((x, t) ∷ past) (counted cs (n + 1) (h ++ 0 ∷ []))
    taken_new cs counts = record {
      seen = (x, seen_at n t) ∷ is.seen;
      taken = IsIdlePass-new eq laws idle past is.seen bs n h idle x t is.taken cs
          (absent_key eq laws idle past is.seen bs n h idle x t is.taken (sym latest.known)) counts;
      latest = latest_more eq past is.seen is.latest x laws n t is.taken.requests ((x, seen_at n t) ∷ is.seen) (moved_new eq laws is.seen x (seen_at n t));
    }

  -- and of one that was, at this position
  module _ (p : ℕ) (latest : IsLatestOf eq (keys_of past) x (Some p)) where
    there : (s : Seen) × (lookup (eq x) is.seen ≡ Some s) × (s.position ≡ p)
    there = seen_there eq past is.seen is.latest x is.taken.ranked.known p latest

    pub was_latest : ones_from bs p ≡ suc (ones_from bs (suc p))
    was_latest = subst (λ q. ones_from bs q ≡ suc (ones_from bs (suc q))) there.2
        (bit_there eq laws idle past is.seen bs n h idle x t is.taken there.0 there.1)

    pub below : ones_from bs (suc p) < length h
    below = subst (λ q. ones_from bs (suc q) < length h) there.2
        (distance_below eq laws idle past is.seen bs n h idle x t is.taken there.0 there.1)

    pub few : get_or h (ones_from bs (suc p)) 0 ≤ n
    few = subst (λ q. get_or h (ones_from bs (suc q)) 0 ≤ n) there.2
        (number_few eq laws idle past is.seen bs n h idle x t is.taken there.0 there.1)

    -- it counts where it came soon enough
    module _ (soon : Bool) (so : soon ≡ is_recent eq (Some idle) (x, t) past) (d : ℕ) (at : d ≡ ones_from bs (suc p)) where
      near : soon ≡ nat_le (t - there.0.time) idle
      near = so ∙ recent_there eq laws idle past is.seen bs n h idle x t is.taken there.0 there.1

      distance_at : d ≡ ones_from bs (suc there.0.position)
      distance_at = at ∙ ap (λ q. ones_from bs (suc q)) (sym there.2)

      pub some_reuse : cond soon (Some d) None ≡ reuse_by eq (distance eq) idle (x, t) past
      some_reuse = ap (λ b. cond b (Some d) None) near
          ∙ distance_some eq laws idle past is.seen bs n h idle x t is.taken there.0 there.1 d distance_at

      pub taken_again : (cs : List Numbered) → ((q : ℕ) → ones_from cs q + up_to q p ≡ ones_from bs q + up_to q n)
          → IsPositionPass eq idle ((x, t) ∷ past) (counted cs (n + 1) (cond soon (set h d (get_or h d 0 + 1)) h))
      taken_again cs counts = subst (λ b. IsPositionPass eq idle ((x, t) ∷ past) (counted cs (n + 1) (cond b (set h d (get_or h d 0 + 1)) h))) (sym near)
          (record {
            seen = set_value (eq x) is.seen (seen_at n t);
            taken = IsIdlePass-again eq laws idle past is.seen bs n h idle x t is.taken there.0 there.1 d distance_at cs
                (λ q. subst (λ r. ones_from cs q + up_to q r ≡ ones_from bs q + up_to q n) (sym there.2) (counts q));
            latest = latest_more eq past is.seen is.latest x laws n t is.taken.requests (set_value (eq x) is.seen (seen_at n t))
                (moved_again eq laws is.seen x (seen_at n t) there.0 there.1);
          })
