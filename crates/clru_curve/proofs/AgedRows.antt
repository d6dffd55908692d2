-- The misses at one capacity under an age limit, their size and the times of fetches, after one more request.
use Rattle.std.proofs.Common.{◌≡◌, ℕ, ◌+◌, ◌-◌, Bool, true, false, cond, ◌&&◌, nat_le, List, ◌∷◌, get_or, Option, Some, refl, sym, ap, ◌∙◌, arith}
use Rattle.std.proofs.lemmas.Option.{same_Some}
use Rattle.std.specs.Cmp.{IsEquivalence}
use Rattle.std.specs.Map.{keys_of, lookup}
use Rattle.clru_model.proofs.Cases.{split}
use Rattle.clru_model.proofs.Lookups.{lookup-same}
use Rattle.clru_model.specs.Ages.{is_in_limit, is_recent, aged_hit}
use Rattle.clru_model.specs.Requests.{holds, since}
use Rattle.clru_model.specs.Sizes.{total, hit_by_size}
use Rattle.clru_curve.specs.declared.fetches.Fetched.{Fetched}
use Rattle.clru_curve.specs.declared.seen.Seen.{Seen}
use Rattle.clru_curve.specs.Fetches.{fetched_at}
use Rattle.clru_curve.specs.SizedAgedPasses.{fetches_of, IsAgedRow}
use Rattle.clru_curve.proofs.AgedMarks.{aged_misses-cons, aged_missed-cons, fetched-hit, fetched-miss}

module _ {K : Type 0} (eq : K → K → Bool) (laws : IsEquivalence eq) (weight : K → ℕ) (idle : Option ℕ) (age : ℕ)
    (past : List (K × ℕ)) (seen : List (K × Fetched)) (ms ss ts : List ℕ) (i c : ℕ) (x : K) (t : ℕ) where
  -- whether the request of x at the time t hits
  abbrev here_hits : Bool
  here_hits = aged_hit eq (hit_by_size eq weight c) idle (Some age) (x, t) past (fetches_of eq (hit_by_size eq weight c) idle (Some age) past)

  -- a key that was not requested misses
  pub new_misses : holds eq x (keys_of past) ≡ false → here_hits ≡ false
  new_misses absent = rw absent refl

  module _ (row : IsAgedRow eq weight idle age past seen ms ss ts i c) where
    -- and one that was hits by its span, and by the times of its latest request and fetch
    pub known_hits : (s : Fetched) (time span : ℕ) → lookup (eq x) seen ≡ Some s → holds eq x (keys_of past) ≡ true
        → lookup (eq x) past ≡ Some time → span ≡ 1 + weight x + total eq weight (since eq x (keys_of past))
        → here_hits ≡ (is_in_limit idle (t - time) && (nat_le span c && nat_le (t - get_or ts (s.first + i) 0) age))
    known_hits s time span found held at spans =
        let young = row.fetched x s found in
        let spanned : hit_by_size eq weight c x (keys_of past) ≡ nat_le span c = rw (held, spans) refl in
        let soon : is_recent eq idle (x, t) past ≡ is_in_limit idle (t - time) = rw at refl in
        let recent : is_recent eq (Some age) (x, t) (fetches_of eq (hit_by_size eq weight c) idle (Some age) past)
        ≡ nat_le (t - get_or ts (s.first + i) 0) age = rw young refl in
        rw (spanned, soon, recent) (turned_and (nat_le span c) (is_in_limit idle (t - time)) (nat_le (t - get_or ts (s.first + i) 0) age))
      where
        turned_and : (p q r : Bool) → ((p && q) && r) ≡ (q && (p && r))
        turned_and true true r = refl
        turned_and true false r = refl
        turned_and false true r = refl
        turned_and false false r = refl

    -- after it
    pub IsAgedRow-step : (seen' : List (K × Fetched)) (ms' ss' ts' : List ℕ) (b : Bool) (s : Seen) (f : ℕ) → here_hits ≡ b
        → ((y : K) → lookup (eq y) seen' ≡ cond (eq x y) (Some (fetched_at s f)) (lookup (eq y) seen))
        → get_or ms' i 0 ≡ get_or ms i 0 + cond b 0 1
        → get_or ss' i 0 ≡ get_or ss i 0 + cond b 0 (1 + weight x)
        → (b ≡ true → lookup (eq x) (fetches_of eq (hit_by_size eq weight c) idle (Some age) past) ≡ Some (get_or ts' (f + i) 0))
        → (b ≡ false → get_or ts' (f + i) 0 ≡ t)
        → ((y : K) (q : Fetched) → lookup (eq y) seen ≡ Some q → eq x y ≡ false → get_or ts' (q.first + i) 0 ≡ get_or ts (q.first + i) 0)
        → IsAgedRow eq weight idle age ((x, t) ∷ past) seen' ms' ss' ts' i c
    IsAgedRow-step seen' ms' ss' ts' b s f hits moved misses sizes own_hit own_miss others = record {
      misses =
          let one = aged_misses-cons eq (hit_by_size eq weight c) idle (Some age) (x, t) past in
          let same : cond here_hits 0 1 ≡ cond b 0 1 = ap {B = ℕ} (λ h. cond h 0 1) hits in
          omega (arith, one, same, misses, row.misses);
      missed_size =
          let one = aged_missed-cons eq (hit_by_size eq weight c) idle (Some age) weight (x, t) past in
          let same : cond here_hits 0 (1 + weight x) ≡ cond b 0 (1 + weight x) = ap {B = ℕ} (λ h. cond h 0 (1 + weight x)) hits in
          omega (arith, one, same, sizes, row.missed_size);
      fetched = λ y q at. split (eq x y)
          (λ u.
          let back : eq y x ≡ true = laws.symm y x ∙ u in
          let same : Some (fetched_at s f) ≡ Some q = rw (moved y, u) at at in
          let first : f ≡ q.first = ap (λ (r : Fetched). r.first) (same_Some (fetched_at s f) q same) in
          split b
          (λ yes.
          let stay = fetched-hit eq (hit_by_size eq weight c) idle (Some age) (x, t) past (hits ∙ yes) in
          ap (lookup (eq y)) stay ∙ lookup-same laws x y u (fetches_of eq (hit_by_size eq weight c) idle (Some age) past)
          ∙ own_hit yes ∙ ap (λ k. Some (get_or ts' (k + i) 0)) first)
          (λ no.
          let more = fetched-miss eq (hit_by_size eq weight c) idle (Some age) (x, t) past (hits ∙ no) in
          let there : lookup (eq y) ((x, t) ∷ fetches_of eq (hit_by_size eq weight c) idle (Some age) past) ≡ Some t = rw back refl in
          ap (lookup (eq y)) more ∙ there ∙ ap Some (sym (own_miss no) ∙ ap (λ k. get_or ts' (k + i) 0) first)))
          (λ v.
          let back : eq y x ≡ false = laws.symm y x ∙ v in
          let old : lookup (eq y) seen ≡ Some q = rw (moved y, v) at at in
          let was = row.fetched y q old in
          let stays = ap Some (sym (others y q old v)) in
          split b
          (λ yes. ap (lookup (eq y)) (fetched-hit eq (hit_by_size eq weight c) idle (Some age) (x, t) past (hits ∙ yes)) ∙ was ∙ stays)
          (λ no.
          let there : lookup (eq y) ((x, t) ∷ fetches_of eq (hit_by_size eq weight c) idle (Some age) past)
          ≡ lookup (eq y) (fetches_of eq (hit_by_size eq weight c) idle (Some age) past) = rw back refl in
          ap (lookup (eq y)) (fetched-miss eq (hit_by_size eq weight c) idle (Some age) (x, t) past (hits ∙ no)) ∙ there ∙ was ∙ stays));
    }
