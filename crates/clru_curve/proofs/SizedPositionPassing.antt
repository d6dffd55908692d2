-- What a pass by size that holds no key has taken, after one more request, and its curve.
use Rattle.std.proofs.Common.{◌≡◌, ℕ, suc, ◌+◌, ◌-◌, ◌^◌, ◌<◌, ◌≤◌, Bool, true, false, cond, nat_le, nat_lt, List, [], ◌∷◌, ◌++◌, length, reverse, Option, Some, None, IfSome, refl, sym, ap, ◌∙◌, subst, arith}
use Rattle.std.proofs.lemmas.Bool.{le-leb}
use Rattle.std.proofs.lemmas.List.{length_push, reverse-reverse}
use Rattle.std.proofs.lemmas.List.Sums.{sum_by-cons, sum_by_push}
use Rattle.std.proofs.lemmas.Map.Entries.{length-keys_of}
use Rattle.std.specs.Cmp.{IsEquivalence}
use Rattle.std.specs.List.{All, sum_by}
use Rattle.std.specs.Map.{keys_of, lookup, set_value}
use Rattle.std.specs.Option.{option_map}
use Rattle.std.specs.Prelude.{⊤}
use Rattle.clru_model.proofs.Spans.{room_misses_first}
use Rattle.clru_model.specs.Ages.{is_recent}
use Rattle.clru_model.specs.Requests.{IsLatestOf, distinct}
use Rattle.clru_model.specs.Sizes.{SameWeights, misses_by_size, missed_size, span, total}
use Rattle.clru_curve.specs.declared.numbered.Numbered.{Numbered}
use Rattle.clru_curve.specs.declared.seen.Seen.{Seen}
use Rattle.clru_curve.specs.declared.sized.step.Step.{Step}
use Rattle.clru_curve.specs.LatestSizes.{IsLiveAt, total_from, IsSummed}
use Rattle.clru_curve.specs.Rising.{IsRising}
use Rattle.clru_curve.specs.Seen.{positions_of, reuse_by, seen_at}
use Rattle.clru_curve.specs.SizedCurves.{CurveBySize, step, hits_within, IsCurveOfHits, IsSizedCurveOf}
use Rattle.clru_curve.specs.SizedIdlePasses.{AreIdleHits, IsSizedIdleCurveOf, timed_pass_by_size}
use Rattle.clru_curve.specs.SizedPasses.{AreHits, IsSizedPass, pass_by_size}
use Rattle.clru_curve.specs.SizedPositionPasses.{CountedBySize, counted_by_size, IsSizedPositionPass, IsSoundCountedBySize}
use Rattle.clru_curve.specs.Tree.{up_by}
use Rattle.clru_linked_map.proofs.KeyTables.{moved_again, moved_new}
use Rattle.clru_curve.proofs.IdlePassing.{position_at, position_found, unseen}
use Rattle.clru_curve.proofs.IdleReuses.{keys_of-reverse, reuse-new}
use Rattle.clru_curve.proofs.LatestSizes.{live_falls}
use Rattle.clru_curve.proofs.PositionPassing.{latest_more, seen_there}
use Rattle.clru_curve.proofs.Ranks.{same_some}
use Rattle.clru_curve.proofs.SizedCurves.{IsSizedCurveOf-by}
use Rattle.clru_curve.proofs.SizedHits.{count_by-cons}
use Rattle.clru_curve.proofs.SizedIdlePassing.{IsSizedIdleCurveOf-by, IsSizedIdlePass-again, IsSizedIdlePass-new, IsSizedIdlePass-none, recent_there, span_some}
use Rattle.clru_curve.proofs.Timeless.{all_reversed, missed_size_timeless, sized_misses_timeless}

-- before the first request
pub none_taken : {K : Type 0} (eq : K → K → Bool) → IsEquivalence eq → (weight : K → ℕ) (idle : ℕ)
    → IsSizedPositionPass eq weight idle [] (counted_by_size [] 0 [] 0 0)
none_taken eq laws weight idle = record { seen = []; taken = IsSizedIdlePass-none eq laws weight idle; latest = λ x s at. absurd (cc) }

pub sound_none : (nodes : List ℕ) → IsSummed [] nodes 0 → IsSoundCountedBySize nodes (counted_by_size [] 0 [] 0 0)
sound_none nodes summed = record {
  summed = summed;
  few_hits = omega arith;
  many = omega arith;
  held = omega arith;
  hit_sizes = omega arith;
  fits = omega arith;
}

-- what holds of every pass, whatever the keys weighed
module _ (nodes : List ℕ) (c : CountedBySize) (sound : IsSoundCountedBySize nodes c) (nodes' : List ℕ) where
  -- over other nodes that have the same sums
  pub sound_nodes : IsSummed c.sizes nodes' c.requests → IsSoundCountedBySize nodes' c
  sound_nodes summed = record {
    summed = summed;
    few_hits = sound.few_hits;
    many = sound.many;
    held = sound.held;
    hit_sizes = sound.hit_sizes;
    fits = sound.fits;
  }

  -- and after one more request
  module _ (w g : ℕ) (fits : c.size + (w + 1) < 2 ^ 64) (ts : List Numbered) (summed : IsSummed ts nodes' (c.requests + 1))
      (held : total_from ts 0 ≤ c.size + (w + 1)) where
    pub sound_new : IsSoundCountedBySize nodes' (counted_by_size ts (c.requests + 1) c.hits (c.size + (w + 1)) g)
    sound_new = record {
      summed = summed;
      few_hits = omega (arith, sound.few_hits);
      many = omega (arith, sound.many);
      held = held;
      hit_sizes = omega (arith, sound.hit_sizes);
      fits = fits;
    }

    pub sound_again : (soon : Bool) (m : ℕ)
        → IsSoundCountedBySize nodes' (counted_by_size ts (c.requests + 1) (cond soon (c.hits ++ step m (w + 1) ∷ []) c.hits) (c.size + (w + 1)) g)
    sound_again false m = sound_new
    sound_again true m = record {
      summed = summed;
      few_hits = omega (arith, sound.few_hits, length_push c.hits (step m (w + 1)));
      many = omega (arith, sound.many);
      held = held;
      hit_sizes = omega (arith, sound.hit_sizes, sum_by_push (λ h. h.missed_size) c.hits (step m (w + 1)));
      fits = fits;
    }

module _ {K : Type 0} (eq : K → K → Bool) (laws : IsEquivalence eq) (weight : K → ℕ) (idle : ℕ) (past : List (K × ℕ)) (c : CountedBySize) (x : K) (t : ℕ)
    (is : IsSizedPositionPass eq weight idle past c) where
  -- one more request of a key that was not requested
  module _ (latest : IsLatestOf eq (keys_of past) x None) where
    pub none_reuse : None ≡ reuse_by eq (span eq weight) idle (x, t) past
    none_reuse = sym (reuse-new eq (span eq weight) idle (x, t) past (rw (sym latest.known) refl))

    pub taken_new : SameWeights eq weight → (w : ℕ) → weight x ≡ w → (g : ℕ) → g ≡ cond (nat_lt c.greatest w) w c.greatest → (ts : List Numbered)
        → ((q : ℕ) → total_from ts q ≡ total_from c.sizes q + up_by (w + 1) q c.requests)
        → IsSizedPositionPass eq weight idle ((x, t) ∷ past) (counted_by_size ts (c.requests + 1) c.hits (c.size + (w + 1)) g)
    taken_new same w weighs g greater ts counts = record {
      seen = (x, seen_at c.requests t) ∷ is.seen;
      taken = IsSizedIdlePass-new eq laws is.seen c.sizes c.requests c.hits c.size c.greatest idle x t weight idle past is.taken same w weighs g greater ts
          (unseen eq (keys_of past) is.seen is.taken.ranked.known x (sym latest.known)) counts;
      latest = latest_more eq past is.seen is.latest x laws c.requests t is.taken.requests ((x, seen_at c.requests t) ∷ is.seen)
          (moved_new eq laws is.seen x (seen_at c.requests t));
    }

  -- and of one that was, at this position
  module _ (p : ℕ) (latest : IsLatestOf eq (keys_of past) x (Some p)) (w : ℕ) (weighs : weight x ≡ w) where
    there : (s : Seen) × (lookup (eq x) is.seen ≡ Some s) × (s.position ≡ p)
    there = seen_there eq past is.seen is.latest x is.taken.ranked.known p latest

    -- of this size
    pub size_at : total_from c.sizes p ≡ w + 1 + total_from c.sizes (suc p)
    size_at = subst (λ q. total_from c.sizes q ≡ w + 1 + total_from c.sizes (suc q)) there.2
        (omega (arith, weighs, is.taken.ranked.latest x there.0.position (position_found eq is.seen x there.0 there.1)))

    was_live : (high : ℕ) → IsRising 0 c.sizes high → IsLiveAt c.sizes p
    was_live high rising = live_falls 0 c.sizes high p rising (omega (arith, size_at))

    -- it can hit where it came soon enough
    module _ (same : SameWeights eq weight) (soon : Bool) (so : soon ≡ is_recent eq (Some idle) (x, t) past) (m : ℕ) (at : m ≡ total_from c.sizes p) where
      near : soon ≡ nat_le (t - there.0.time) idle
      near = so ∙ recent_there eq laws is.seen c.sizes c.requests c.hits c.size c.greatest idle x t weight idle past is.taken same w weighs
          (cond (nat_lt c.greatest w) w c.greatest) refl c.sizes there.0 there.1

      span_at : m ≡ total_from c.sizes there.0.position
      span_at = at ∙ ap (total_from c.sizes) (sym there.2)

      pub some_reuse : cond soon (Some m) None ≡ reuse_by eq (span eq weight) idle (x, t) past
      some_reuse = ap (λ b. cond b (Some m) None) near ∙ ap (λ s. cond (nat_le (t - there.0.time) idle) (Some s) None) span_at
          ∙ span_some eq laws is.seen c.sizes c.requests c.hits c.size c.greatest idle x t weight idle past is.taken same w weighs
          (cond (nat_lt c.greatest w) w c.greatest) refl c.sizes there.0 there.1

      pub taken_again : (g : ℕ) → g ≡ cond (nat_lt c.greatest w) w c.greatest → (ts : List Numbered)
          → ((q : ℕ) → total_from ts q + up_by (w + 1) q p ≡ total_from c.sizes q + up_by (w + 1) q c.requests)
          → IsSizedPositionPass eq weight idle ((x, t) ∷ past)
          (counted_by_size ts (c.requests + 1) (cond soon (c.hits ++ step m (w + 1) ∷ []) c.hits) (c.size + (w + 1)) g)
      taken_again g greater ts counts =
          subst (λ b. IsSizedPositionPass eq weight idle ((x, t) ∷ past)
          (counted_by_size ts (c.requests + 1) (cond b (c.hits ++ step m (w + 1) ∷ []) c.hits) (c.size + (w + 1)) g)) (sym near)
          (subst (λ s. IsSizedPositionPass eq weight idle ((x, t) ∷ past)
          (counted_by_size ts (c.requests + 1) (cond (nat_le (t - there.0.time) idle) (c.hits ++ step s (w + 1) ∷ []) c.hits) (c.size + (w + 1)) g)) (sym span_at)
          (record {
            seen = set_value (eq x) is.seen (seen_at c.requests t);
            taken = IsSizedIdlePass-again eq laws is.seen c.sizes c.requests c.hits c.size c.greatest idle x t weight idle past is.taken same w weighs
                g greater ts there.0 there.1
                (λ q. subst (λ r. total_from ts q + up_by (w + 1) q r ≡ total_from c.sizes q + up_by (w + 1) q c.requests) (sym there.2) (counts q));
            latest = latest_more eq past is.seen is.latest x laws c.requests t is.taken.requests (set_value (eq x) is.seen (seen_at c.requests t))
                (moved_again eq laws is.seen x (seen_at c.requests t) there.0 there.1);
          }))

  -- what was its latest request, if it was one, has a size
  pub latest_live : (o : Option ℕ) → IsLatestOf eq (keys_of past) x o → (w : ℕ) → weight x ≡ w → (high : ℕ) → IsRising 0 c.sizes high
      → IfSome o (λ p. IsLiveAt c.sizes p)
  latest_live None latest w weighs high rising = tt
  latest_live (Some p) latest w weighs high rising = was_live p latest w weighs high rising

-- with room for all spans together each is within
all_within : (c : ℕ) (hits : List Step) → sum_by (λ h. h.capacity) hits ≤ c → hits_within c hits ≡ length hits
all_within c [] room = refl
all_within c (h ∷ hs) room =
    let both = sum_by-cons (λ g. g.capacity) h hs in
    let here : nat_le h.capacity c ≡ true = le-leb h.capacity c (omega (arith, room, both)) in
    let one : cond (nat_le h.capacity c) 1 0 + hits_within c hs ≡ suc (hits_within c hs) = rw here (omega arith) in
    count_by-cons (λ g. nat_le g.capacity c) h hs ∙ one ∙ ap suc (all_within c hs (omega (arith, room, both)))

some_position : (o : Option Seen) (q : ℕ) → option_map (λ s. s.position) o ≡ Some q → (s : Seen) × (o ≡ Some s) × (s.position ≡ q)
some_position None q at = absurd (cc)
some_position (Some s) q at = (s, refl, same_some at)

-- without times what was taken is what a pass without times takes
module _ {K : Type 0} (eq : K → K → Bool) (laws : IsEquivalence eq) (weight : K → ℕ) (same : SameWeights eq weight) (idle : ℕ) (past : List (K × ℕ))
    (timeless : All (λ r. r.1 ≡ 0) past) where
  back : All (λ r. r.1 ≡ 0) (reverse past)
  back = all_reversed (λ r. r.1 ≡ 0) past timeless

  pub hits_timeless : (hits : List Step) → AreIdleHits eq weight idle past hits → AreHits eq weight (keys_of past) hits
  hits_timeless hits are = record {
    misses = misses;
    size = λ c. omega (
      arith,
      are.size c,
      missed_size_timeless eq laws idle (reverse past) back weight c,
      ap (missed_size eq weight c) (keys_of-reverse past),
    );
    again =
        let room : ℕ = sum_by (λ h. h.capacity) hits + total eq weight (keys_of past) in
        let turn = reverse-reverse (keys_of past) in
        let first = room_misses_first eq laws weight same room (reverse (keys_of past)) (omega (arith, ap (total eq weight) turn)) in
        omega (arith, misses room, first.0, ap (distinct eq) turn, all_within room hits (omega arith));
  }
    where
      misses : (c : ℕ) → misses_by_size eq weight c (reverse (keys_of past)) + hits_within c hits ≡ length (keys_of past)
      misses c = omega (
        arith,
        are.misses c,
        sized_misses_timeless eq laws idle (reverse past) back weight c,
        ap (misses_by_size eq weight c) (keys_of-reverse past),
        length-keys_of past,
      )

  pub pass_timeless : (c : CountedBySize) (is : IsSizedPositionPass eq weight idle past c)
      → IsSizedPass eq weight {S = ⊤} (keys_of past) (pass_by_size (positions_of is.seen) c.sizes c.requests c.hits c.size c.greatest tt)
  pass_timeless c is = record {
    ranked = is.taken.ranked;
    hits = hits_timeless c.hits is.taken.hits;
    requests = is.taken.requests ∙ sym (length-keys_of past);
    held = is.taken.held;
    size = is.taken.size;
    greatest = is.taken.greatest;
    latest = λ x q at.
        let found = some_position (lookup (eq x) is.seen) q (sym (position_at eq (eq x) is.seen) ∙ at) in
        omega (arith, is.latest x found.0 found.1, found.2, length-keys_of past);
  }

-- the hits of a pass make the curves of its requests
module _ {K : Type 0} (eq : K → K → Bool) (weight : K → ℕ) (idle : ℕ) (past : List (K × ℕ)) (c : CountedBySize) (is : IsSizedPositionPass eq weight idle past c)
    (curve : CurveBySize) (hits : List Step) (n d : ℕ) (from : hits ≡ c.hits) (all : n ≡ c.requests) (held : d ≡ total_from c.sizes 0)
    (of : IsCurveOfHits hits n c.size d c.greatest curve) where
  pub curve_taken : IsSizedIdleCurveOf eq weight idle (reverse past) curve
  curve_taken = IsSizedIdleCurveOf-by eq weight idle past (timed_pass_by_size {S = ⊤} is.seen c.sizes c.requests c.hits c.size c.greatest idle tt) curve hits n d
      is.taken from all held of

  pub curve_timeless : IsEquivalence eq → SameWeights eq weight → All (λ r. r.1 ≡ 0) past → IsSizedCurveOf eq weight (reverse (keys_of past)) curve
  curve_timeless laws same timeless =
      IsSizedCurveOf-by eq weight (keys_of past) (pass_by_size {S = ⊤} (positions_of is.seen) c.sizes c.requests c.hits c.size c.greatest tt) curve hits n d
      (pass_timeless eq laws weight same idle past timeless c is) from all held of
