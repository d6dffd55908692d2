-- The steps of the walk from the first request to the last.
use Rattle.std.proofs.Common.{◌≡◌, ℕ, zero, suc, ◌+◌, ◌-◌, ◌<◌, ◌≤◌, Bool, false, cond, eqb, ltb}
use Rattle.std.proofs.Common.{List, [], ◌∷◌, length, drop, get_or, refl, sym, ap, ◌∙◌, subst, arith, length-drop}
use Rattle.std.proofs.lemmas.List.{drop_all, get_or-drop}
use Rattle.std.specs.Cmp.{IsEquivalence}
use Rattle.clru_model.specs.Requests.{holds}
use Rattle.clru_model.proofs.Cases.{split}
use Rattle.clru_model.proofs.Distinct.{others, holds-others}
use Rattle.clru_model.proofs.Optimum.{IsBest, IsBest_none}
use Rattle.clru_least.specs.Next.{until, next_from}
use Rattle.clru_least.proofs.Due.{length-others}
use Rattle.clru_least.proofs.Furthest.{best_keeps, best_drops}
use Rattle.clru_least.proofs.Held.{IsHeld, IsOnTheWay, IsHeld_next, queued_held, queued_new, IsDropped_from, due_queued}
use Rattle.clru_least.proofs.Until.{drop-next_from, length-next_from, until-le-length}

module _ {K : Type 0} (eq : K → K → Bool) where
  -- before the first request
  pub on_the_way_start : (h : ℕ) (requests : List K) (queue : ℕ → ℕ) → ((p : ℕ) → queue p ≡ 0) → IsOnTheWay eq h 0 requests queue 0 0
  on_the_way_start h requests queue none = record {
    keys = [];
    state = record { apart = refl; counted = refl; queued = λ p low. none p };
    short = omega arith;
    rest = λ n best. let e : n ≡ 0 + n = omega arith in subst (λ m. IsBest eq h [] requests m) e best;
  }

  -- after the last
  pub on_the_way_end : (h : ℕ) (requests : List K) (queue : ℕ → ℕ) (held misses : ℕ)
      → IsOnTheWay eq h (length requests) requests queue held misses → IsBest eq h [] requests misses
  on_the_way_end h requests queue held misses w =
      let e : drop (length requests) requests ≡ [] = drop_all (length requests) requests (omega arith) in
      let none : IsBest eq h w.keys (drop (length requests) requests) 0 = rw e (IsBest_none eq h w.keys w.short) in
      subst (λ n. IsBest eq h [] requests n) (omega arith) (w.rest 0 none)

-- the first of the requests from a position on, and those behind it
pub request_at : {K : Type 0} (i : ℕ) (requests : List K) → i < length requests
    → (x : K) × (rs : List K) × (drop i requests ≡ x ∷ rs) × (drop (i + 1) requests ≡ rs)
request_at i [] within = absurd (omega (arith, within))
request_at zero (x ∷ rs) within = (x, rs, refl, refl)
request_at (suc i) (x ∷ rs) within =
    let (y, ys, here, behind) = request_at i rs (omega (arith, within)) in
    let e : suc i + 1 ≡ suc (i + 1) = omega arith in
    (y, ys, here, rw e behind)

module _ {K : Type 0} (eq : K → K → Bool) where
  -- the position that is written there
  pub next_at : (i : ℕ) (x : K) (rs requests : List K) (nexts : List ℕ) (next : ℕ) → nexts ≡ next_from eq 0 requests
      → drop i requests ≡ x ∷ rs → next ≡ get_or nexts i 0 → next ≡ i + 1 + until eq x rs
  next_at i x rs requests nexts next are here at =
      let d : drop i nexts ≡ next_from eq (0 + i) (x ∷ rs) = ap (λ l. drop i l) are ∙ drop-next_from eq 0 i requests
      ∙ ap (λ l. next_from eq (0 + i) l) here in
      let f : get_or (drop i nexts) 0 0 ≡ (0 + i) + 1 + until eq x rs = ap (λ l. get_or l 0 0) d in
      let s : get_or (drop i nexts) 0 0 ≡ get_or nexts (i + 0) 0 = get_or-drop i nexts 0 0 in
      let z : i + 0 ≡ i = omega arith in
      omega (arith, at, f, rw z at s)

module _ {K : Type 0} (eq : K → K → Bool) (laws : IsEquivalence eq) where
  -- a key that is held stands in the queue
  pub queue_some : (h i : ℕ) (requests : List K) (queue : ℕ → ℕ) (held misses : ℕ)
      → IsOnTheWay eq h i requests queue held misses → 0 < held → (p : ℕ) × (0 < queue p)
  queue_some h i requests queue held misses w some = at w.keys w.state
    where
      at : (keys : List K) → IsHeld eq i (drop i requests) keys queue held → (p : ℕ) × (0 < queue p)
      at [] s = absurd (omega (arith, s.counted))
      at (k ∷ ks) s = (i + until eq k (drop i requests), due_queued eq laws i (drop i requests) (k ∷ ks) queue held k s (rw (laws.refl k) refl))

  -- A request at the position i, of x with rs behind it, whose next position is put into the queue unless it is there.
  module _ (h i : ℕ) (requests : List K) (x : K) (rs : List K) (here : drop i requests ≡ x ∷ rs) (behind : drop (i + 1) requests ≡ rs)
      (next : ℕ) (is : next ≡ i + 1 + until eq x rs) (within : i < length requests) where
    ends : i + 1 + length rs ≡ length requests
    ends = omega (arith, length-drop (i + 1) requests, ap length behind, within)

    state_at : (keys : List K) (queue : ℕ → ℕ) (held : ℕ) → IsHeld eq i (drop i requests) keys queue held → IsHeld eq i (x ∷ rs) keys queue held
    state_at keys queue held s = rw here at s

    next_state : (keys : List K) (queue more : ℕ → ℕ) (held : ℕ) → IsHeld eq i (x ∷ rs) keys queue held
        → ((next < length requests → queue next ≡ 0) → (p : ℕ) → more p ≡ cond (eqb next p) 1 0 + queue p)
        → IsHeld eq (i + 1) rs (x ∷ others eq x keys) more (cond (holds eq x keys) held (held + 1))
    next_state keys queue more held s moved =
        let new : next < length requests → queue next ≡ 0 = λ below.
        ap queue is ∙ queued_new eq laws i x rs keys queue held s (omega (arith, below, is, ends)) in
        IsHeld_next eq laws i x rs keys queue more held s (subst (λ n. (p : ℕ) → more p ≡ cond (eqb n p) 1 0 + queue p) is (moved new))

    -- where the request hits, or there is room, nothing is dropped
    pub on_the_way_keeps : (queue more : ℕ → ℕ) (held misses : ℕ) → (ltb 0 (queue i) ≡ false → held < h)
        → IsOnTheWay eq h i requests queue held misses
        → ((next < length requests → queue next ≡ 0) → (p : ℕ) → more p ≡ cond (eqb next p) 1 0 + queue p)
        → IsOnTheWay eq h (i + 1) requests more (cond (ltb 0 (queue i)) held (held + 1)) (misses + cond (ltb 0 (queue i)) 0 1)
    on_the_way_keeps queue more held misses room w moved =
        let s = state_at w.keys queue held w.state in
        let hit = queued_held eq laws i x rs w.keys queue held s in
        let l = length-others eq laws x w.keys s.apart in
        rw hit (record {
          keys = x ∷ others eq x w.keys;
          state = rw behind (next_state w.keys queue more held s moved);
          short = split (holds eq x w.keys)
              (λ t. omega (arith, rw t at l, w.short))
              (λ f. omega (arith, rw f at l, room (hit ∙ f), s.counted));
          rest = λ n best.
              let step = best_keeps eq laws h n x w.keys rs w.short (rw behind at best) in
              let more : IsBest eq h w.keys (drop i requests) (cond (holds eq x w.keys) 0 1 + n) = rw here step in
              subst (λ m. IsBest eq h [] requests m) (omega arith) (w.rest (cond (holds eq x w.keys) 0 1 + n) more);
        })

    -- where it misses and there is no room, the key goes whose next request is the furthest
    pub on_the_way_drops : (queue less more : ℕ → ℕ) (held misses latest : ℕ) → ltb 0 (queue i) ≡ false → h ≤ held → 0 < held
        → ((p : ℕ) → queue p ≡ cond (eqb latest p) 1 0 + less p)
        → ((p : ℕ) → p ≤ length requests → 0 < queue p → p ≤ latest)
        → IsOnTheWay eq h i requests queue held misses
        → ((next < length requests → less next ≡ 0) → (p : ℕ) → more p ≡ cond (eqb next p) 1 0 + less p)
        → IsOnTheWay eq h (i + 1) requests more held (misses + 1)
    on_the_way_drops queue less more held misses latest miss full some taken greatest w moved =
        let s = state_at w.keys queue held w.state in
        let d = IsDropped_from eq laws i (length requests) (x ∷ rs) w.keys queue less held latest s (omega (arith, ends)) some taken greatest in
        let new : holds eq x w.keys ≡ false = sym (queued_held eq laws i x rs w.keys queue held s) ∙ miss in
        let keys = others eq d.key w.keys in
        let none : holds eq x keys ≡ false = holds-others eq laws x d.key w.keys ∙ rw new (split (eq d.key x) (λ t. rw t refl) (λ f. rw f refl)) in
        let l = length-others eq laws x keys d.state.apart in
        let next = next_state keys less more (held - 1) d.state moved in
        let back : held - 1 + 1 ≡ held = omega arith in
        let all : length w.keys ≡ h = omega (arith, s.counted, w.short) in
        record {
          keys = x ∷ others eq x keys;
          state = rw behind (subst (λ m. IsHeld eq (i + 1) rs (x ∷ others eq x keys) more m) back (rw none at next));
          short = omega (arith, rw none at l, d.state.counted, s.counted);
          rest = λ n best.
              let step = best_drops eq laws h n x d.key w.keys rs s.apart all new d.was_held d.furthest (rw behind at best) in
              let more : IsBest eq h w.keys (drop i requests) (1 + n) = rw here step in
              subst (λ m. IsBest eq h [] requests m) (omega arith) (w.rest (1 + n) more);
        }

module _ {K : Type 0} (eq : K → K → Bool) where
  -- What the code does at each request, whether it dropped a key or not: the next position is put into the queue unless it is there.
  pub record IsStep (i : ℕ) (requests : List K) (nexts : List ℕ) (queue more : ℕ → ℕ) : Type 0 where
    pub are : nexts ≡ next_from eq 0 requests
    pub within : i < length nexts
    pub moved : (get_or nexts i 0 < length requests → queue (get_or nexts i 0) ≡ 0)
        → (p : ℕ) → more p ≡ cond (eqb (get_or nexts i 0) p) 1 0 + queue p

  -- the position that is put into the queue is within the requests, or at their end
  pub next_within : (i : ℕ) (requests : List K) (nexts : List ℕ) → nexts ≡ next_from eq 0 requests → i < length nexts
      → get_or nexts i 0 ≤ length requests
  next_within i requests nexts are within =
      let many : length nexts ≡ length requests = ap (λ l. length l) are ∙ length-next_from eq 0 requests in
      let (x, rs, here, behind) = request_at i requests (omega (arith, many, within)) in
      let left : length rs ≡ length requests - (i + 1) = sym (ap (λ l. length l) behind) ∙ length-drop (i + 1) requests in
      omega (arith, next_at eq i x rs requests nexts (get_or nexts i 0) are here refl, until-le-length eq x rs, left, many, within)

module _ {K : Type 0} (eq : K → K → Bool) (laws : IsEquivalence eq) (h i : ℕ) (requests : List K) (nexts : List ℕ)
    (queue at_join more : ℕ → ℕ) (held counted misses missed : ℕ)
    (w : IsOnTheWay eq h i requests queue held misses) (s : IsStep eq i requests nexts at_join more) where
  within : i < length requests
  within = omega (arith, ap (λ l. length l) s.are, length-next_from eq 0 requests, s.within)

  -- where nothing was dropped the queue is as it was
  pub way_keeps : (hit : Bool) → ltb 0 (queue i) ≡ hit → (hit ≡ false → held < h) → at_join ≡ queue → counted ≡ cond hit held (held + 1)
      → missed ≡ misses + cond hit 0 1 → IsOnTheWay eq h (i + 1) requests more counted missed
  way_keeps hit is room q c m =
      let (x, rs, here, behind) = request_at i requests within in
      let next = next_at eq i x rs requests nexts (get_or nexts i 0) s.are here refl in
      let step = on_the_way_keeps eq laws h i requests x rs here behind (get_or nexts i 0) next within queue more held misses
      (λ f. room (sym is ∙ f)) w (subst (λ u. (get_or nexts i 0 < length requests → u (get_or nexts i 0) ≡ 0)
      → (p : ℕ) → more p ≡ cond (eqb (get_or nexts i 0) p) 1 0 + u p) q s.moved) in
      rw (c, m) (rw is at step)

  pub way_drops : (latest : ℕ) → ltb 0 (queue i) ≡ false → h ≤ held → 0 < h → ((p : ℕ) → queue p ≡ cond (eqb latest p) 1 0 + at_join p)
      → ((p : ℕ) → p ≤ length requests → 0 < queue p → p ≤ latest) → counted ≡ held → missed ≡ misses + 1
      → IsOnTheWay eq h (i + 1) requests more counted missed
  way_drops latest miss full pos taken greatest c m =
      let (x, rs, here, behind) = request_at i requests within in
      let next = next_at eq i x rs requests nexts (get_or nexts i 0) s.are here refl in
      rw (c, m) (on_the_way_drops eq laws h i requests x rs here behind (get_or nexts i 0) next within queue at_join more held misses latest miss full
      (omega arith) taken greatest w s.moved)
