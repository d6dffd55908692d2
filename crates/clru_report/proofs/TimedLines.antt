-- What a pass knows that has taken lines with times: one more line, and the curve.
use Rattle.std.proofs.Common.{◌≡◌, ℕ, ◌+◌, Bool, true, false, cond, Option, List, [], ◌∷◌, ◌++◌, IsNone, IsSome, Some, append-nil, map, length, reverse, refl, sym, ap, ◌∙◌, subst, arith}
use Rattle.std.specs.Prelude.{bytes_eq, unwrap_or, IsSomeAnd}
use Rattle.std.specs.Map.{keys_of}
use Rattle.std.proofs.lemmas.Grind.{reverse_onto}
use Rattle.std.proofs.lemmas.List.{map-append, reverse-reverse}
use Rattle.std.proofs.lemmas.List.Elements.{All-nil, All-push, filter-append}
use Rattle.clru_curve.specs.AgedPasses.{IsAgedPass, aged_misses_at}
use Rattle.clru_curve.proofs.AgedPassing.{misses_weightless}
use Rattle.clru_curve.specs.SizedAgedPasses.{AgedPassBySize, IsSizedAgedPass, aged_misses_by_size}
use Rattle.clru_curve.specs.IdlePasses.{HasIdleMissesOf}
use Rattle.clru_curve.proofs.TimedViews.{aged_misses-view, idle_misses-view, keys-view}
use Rattle.clru_model.proofs.Views.{distinct-map, map-reverse}
use Rattle.clru_model.proofs.Spans.{total_weightless}
use Rattle.clru_model.specs.Requests.{distinct}
use Rattle.clru_model.specs.Sizes.{total}
use Rattle.clru_text.specs.Faults.{is_of_writing}
use Rattle.clru_text.specs.Keys.{line_of, same_line}
use Rattle.clru_text.specs.Samples.{is_kept}
use Rattle.clru_text.specs.TakenRequests.{HasTakenRequest, HasTakenRequests, shown_of}
use Rattle.clru_text.specs.Times.{HaveTimes, kept_requests, request_of, requests_of, rest_of_line, time_of_line}
use Rattle.clru_text.specs.declared.fault.Fault.{Fault}
use Rattle.clru_text.specs.declared.fault.Fault.TheVariants.{BadCapacity, Memory, Reading, Writing, Closed, NoSize, TooLarge, TooSmall}
use Rattle.clru_text.specs.declared.lines.OwnedKey.{OwnedKey}
use Rattle.clru_report.specs.Timed.{IsFirstUntimed, IsUntimed}
use Rattle.clru_report.specs.TimedPasses.{HasTakenTimed}
use Rattle.clru_report.proofs.TakenLines.{next_of, take_before}

-- the kept requests of one more line
pub kept_more : (n : ℕ) (lines : List (List ℕ)) (line : List ℕ) → kept_requests n (requests_of (lines ++ line ∷ []))
    ≡ kept_requests n (requests_of lines) ++ cond (is_kept n (rest_of_line line)) (request_of line ∷ []) []
kept_more n lines line =
    ap (kept_requests n) (map-append request_of lines (line ∷ []))
    ∙ filter-append (λ (r : List ℕ × ℕ). is_kept n r.0) (requests_of lines) (request_of line ∷ [])

module _ {A P : Type 0} (Is : List (OwnedKey A × ℕ) → P → Type 0) (n : ℕ) (lines : List (List ℕ)) (pass : P) (has : HasTakenTimed Is n lines pass)
    (line : List ℕ) (time : ℕ) (timed : time_of_line line ≡ Some time) where
  some_time : IsSome (time_of_line line)
  some_time = rw timed refl

  -- a line that is not kept
  pub timed_skipped : is_kept n (rest_of_line line) ≡ false → HasTakenTimed Is n (lines ++ line ∷ []) pass
  timed_skipped none = record {
    timed = All-push (λ l. IsSome (time_of_line l)) lines line has.timed some_time;
    taken = subst (λ rs. HasTakenRequests Is rs pass) (sym (kept_more n lines line
        ∙ ap (λ b. kept_requests n (requests_of lines) ++ cond b (request_of line ∷ []) []) none
        ∙ append-nil (kept_requests n (requests_of lines)))) has.taken;
  }

  -- one that is
  pub timed_taken : (next : P) → is_kept n (rest_of_line line) ≡ true
      → HasTakenRequest Is has.taken.past (rest_of_line line) time next → HasTakenTimed Is n (lines ++ line ∷ []) next
  timed_taken next some one = record {
    timed = All-push (λ l. IsSome (time_of_line l)) lines line has.timed some_time;
    taken = record {
      past = (one.key, time) ∷ has.taken.past;
      shown = ap (map shown_of) (reverse_onto has.taken.past (one.key, time) [])
          ∙ map-append shown_of (reverse has.taken.past) ((one.key, time) ∷ [])
          ∙ ap (λ rs. rs ++ (line_of one.key, time) ∷ []) has.taken.shown
          ∙ ap (λ l. kept_requests n (requests_of lines) ++ (l, time) ∷ []) one.is
          ∙ ap (λ o. kept_requests n (requests_of lines) ++ (rest_of_line line, unwrap_or o 0) ∷ []) (sym timed)
          ∙ sym (kept_more n lines line
          ∙ ap (λ b. kept_requests n (requests_of lines) ++ cond b (request_of line ∷ []) []) some);
      taken = one.taken;
    };
  }

-- a pass that has taken no line
pub timed_start : {A P : Type 0} (Is : List (OwnedKey A × ℕ) → P → Type 0) (n : ℕ) (pass : P) → Is [] pass → HasTakenTimed Is n [] pass
timed_start Is n pass is = record {
  timed = All-nil (λ line. IsSome (time_of_line line));
  taken = record { past = []; shown = refl; taken = is };
}

map_alike : (f g : ℕ → ℕ) → ((n : ℕ) → f n ≡ g n) → (ns : List ℕ) → map f ns ≡ map g ns
map_alike f g same [] = refl
map_alike f g same (n ∷ ns) = cc (same n, map_alike f g same ns)

module _ {A P : Type 0} (Is : List (OwnedKey A × ℕ) → P → Type 0) (requests : List (List ℕ × ℕ)) (pass : P)
    (has : HasTakenRequests Is requests pass) where
  -- the keys that were taken, the latest first
  pub keys_taken : map line_of (keys_of has.past) ≡ reverse (keys_of requests)
  keys_taken =
      let turned : map shown_of has.past ≡ reverse requests =
      sym (reverse-reverse (map shown_of has.past)) ∙ ap reverse (sym (map-reverse shown_of has.past) ∙ has.shown) in
      sym (keys-view bytes_eq line_of has.past) ∙ ap keys_of turned ∙ map-reverse (λ (r : List ℕ × ℕ). r.0) requests

  -- a number for each capacity of what the keys were is that of what they show
  pub numbers_taken : (own : ℕ → List (OwnedKey A × ℕ) → ℕ) (shown : ℕ → List (List ℕ × ℕ) → ℕ)
      → ((c : ℕ) (rs : List (OwnedKey A × ℕ)) → shown c (map shown_of rs) ≡ own c rs) → (capacities numbers : List ℕ)
      → ((past : List (OwnedKey A × ℕ)) → Is past pass → numbers ≡ map (λ c. own c (reverse past)) capacities)
      → numbers ≡ map (λ c. shown c requests) capacities
  numbers_taken own shown alike capacities numbers made =
      subst (λ rs. numbers ≡ map (λ c. shown c rs) capacities) has.shown
      (made has.past has.taken ∙ map_alike (λ c. own c (reverse has.past)) (λ c. shown c (map shown_of (reverse has.past)))
      (λ c. sym (alike c (reverse has.past))) capacities)

  -- under an idle limit the curve of the keys is that of what they show
  pub idle_taken : (idle : ℕ) (curve : List ℕ) → ((past : List (OwnedKey A × ℕ)) → Is past pass → HasIdleMissesOf same_line idle (reverse past) curve)
      → HasIdleMissesOf bytes_eq idle requests curve
  idle_taken idle curve made =
      subst (λ rs. HasIdleMissesOf bytes_eq idle rs curve) has.shown
      (λ k some. made has.past has.taken k some ∙ sym (idle_misses-view bytes_eq line_of k idle (reverse has.past)))

  pub kinds_taken : (curve : List ℕ) → ((past : List (OwnedKey A × ℕ)) → Is past pass → length curve ≡ distinct same_line (keys_of past))
      → length curve ≡ distinct bytes_eq (reverse (keys_of requests))
  kinds_taken curve made =
      made has.past has.taken ∙ sym (distinct-map bytes_eq line_of (keys_of has.past)) ∙ ap (distinct bytes_eq) keys_taken

-- so many miss at each capacity under an age limit
pub aged_taken : {A S : Type 0} (capacities : List ℕ) (idle : Option ℕ) (age : ℕ) (requests : List (List ℕ × ℕ))
    (pass : AgedPassBySize (OwnedKey A) S) (has : HasTakenRequests (IsAgedPass same_line capacities idle age) requests pass) (misses : List ℕ)
    → ((past : List (OwnedKey A × ℕ)) → IsAgedPass same_line capacities idle age past pass
    → misses ≡ map (λ c. aged_misses_by_size same_line (λ _. 0) idle age c (reverse past)) capacities)
    → misses ≡ map (λ k. aged_misses_at bytes_eq idle age k requests) capacities
aged_taken capacities idle age requests pass has misses made =
    numbers_taken (IsAgedPass same_line capacities idle age) requests pass has (λ k rs. aged_misses_at same_line idle age k rs)
    (λ k rs. aged_misses_at bytes_eq idle age k rs) (λ k rs. aged_misses-view bytes_eq line_of k idle age rs) capacities misses
    (λ past is. made past is ∙ misses_weightless same_line idle age (reverse past) capacities)

-- of so many distinct keys
pub aged_keys : {A S : Type 0} (capacities : List ℕ) (idle : Option ℕ) (age : ℕ) (requests : List (List ℕ × ℕ))
    (pass : AgedPassBySize (OwnedKey A) S) (has : HasTakenRequests (IsAgedPass same_line capacities idle age) requests pass) (keys : ℕ)
    → ((past : List (OwnedKey A × ℕ)) → IsAgedPass same_line capacities idle age past pass → keys ≡ total same_line (λ _. 0) (keys_of past))
    → keys ≡ distinct bytes_eq (reverse (keys_of requests))
aged_keys capacities idle age requests pass has keys made = omega (
  arith,
  made has.past has.taken,
  total_weightless same_line (λ _. 0) (λ _. refl) (keys_of has.past),
  distinct-map bytes_eq line_of (keys_of has.past),
  ap (distinct bytes_eq) (keys_taken (IsAgedPass same_line capacities idle age) requests pass has),
)

-- the capacities and limits of a pass are its own
pub aged_own : {K S : Type 0} (eq : K → K → Bool) (w : K → ℕ) (cs : List ℕ) (idle : Option ℕ) (age : ℕ) (past : List (K × ℕ)) (pass start : AgedPassBySize K S)
    → start.fetches.capacities ≡ cs → start.idle ≡ idle → start.fetches.age ≡ age → IsSizedAgedPass eq w cs idle age past pass
    → IsSizedAgedPass eq w start.fetches.capacities start.idle start.fetches.age past pass
aged_own eq w cs idle age past pass start places limit aged is =
    subst (λ a. IsSizedAgedPass eq w start.fetches.capacities start.idle a past pass) (sym aged)
    (subst (λ l. IsSizedAgedPass eq w start.fetches.capacities l age past pass) (sym limit)
    (subst (λ ks. IsSizedAgedPass eq w ks idle age past pass) (sym places) is))

-- after lines with times the next is the first without
pub first_untimed : (lines rest : List (List ℕ)) (line : List ℕ) (n : ℕ) → HaveTimes lines → n ≡ length lines + 1
    → IsNone (time_of_line line) → IsFirstUntimed n (lines ++ line ∷ rest)
first_untimed lines rest line n timed counted none = (
  length lines,
  counted,
  subst HaveTimes (sym (take_before lines (line ∷ rest))) timed,
  subst (λ o. IsSomeAnd o (λ l. IsNone (time_of_line l))) (sym (next_of lines rest line)) none,
)

-- why lines have no times is no fault of writing
pub untimed_unwritten : (lines : List (List ℕ)) (fault : Fault) → IsUntimed fault lines → is_of_writing fault ≡ false
untimed_unwritten lines BadCapacity why = refl
untimed_unwritten lines Memory why = refl
untimed_unwritten lines Reading why = refl
untimed_unwritten lines Writing why = absurd why
untimed_unwritten lines Closed why = absurd why
untimed_unwritten lines (NoSize n) why = refl
untimed_unwritten lines TooLarge why = refl
untimed_unwritten lines (TooSmall n) why = refl
