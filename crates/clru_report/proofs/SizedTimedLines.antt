-- What a pass knows that has taken lines with times and sizes: one more line, and what it shows.
use Rattle.std.proofs.Common.{◌≡◌, ℕ, ◌+◌, ◌-◌, ◌≤◌, nat_lt, cond, Option, None, Some, List, [], ◌∷◌, ◌++◌, IsSome, is_some, length, map, reverse, refl, sym, ap, ◌∙◌, subst, arith}
use Rattle.std.specs.Prelude.{bytes_eq}
use Rattle.std.specs.Map.{keys_of}
use Rattle.std.proofs.lemmas.List.{length-map, map-append}
use Rattle.std.proofs.lemmas.List.Sums.{sum_by-cons}
use Rattle.clru_curve.specs.SizedAgedPasses.{AgedPassBySize, IsSizedAgedPass, aged_missed_size, aged_misses_by_size}
use Rattle.clru_curve.specs.SizedCurves.{CurveBySize, greatest_of, size_of_all}
use Rattle.clru_curve.specs.SizedIdlePasses.{IsSizedIdleCurveOf}
use Rattle.clru_curve.proofs.SizeViews.{greatest-view, total-view}
use Rattle.clru_curve.proofs.SizedIdleViews.{idle_curve-view, missed_size-view, sized_misses-view}
use Rattle.clru_model.proofs.Cases.{split}
use Rattle.clru_model.specs.Sizes.{total}
use Rattle.clru_text.specs.Keys.{line_of, same_line}
use Rattle.clru_text.specs.Sizes.{size_of_line, weight_of_line}
use Rattle.clru_text.specs.TakenRequests.{HasTakenRequests}
use Rattle.clru_text.specs.Times.{kept_requests, request_of, requests_of, rest_behind, rest_of_line, rests_of, time_of_line}
use Rattle.clru_text.specs.declared.fault.Fault.{Fault}
use Rattle.clru_text.specs.declared.fault.Fault.TheVariants.{NoSize}
use Rattle.clru_text.specs.declared.lines.OwnedKey.{OwnedKey}
use Rattle.clru_text.proofs.Samples.{each_kept}
use Rattle.clru_report.specs.Passes.{IsOfLines, weight_of_key}
use Rattle.clru_report.specs.LineFaults.{fault_from}
use Rattle.clru_report.specs.SizedLines.{AddUpTo, HaveFault}
use Rattle.clru_report.specs.SizedTimedPasses.{HasTakenSizedTimed}
use Rattle.clru_report.specs.SizedReport.{distinct_size}
use Rattle.clru_report.specs.Sizes.{greatest_size}
use Rattle.clru_report.proofs.SizedSamples.{added_more, added_none, added_refused}
use Rattle.clru_report.proofs.TakenLines.{first_without}
use Rattle.clru_report.proofs.TimedLines.{keys_taken, numbers_taken, timed_start}

-- one key in one is each of them
pub whole_keys : (lines : List (List ℕ)) → keys_of (kept_requests 1 (requests_of lines)) ≡ rests_of lines
whole_keys [] = refl
whole_keys (line ∷ lines) =
    let later = kept_requests 1 (requests_of lines) in
    ap (λ b. keys_of (cond b (request_of line ∷ later) later)) (each_kept (rest_of_line line))
    ∙ ap (λ ks. rest_of_line line ∷ ks) (whole_keys lines)

-- a pass that has taken no line
pub sized_start : {A P : Type 0} (Is : List (OwnedKey A × ℕ) → P → Type 0) (n : ℕ) (pass : P) → Is [] pass
    → HasTakenSizedTimed Is n [] 0 pass
sized_start Is n pass is = record { timed = timed_start Is n pass is; added = added_none }

module _ (lines : List (List ℕ)) (size number : ℕ) (added : AddUpTo (rests_of lines) size) (counted : number ≡ length lines + 1) where
  rests_counted : number ≡ length (rests_of lines) + 1
  rests_counted = omega (arith, counted, length-map lines rest_of_line)

  -- one line more, which has a size
  pub sized_more : (line : List ℕ) (more : ℕ) → IsSome (size_of_line (rest_of_line line))
      → more ≡ size + (1 + weight_of_line (rest_of_line line))
      → ((rest : List (List ℕ)) → fault_from number size (rest_of_line line ∷ rest) ≡ fault_from (number + 1) more rest)
      → AddUpTo (rests_of (lines ++ line ∷ [])) more
  sized_more line more sized sum on =
      subst (λ ls. AddUpTo ls more) (sym (map-append rest_of_line lines (line ∷ [])))
      (added_more (rests_of lines) size added (rest_of_line line) more sized sum
      (λ rest. ap (λ k. fault_from k size (rest_of_line line ∷ rest)) (sym rests_counted) ∙ on rest ∙ ap (λ k. fault_from (k + 1) more rest) rests_counted))

  -- lines with one that has a fault have it
  pub sized_refused : (fault : Fault) (line : List ℕ) (rest : List (List ℕ)) → IsOfLines fault (rests_of lines ++ rest_of_line line ∷ rests_of rest)
      → fault_from number size (rest_of_line line ∷ rests_of rest) ≡ Some fault → HaveFault (rests_of (lines ++ line ∷ rest)) fault
  sized_refused fault line rest of next =
      subst (λ ls. HaveFault ls fault) (sym (map-append rest_of_line lines (line ∷ rest)))
      (added_refused (rests_of lines) size added fault (rest_of_line line) (rests_of rest) of
      (ap (λ k. fault_from k size (rest_of_line line ∷ rests_of rest)) (sym rests_counted) ∙ next))

  -- one without a time has no size
  pub untimed_refused : (line : List ℕ) (rest : List (List ℕ)) → time_of_line line ≡ None → HaveFault (rests_of (lines ++ line ∷ rest)) (NoSize number)
  untimed_refused line rest none =
      let bare : rest_of_line line ≡ [] = ap (rest_behind line) none in
      sized_refused (NoSize number) line rest
      (first_without (rests_of lines) (rests_of rest) (rest_of_line line) number added.sizes rests_counted (ap (λ l. is_some (size_of_line l)) bare))
      (ap (λ l. fault_from number size (l ∷ rests_of rest)) bare)

pub sized_idle_taken : {A P : Type 0} (Is : List (OwnedKey A × ℕ) → P → Type 0) (idle : ℕ) (requests : List (List ℕ × ℕ)) (pass : P) (curve : CurveBySize)
    → HasTakenRequests Is requests pass
    → ((past : List (OwnedKey A × ℕ)) → Is past pass → IsSizedIdleCurveOf same_line weight_of_key idle (reverse past) curve)
    → IsSizedIdleCurveOf bytes_eq weight_of_line idle requests curve
sized_idle_taken Is idle requests pass curve has made =
    subst (λ rs. IsSizedIdleCurveOf bytes_eq weight_of_line idle rs curve) has.shown
    (idle_curve-view bytes_eq weight_of_line line_of idle (reverse has.past) curve (made has.past has.taken))

-- under an age limit as well
module _ {A S : Type 0} (capacities : List ℕ) (idle : Option ℕ) (age : ℕ) (requests : List (List ℕ × ℕ)) (pass : AgedPassBySize (OwnedKey A) S)
    (has : HasTakenRequests (IsSizedAgedPass same_line weight_of_key capacities idle age) requests pass) where
  abbrev Is : List (OwnedKey A × ℕ) → AgedPassBySize (OwnedKey A) S → Type 0
  Is past p = IsSizedAgedPass same_line weight_of_key capacities idle age past p

  pub sized_aged_misses : (misses : List ℕ)
      → ((past : List (OwnedKey A × ℕ)) → Is past pass
      → misses ≡ map (λ c. aged_misses_by_size same_line weight_of_key idle age c (reverse past)) capacities)
      → misses ≡ map (λ c. aged_misses_by_size bytes_eq weight_of_line idle age c requests) capacities
  sized_aged_misses misses made =
      numbers_taken Is requests pass has (λ c rs. aged_misses_by_size same_line weight_of_key idle age c rs)
      (λ c rs. aged_misses_by_size bytes_eq weight_of_line idle age c rs)
      (λ c rs. sized_misses-view bytes_eq weight_of_line line_of idle (Some age) rs c) capacities misses made

  pub sized_aged_missed : (missed : List ℕ)
      → ((past : List (OwnedKey A × ℕ)) → Is past pass
      → missed ≡ map (λ c. aged_missed_size same_line weight_of_key idle age c (reverse past)) capacities)
      → missed ≡ map (λ c. aged_missed_size bytes_eq weight_of_line idle age c requests) capacities
  sized_aged_missed missed made =
      numbers_taken Is requests pass has (λ c rs. aged_missed_size same_line weight_of_key idle age c rs)
      (λ c rs. aged_missed_size bytes_eq weight_of_line idle age c rs)
      (λ c rs. missed_size-view bytes_eq weight_of_line line_of idle (Some age) rs c) capacities missed made

  -- the first capacity is their greatest size
  pub sized_aged_first : (first : ℕ) → ((past : List (OwnedKey A × ℕ)) → Is past pass → first ≡ 1 + greatest_of weight_of_key (keys_of past))
      → first ≡ greatest_size (keys_of requests)
  sized_aged_first first made =
      made has.past has.taken ∙ ap (λ k. 1 + k) (sym (greatest-view bytes_eq weight_of_line line_of (keys_of has.past))
      ∙ ap (greatest_of weight_of_line) (keys_taken Is requests pass has))

  -- the distinct keys have the same size together
  pub sized_aged_size : (size : ℕ) → ((past : List (OwnedKey A × ℕ)) → Is past pass → size ≡ total same_line weight_of_key (keys_of past))
      → size ≡ distinct_size (keys_of requests)
  sized_aged_size size made =
      made has.past has.taken ∙ sym (total-view bytes_eq weight_of_line line_of (keys_of has.past))
      ∙ ap (total bytes_eq weight_of_line) (keys_taken Is requests pass has)

-- a weight takes no more than all sizes
pub greatest_in_all : {K : Type 0} (weight : K → ℕ) (ks : List K) → greatest_of weight ks ≤ size_of_all weight ks - 1
greatest_in_all weight [] = omega arith
greatest_in_all weight (x ∷ ks) =
    let ih = greatest_in_all weight ks in
    let all = sum_by-cons (λ y. 1 + weight y) x ks in
    split (nat_lt (greatest_of weight ks) (weight x))
    (λ u. rw u (omega (arith, all)))
    (λ v. rw v (omega (arith, all, ih)))
