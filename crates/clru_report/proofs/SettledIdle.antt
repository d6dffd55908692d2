-- Of the curve by size of requests under an idle limit: from room for all keys on nothing changes.
use Rattle.std.proofs.Common.{◌≡◌, ℕ, ◌+◌, ◌≤◌, Bool, true, false, not, ◌&&◌, Option, None, Some, List, [], ◌∷◌, ◌++◌, append-nil, reverse, refl, sym, ap, ◌∙◌, arith}
use Rattle.std.specs.Cmp.{IsEquivalence}
use Rattle.std.specs.List.{count_by}
use Rattle.std.specs.Map.{keys_of}
use Rattle.std.specs.Prelude.{bytes_eq}
use Rattle.std.proofs.lemmas.Bool.{le-leb, or_right}
use Rattle.clru_curve.specs.SizedCurves.{CurveBySize}
use Rattle.clru_curve.specs.SizedIdlePasses.{IsSizedIdleCurveOf}
use Rattle.clru_curve.proofs.GreatestWeights.{greatest_below}
use Rattle.clru_model.proofs.Cases.{split}
use Rattle.clru_model.proofs.Distinct.{holds-append, span_within, total_mono}
use Rattle.clru_model.proofs.Marks.{reverse-cons-append}
use Rattle.clru_model.specs.Ages.{aged_hit, aged_marks_after, aged_misses, is_recent}
use Rattle.clru_model.specs.Requests.{holds, since}
use Rattle.clru_model.specs.Sizes.{SameWeights, hit_by_size, total}
use Rattle.clru_text.specs.Sizes.{weight_of_line}
use Rattle.clru_text.proofs.ByteLemmas.{bytes_laws}
use Rattle.clru_report.specs.Passes.{IsSettled}
use Rattle.clru_report.proofs.SettledCurves.{same_weights}

module _ {K : Type 0} (eq : K → K → Bool) (laws : IsEquivalence eq) (weight : K → ℕ) (same : SameWeights eq weight) (c : ℕ) where
  -- with room for all requests of the past a request hits if its key was requested
  hit_held : (x : K) (past : List K) → total eq weight past ≤ c → hit_by_size eq weight c x past ≡ holds eq x past
  hit_held x past room =
      split (holds eq x past)
      (λ t. let fits = span_within eq laws weight same x past t in
      rw (t, le-leb (1 + weight x + total eq weight (since eq x past)) c (omega (arith, fits, room))) refl)
      (λ f. rw f refl)

  module _ (idle age : Option ℕ) where
    -- and so with room for those to come
    marks_held : (past fetches rs : List (K × ℕ)) → total eq weight (reverse (keys_of rs) ++ keys_of past) ≤ c
        → aged_marks_after eq (hit_by_size eq weight c) idle age past fetches rs ≡ aged_marks_after eq (holds eq) idle age past fetches rs
    marks_held past fetches [] room = refl
    marks_held past fetches (r ∷ rs) room =
        let turned = reverse-cons-append eq r.0 (keys_of rs) (keys_of past) in
        let later = reverse (keys_of (r ∷ rs)) in
        let within : total eq weight (reverse (keys_of rs) ++ keys_of (r ∷ past)) ≤ c = omega (arith, room, ap (total eq weight) turned) in
        let fewer : total eq weight (keys_of past) ≤ total eq weight (later ++ keys_of past) =
        total_mono eq laws weight same (keys_of past) (later ++ keys_of past)
        (λ z h. holds-append eq z later (keys_of past) ∙ or_right (holds eq z later) (holds eq z (keys_of past)) h) in
        let here = ap (λ b. b && is_recent eq idle r past && is_recent eq age r fetches)
        (hit_held r.0 (keys_of past) (omega (arith, fewer, room))) in
        split (aged_hit eq (holds eq) idle age r past fetches)
        (λ t. rw (here ∙ t, t) (ap (λ ms. true ∷ ms) (marks_held (r ∷ past) fetches rs within)))
        (λ f. rw (here ∙ f, f) (ap (λ ms. false ∷ ms) (marks_held (r ∷ past) (r ∷ fetches) rs within)))

    pub misses_held : (rs : List (K × ℕ)) → total eq weight (reverse (keys_of rs)) ≤ c
        → aged_misses eq (hit_by_size eq weight c) idle age rs ≡ aged_misses eq (holds eq) idle age rs
    misses_held rs room =
        ap (count_by not) (marks_held [] [] rs (omega (arith, room, ap (total eq weight) (append-nil (reverse (keys_of rs))))))

pub settled_idle : (idle : ℕ) (requests : List (List ℕ × ℕ)) (curve : CurveBySize)
    → IsSizedIdleCurveOf bytes_eq weight_of_line idle requests curve → IsSettled curve
settled_idle idle requests curve is =
    let below = greatest_below bytes_eq bytes_laws weight_of_line same_weights (reverse (keys_of requests)) in
    let beyond = λ (c : ℕ) (more : curve.distinct_size ≤ c). is.misses c
    ∙ misses_held bytes_eq bytes_laws weight_of_line same_weights c (Some idle) None requests (omega (arith, more, is.distinct_size)) in
    record {
      greatest = λ some. omega (arith, some, below, is.distinct_size, is.greatest_weight);
      none = λ empty. omega (arith, empty, below, is.distinct_size, is.greatest_weight);
      settled = λ c more. beyond c more ∙ sym (beyond curve.distinct_size (omega arith));
    }
