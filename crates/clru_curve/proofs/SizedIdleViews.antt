-- What requests with times miss by size, compared by a view of their keys, is what their views miss.
use Rattle.std.proofs.Common.{◌≡◌, ℕ, ◌+◌, Bool, cond, not, Option, None, Some, List, [], ◌∷◌, map, reverse, refl, sym, ap, ◌∙◌}
use Rattle.std.specs.List.{count_by}
use Rattle.std.specs.Map.{keys_of}
use Rattle.std.proofs.lemmas.List.{length-map}
use Rattle.clru_curve.specs.SizedCurves.{CurveBySize, greatest_of, size_of_all}
use Rattle.clru_curve.specs.SizedIdlePasses.{IsSizedIdleCurveOf}
use Rattle.clru_curve.proofs.SizeViews.{greatest-view, hit-view, seen, size-view, total-view}
use Rattle.clru_curve.proofs.TimedViews.{aged_marks-view, keys-view, viewed}
use Rattle.clru_model.proofs.Views.{same, map-reverse}
use Rattle.clru_model.specs.Ages.{aged_marks, aged_misses}
use Rattle.clru_model.specs.Sizes.{hit_by_size, total}
use Rattle.clru_model.specs.Spans.{size_of_misses}

module _ {X Y : Type 0} (eq : Y → Y → Bool) (weight : Y → ℕ) (view : X → Y) where
  abbrev own : X → ℕ
  own = seen eq weight view

  misses-view : (ms : List Bool) (ks : List X) → size_of_misses weight ms (map view ks) ≡ size_of_misses own ms ks
  misses-view [] ks = refl
  misses-view (m ∷ ms) [] = refl
  misses-view (m ∷ ms) (k ∷ ks) = ap (λ n. cond m 0 (1 + weight (view k)) + n) (misses-view ms ks)

  module _ (idle age : Option ℕ) (requests : List (X × ℕ)) where
    abbrev marks : ℕ → List Bool
    marks c = aged_marks (same eq view) (hit_by_size (same eq view) own c) idle age requests

    marks-view : (c : ℕ) → aged_marks eq (hit_by_size eq weight c) idle age (map (viewed eq view) requests) ≡ marks c
    marks-view c = aged_marks-view eq view (hit_by_size eq weight c) (hit_by_size (same eq view) own c) idle age
        (λ x past. hit-view eq weight view c past x) [] [] requests

    -- as many views miss
    pub sized_misses-view : (c : ℕ) → aged_misses eq (hit_by_size eq weight c) idle age (map (viewed eq view) requests)
        ≡ aged_misses (same eq view) (hit_by_size (same eq view) own c) idle age requests
    sized_misses-view c = ap (count_by not) (marks-view c)

    -- of that size
    pub missed_size-view : (c : ℕ) → size_of_misses weight (aged_marks eq (hit_by_size eq weight c) idle age (map (viewed eq view) requests))
        (keys_of (map (viewed eq view) requests)) ≡ size_of_misses own (marks c) (keys_of requests)
    missed_size-view c =
        ap (λ ms. size_of_misses weight ms (keys_of (map (viewed eq view) requests))) (marks-view c)
        ∙ ap (size_of_misses weight (marks c)) (keys-view eq view requests) ∙ misses-view (marks c) (keys_of requests)

  module _ (idle : ℕ) (requests : List (X × ℕ)) where
    pub idle_curve-view : (curve : CurveBySize) → IsSizedIdleCurveOf (same eq view) own idle requests curve
        → IsSizedIdleCurveOf eq weight idle (map (viewed eq view) requests) curve
    idle_curve-view curve is =
        let keys = keys-view eq view requests in
        let turned = map-reverse view (keys_of requests) ∙ ap reverse (sym keys) in
        record {
          misses = λ c. is.misses c ∙ sym (sized_misses-view (Some idle) None requests c);
          missed_size = λ c. is.missed_size c ∙ sym (missed_size-view (Some idle) None requests c);
          requests_in_all = is.requests_in_all ∙ sym (length-map requests (viewed eq view));
          size = is.size ∙ sym (ap (size_of_all weight) keys ∙ size-view eq weight view (keys_of requests));
          distinct_size = is.distinct_size ∙ sym (total-view eq weight view (reverse (keys_of requests))) ∙ ap (total eq weight) turned;
          greatest_weight = is.greatest_weight ∙ sym (greatest-view eq weight view (reverse (keys_of requests))) ∙ ap (greatest_of weight) turned;
        }
