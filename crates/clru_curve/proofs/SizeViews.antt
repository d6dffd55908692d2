-- Requests by size that are compared by a view of them hit as their views do.
use Rattle.std.proofs.Common.{◌≡◌, ℕ, ◌+◌, Bool, cond, not, ◌&&◌, List, [], ◌∷◌, map, reverse, nat_le, nat_lt, refl, sym, ap, ◌∙◌, arith}
use Rattle.std.specs.List.{count_by}
use Rattle.std.proofs.lemmas.List.{length-map}
use Rattle.std.proofs.lemmas.List.Sums.{sum_by-cons}
use Rattle.clru_curve.specs.SizedCurves.{CurveBySize, IsSizedCurveOf, greatest_of, size_of_all}
use Rattle.clru_model.proofs.Views.{same, distinct-map, holds-map, map-reverse, since-map}
use Rattle.clru_model.specs.Requests.{distinct, holds, since}
use Rattle.clru_model.specs.Sizes.{total, hit_by_size, marks_by_size_after, missed_size_after}

module _ {X Y : Type 0} (eq : Y → Y → Bool) (weight : Y → ℕ) (view : X → Y) where
  -- a request weighs what its view does
  abbrev pub seen : X → ℕ
  seen x = weight (view x)

  -- the distinct views have the same size together
  pub total-view : (ks : List X) → total eq weight (map view ks) ≡ total (same eq view) seen ks
  total-view [] = refl
  total-view (x ∷ earlier) =
      ap (λ b. cond b (total eq weight (map view earlier)) (1 + weight (view x) + total eq weight (map view earlier)))
      (holds-map eq view x earlier)
      ∙ ap (λ n. cond (holds (same eq view) x earlier) n (1 + weight (view x) + n)) (total-view earlier)

  module _ (c : ℕ) where
    pub hit-view : (past : List X) (x : X) → hit_by_size eq weight c (view x) (map view past) ≡ hit_by_size (same eq view) seen c x past
    hit-view past x =
        ap (λ b. b && nat_le (1 + weight (view x) + total eq weight (since eq (view x) (map view past))) c) (holds-map eq view x past)
        ∙ ap (λ n. holds (same eq view) x past && nat_le (1 + weight (view x) + n) c)
        (ap (total eq weight) (since-map eq view x past) ∙ total-view (since (same eq view) x past))

    marks-view : (past rs : List X)
        → marks_by_size_after eq weight c (map view past) (map view rs) ≡ marks_by_size_after (same eq view) seen c past rs
    marks-view past [] = refl
    marks-view past (x ∷ rs) =
        ap (λ b. b ∷ marks_by_size_after eq weight c (map view (x ∷ past)) (map view rs)) (hit-view past x)
        ∙ ap (λ bs. hit_by_size (same eq view) seen c x past ∷ bs) (marks-view (x ∷ past) rs)

    missed-view : (past rs : List X)
        → missed_size_after eq weight c (map view past) (map view rs) ≡ missed_size_after (same eq view) seen c past rs
    missed-view past [] = refl
    missed-view past (x ∷ rs) =
        ap (λ b. cond b 0 (1 + weight (view x)) + missed_size_after eq weight c (map view (x ∷ past)) (map view rs)) (hit-view past x)
        ∙ ap (λ n. cond (hit_by_size (same eq view) seen c x past) 0 (1 + weight (view x)) + n) (missed-view (x ∷ past) rs)

  -- and so do all
  pub size-view : (ks : List X) → size_of_all weight (map view ks) ≡ size_of_all seen ks
  size-view [] = refl
  size-view (x ∷ ks) =
      sum_by-cons (λ y. 1 + weight y) (view x) (map view ks) ∙ ap (λ n. 1 + weight (view x) + n) (size-view ks)
      ∙ sym (sum_by-cons (λ z. 1 + seen z) x ks)

  pub greatest-view : (ks : List X) → greatest_of weight (map view ks) ≡ greatest_of seen ks
  greatest-view [] = refl
  greatest-view (x ∷ ks) = ap (λ n. cond (nat_lt n (weight (view x))) (weight (view x)) n) (greatest-view ks)

  -- the curve of requests is that of their views
  pub curve-view : (keys : List X) (curve : CurveBySize) → IsSizedCurveOf (same eq view) seen keys curve
      → IsSizedCurveOf eq weight (map view keys) curve
  curve-view keys curve is =
      let turned = map-reverse view keys in
      record {
        misses = λ c. is.misses c ∙ sym (ap (count_by not) (marks-view c [] keys));
        missed_size = λ c. is.missed_size c ∙ sym (missed-view c [] keys);
        again = omega (arith, is.again, length-map keys view, ap (distinct eq) turned, distinct-map eq view (reverse keys));
        requests_in_all = is.requests_in_all ∙ sym (length-map keys view);
        size = is.size ∙ sym (size-view keys);
        distinct_size = is.distinct_size ∙ sym (total-view (reverse keys)) ∙ ap (total eq weight) turned;
        greatest_weight = is.greatest_weight ∙ sym (greatest-view (reverse keys)) ∙ ap (greatest_of weight) turned;
      }
