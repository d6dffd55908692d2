-- The capacity that a hit ratio asks for is the least with it, of all that there are.
use Rattle.std.proofs.Common.{◌≡◌, ℕ, ◌<◌, ◌≤◌, List, [], ◌∷◌, length, reverse, sym, ap, ◌∙◌, arith}
use Rattle.std.specs.Prelude.{bytes_eq}
use Rattle.std.proofs.lemmas.List.{length-reverse, reverse-reverse}
use Rattle.clru_curve.proofs.GreatestWeights.{greatest_below}
use Rattle.clru_model.proofs.Cases.{split}
use Rattle.clru_model.proofs.Distances.{misses-room}
use Rattle.clru_model.proofs.Growing.{misses_fall}
use Rattle.clru_model.proofs.Spans.{misses_by_size_fall, missed_size_falls, room_misses_first}
use Rattle.clru_model.specs.Requests.{distinct, holds, misses}
use Rattle.clru_text.specs.Sizes.{weight_of_line}
use Rattle.clru_text.proofs.ByteLemmas.{bytes_laws}
use Rattle.clru_report.specs.RatioLaws.{ByteHitRatioIsLeast, HitRatioIsLeast, SizedHitRatioIsLeast}
use Rattle.clru_report.specs.Report.{misses_of}
use Rattle.clru_report.specs.SizedReport.{distinct_size}
use Rattle.clru_report.specs.Sizes.{greatest_size}
use Rattle.clru_report.proofs.RatioLemmas.{least_is}
use Rattle.clru_report.proofs.SettledCurves.{same_weights}
use Rattle.clru_report.proofs.SizedReports.{few_distinct}

-- where there is a key, some key is distinct
some_distinct : (ks : List (List ℕ)) → 0 < length ks → 0 < distinct bytes_eq ks
some_distinct [] some = omega (arith, some)
some_distinct (x ∷ []) some = omega arith
some_distinct (x ∷ y ∷ ks) some =
    let ih = some_distinct (y ∷ ks) (omega arith) in
    split (holds bytes_eq x (y ∷ ks)) (λ t. rw t ih) (λ f. rw f (omega arith))

some_reversed : (lines : List (List ℕ)) → 0 < length lines → 0 < distinct bytes_eq (reverse lines)
some_reversed lines some = some_distinct (reverse lines) (omega (arith, some, length-reverse lines))

pub hit_ratio_is_least : HitRatioIsLeast
hit_ratio_is_least lines r whole some =
    let n = distinct bytes_eq (reverse lines) in
    let room : (k : ℕ) → n ≤ k → misses_of lines k ≡ n = λ k more.
    ap (misses bytes_eq k) (sym (reverse-reverse lines)) ∙ misses-room bytes_eq bytes_laws k (reverse lines) more in
    least_is r whole (misses_of lines) 1 n (omega (arith, some_reversed lines some)) (λ k l more. misses_fall bytes_eq more lines)
    (λ k more. room k more ∙ sym (room n (omega arith)))

-- the greatest size is no more than that of all keys
within_all : (lines : List (List ℕ)) → 0 < length lines → greatest_size lines ≤ distinct_size lines
within_all lines some =
    omega (
      arith,
      greatest_below bytes_eq bytes_laws weight_of_line same_weights (reverse lines),
      few_distinct bytes_eq weight_of_line (reverse lines),
      some_reversed lines some,
    )

pub sized_hit_ratio_is_least : SizedHitRatioIsLeast
sized_hit_ratio_is_least lines r whole some =
    let n = distinct_size lines in
    let room = λ (k : ℕ) (more : n ≤ k). (room_misses_first bytes_eq bytes_laws weight_of_line same_weights k lines more).0 in
    least_is r whole _ (greatest_size lines) n (within_all lines some) (λ k l more. misses_by_size_fall bytes_eq weight_of_line more [] lines)
    (λ k more. room k more ∙ sym (room n (omega arith)))

pub byte_hit_ratio_is_least : ByteHitRatioIsLeast
byte_hit_ratio_is_least lines r whole some =
    let n = distinct_size lines in
    let room = λ (k : ℕ) (more : n ≤ k). (room_misses_first bytes_eq bytes_laws weight_of_line same_weights k lines more).1 in
    least_is r whole _ (greatest_size lines) n (within_all lines some) (λ k l more. missed_size_falls bytes_eq weight_of_line more [] lines)
    (λ k more. room k more ∙ sym (room n (omega arith)))
