use Rattle.std.proofs.Common.{◌≡◌, ℕ, zero, suc, ◌+◌, ◌*◌, ◌≤◌, List, [], ◌∷◌, length, get_or, Option, Some, nat_eq, refl, sym, ap, ◌∙◌, arith}
use Rattle.std.specs.Int.NonZero.{non_zero_usize_get}
use Rattle.std.specs.List.{count_by}
use Rattle.std.specs.Prelude.{unwrap_or, not, sum, IsSome, false}
use Rattle.std.proofs.lemmas.List.Sums.{sum_by-cons}
use Rattle.clru_curve.specs.Curves.{misses_at, HasMissesOf}
use Rattle.clru_model.specs.Requests.{marks_after, misses}
use Rattle.clru_model.proofs.Hits.{hit-zero}
use Rattle.clru_model.proofs.Marks.{count_by-not-cons}
use Rattle.clru_curve.specs.Classes.{ClassOf, class}
use Rattle.clru_curve.specs.Splits.{missed_at, IsBestSplit}
use Rattle.clru_uses.proofs.splits.room_for_each.Goals as goal

-- without room each request misses
none_hit : (past rs : List ℕ) → count_by not (marks_after nat_eq 0 past rs) ≡ length rs
none_hit past [] = refl
none_hit past (x ∷ rs) = rw (hit-zero nat_eq past x) (omega (arith, count_by-not-cons false (marks_after nat_eq 0 (x ∷ past) rs), none_hit (x ∷ past) rs))

-- what a class misses
abbrev all : ClassOf → ℕ
all c = c.requests

abbrev missed : ClassOf → ℕ → Option ℕ
missed c k = Some (misses_at c.misses k)

of_class : (rs curve : List ℕ) → HasMissesOf nat_eq rs curve → (k : ℕ) → unwrap_or (missed_at all missed (class (length rs) curve) k) 0 ≡ misses nat_eq k rs
of_class rs curve is zero = sym (none_hit [] rs)
of_class rs curve is (suc k) = is (suc k) (omega arith)

has_number_at : (c : ClassOf) (k : ℕ) → IsSome (missed_at all missed c k)
has_number_at c zero = refl
has_number_at c (suc k) = refl

sum_two : (x y : ℕ) → sum (x ∷ y ∷ []) ≡ x + y
sum_two x y = omega (arith, sum_by-cons (λ z. z) x (y ∷ []), sum_by-cons (λ z. z) y [])

best_of_two : (step budget : ℕ) (pages images ps qs caps : List ℕ) (c d : ClassOf) (x y : ℕ) → HasMissesOf nat_eq pages ps → HasMissesOf nat_eq images qs
    → c ≡ class (length pages) ps → d ≡ class (length images) qs → IsBestSplit all missed step budget (c ∷ d ∷ []) caps
    → x ≡ get_or caps 0 x → y ≡ get_or caps 1 y → (p i : ℕ) → p * step + i * step ≤ budget
    → misses nat_eq x pages + misses nat_eq y images ≤ misses nat_eq (p * step) pages + misses nat_eq (i * step) images
best_of_two step budget pages images ps qs [] c d x y has here cs ds b xs ys p i fits = absurd b.split.parts
best_of_two step budget pages images ps qs (k ∷ []) c d x y has here cs ds b xs ys p i fits = absurd b.split.parts.1
best_of_two step budget pages images ps qs (k ∷ j ∷ z ∷ caps) c d x y has here cs ds b xs ys p i fits = absurd b.split.parts.1.1
best_of_two step budget pages images ps qs (k ∷ j ∷ []) c d x y has here cs ds b xs ys p i fits =
    let least = b.least (p * step ∷ i * step ∷ []) (record {
      parts = (
        record { units = p; multiple = refl; has_number = has_number_at c (p * step) },
        (record { units = i; multiple = refl; has_number = has_number_at d (i * step) }, tt),
      );
      within = omega (arith, sum_two (p * step) (i * step), fits);
    }) in
    let one = λ (n : ℕ). ap (λ e. unwrap_or (missed_at all missed e n) 0) cs ∙ of_class pages ps has n in
    let two = λ (n : ℕ). ap (λ e. unwrap_or (missed_at all missed e n) 0) ds ∙ of_class images qs here n in
    omega (arith, least, one k, two j, one (p * step), two (i * step), ap (λ n. misses nat_eq n pages) xs, ap (λ n. misses nat_eq n images) ys)

pub returns-in-Ok-clause-best : goal.returns-in-Ok-clause-best
returns-in-Ok-clause-best c p i fits =
    best_of_two (non_zero_usize_get c.args.step) c.args.budget c.args.pages.now c.args.images.now c.in_ok-of_pages.of_pages c.in_ok-of_images.of_images
    c.in-Ok.room.items c.new.result c.new-2.result c.index.result.now c.index-in-Ok.result.now
    c.in_ok-of_pages.ensures.misses c.in_ok-of_images.ensures.misses c.new.ensures c.new-2.ensures c.in-Ok.ensures.best
    c.index.ensures c.index-in-Ok.ensures p i fits
