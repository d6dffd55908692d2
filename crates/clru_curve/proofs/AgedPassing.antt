-- A pass under an age limit where keys weigh nothing: its misses are those by keys.
use Rattle.std.proofs.Common.{◌≡◌, ℕ, Bool, Option, Some, List, [], ◌∷◌, map, refl, arith}
use Rattle.std.proofs.lemmas.Bool.Decides.{nat_tests}
use Rattle.clru_model.proofs.Cases.{split}
use Rattle.clru_model.proofs.Spans.{total_weightless}
use Rattle.clru_model.specs.Requests.{holds, since, hit}
use Rattle.clru_model.specs.Sizes.{hit_by_size}
use Rattle.clru_curve.specs.AgedPasses.{aged_misses_at}
use Rattle.clru_curve.specs.SizedAgedPasses.{aged_misses_by_size}
use Rattle.clru_curve.proofs.AgedMarks.{same_aged_misses}

map_same : (f g : ℕ → ℕ) → ((n : ℕ) → f n ≡ g n) → (ns : List ℕ) → map f ns ≡ map g ns
map_same f g same [] = refl
map_same f g same (n ∷ ns) = cc (same n, map_same f g same ns)

module _ {K : Type 0} (eq : K → K → Bool) where
  hit_weightless : (k : ℕ) (x : K) (past : List K) → hit_by_size eq (λ _. 0) k x past ≡ hit eq k x past
  hit_weightless k x past = rw (total_weightless eq (λ _. 0) (λ _. refl) (since eq x past)) (split (holds eq x past)
      (λ t. rw t (grind (arith, nat_tests)))
      (λ f. rw f refl))

  pub misses_weightless : (idle : Option ℕ) (age : ℕ) (rs : List (K × ℕ)) (cs : List ℕ)
      → map (λ c. aged_misses_by_size eq (λ _. 0) idle age c rs) cs ≡ map (λ k. aged_misses_at eq idle age k rs) cs
  misses_weightless idle age rs cs = map_same _ _
      (λ k. same_aged_misses eq (hit_by_size eq (λ _. 0) k) (hit eq k) (λ x past. hit_weightless k x past) idle (Some age) rs) cs
