-- What is true of the capacity that a hit ratio asks for. Public clauses cite it.
use Rattle.std.specs.Prelude.{◌≡◌, ℕ, ◌<◌, ◌≤◌, false, List, [], ◌∷◌, length, reverse, bytes_eq}
use Rattle.clru_model.specs.Requests.{distinct}
use Rattle.clru_model.specs.Sizes.{misses_by_size}
use Rattle.clru_text.specs.Sizes.{weight_of_line}
use Rattle.clru_report.specs.Ratios.{has_ratio, least_with}
use Rattle.clru_report.specs.Report.{misses_of}
use Rattle.clru_report.specs.SizedReport.{distinct_size, missed_of}
use Rattle.clru_report.specs.Sizes.{greatest_size}

-- of the capacities from g on, c is the least with the hit ratio, or where none has it, the least with the fewest misses
pub record IsLeastWith (r whole : ℕ) (misses : ℕ → ℕ) (g c : ℕ) : Type 0 where
  pub low : g ≤ c
  pub below : (k : ℕ) → g ≤ k → k < c → has_ratio r whole (misses k) ≡ false
  pub none : has_ratio r whole (misses c) ≡ false → (k : ℕ) → g ≤ k → has_ratio r whole (misses k) ≡ false
  pub fewest : has_ratio r whole (misses c) ≡ false → (k : ℕ) → g ≤ k → misses c ≤ misses k
  pub first : has_ratio r whole (misses c) ≡ false → (k : ℕ) → g ≤ k → k < c → misses c < misses k

-- there is one such capacity, and it is the one that is shown
abbrev pub OneIsShown : ℕ → ℕ → (ℕ → ℕ) → ℕ → ℕ → Type 0
OneIsShown r whole misses g n = (c : ℕ) × (least_with r whole misses g n ≡ c ∷ []) × IsLeastWith r whole misses g c

-- in keys, where there is a request
abbrev pub HitRatioIsLeast : Type 0
HitRatioIsLeast = (lines : List (List ℕ)) (r whole : ℕ) → 0 < length lines
    → OneIsShown r whole (misses_of lines) 1 (distinct bytes_eq (reverse lines))

-- by size, of the requests and of their bytes
abbrev pub SizedHitRatioIsLeast : Type 0
SizedHitRatioIsLeast = (lines : List (List ℕ)) (r whole : ℕ) → 0 < length lines
    → OneIsShown r whole (λ c. misses_by_size bytes_eq weight_of_line c lines) (greatest_size lines) (distinct_size lines)

abbrev pub ByteHitRatioIsLeast : Type 0
ByteHitRatioIsLeast = (lines : List (List ℕ)) (r whole : ℕ) → 0 < length lines
    → OneIsShown r whole (missed_of lines) (greatest_size lines) (distinct_size lines)
