-- What is said under the limit of a pass is said under the limit that is asked for, if there is one.
use Rattle.std.proofs.Common.{◌≡◌, ℕ, None, Some, Option, List, refl}
use Rattle.std.specs.Prelude.{bytes_eq}
use Rattle.std.proofs.lemmas.List.Elements.{All-filter, All-map}
use Rattle.clru_curve.specs.IdlePasses.{idle_misses}
use Rattle.clru_curve.specs.SizedIdlePasses.{idle_missed_size, idle_misses_by_size}
use Rattle.clru_curve.proofs.Timeless.{missed_size_timeless, misses_timeless, sized_misses_timeless}
use Rattle.clru_text.specs.Samples.{is_kept}
use Rattle.clru_text.proofs.ByteLemmas.{bytes_laws}
use Rattle.clru_shares.specs.Classes.{class_in, of_class}
use Rattle.clru_shares.specs.Passes.{AreTimeless}
use Rattle.clru_shares.specs.Sampled.{kept_in}
use Rattle.clru_shares.specs.Shares.{missed_size_under, misses_under, sized_misses_under}
use Rattle.clru_shares.specs.Sizes.{weight_behind}
use Rattle.clru_shares.specs.Times.{limit_of, requests_in}

-- without one requests have no times
pub under_limit : (idle : Option ℕ) (rs : List (List ℕ × ℕ)) → AreTimeless idle rs → (k : ℕ)
    → idle_misses bytes_eq (limit_of idle) k rs ≡ misses_under idle k rs
under_limit None rs all k = misses_timeless bytes_eq bytes_laws (limit_of None) rs all k
under_limit (Some limit) rs all k = refl

pub sized_under_limit : (idle : Option ℕ) (rs : List (List ℕ × ℕ)) → AreTimeless idle rs → (c : ℕ)
    → idle_misses_by_size bytes_eq weight_behind (limit_of idle) c rs ≡ sized_misses_under idle c rs
sized_under_limit None rs all c = sized_misses_timeless bytes_eq bytes_laws (limit_of None) rs all weight_behind c
sized_under_limit (Some limit) rs all c = refl

pub missed_under_limit : (idle : Option ℕ) (rs : List (List ℕ × ℕ)) → AreTimeless idle rs → (c : ℕ)
    → idle_missed_size bytes_eq weight_behind (limit_of idle) c rs ≡ missed_size_under idle c rs
missed_under_limit None rs all c = missed_size_timeless bytes_eq bytes_laws (limit_of None) rs all weight_behind c
missed_under_limit (Some limit) rs all c = refl

-- a part of requests without times has none
pub timeless_kept : (idle sample : Option ℕ) (rs : List (List ℕ × ℕ)) → AreTimeless idle rs → AreTimeless idle (kept_in sample rs)
timeless_kept (Some limit) sample rs all = tt
timeless_kept None None rs all = all
timeless_kept None (Some n) rs all = All-filter (λ (r : List ℕ × ℕ). is_kept n r.0) (λ (r : List ℕ × ℕ). r.1 ≡ 0) rs all

pub timeless_class : (idle : Option ℕ) (name : List ℕ) (rs : List (List ℕ × ℕ)) → AreTimeless idle rs → AreTimeless idle (of_class name rs)
timeless_class (Some limit) name rs all = tt
timeless_class None name rs all = All-filter (λ (r : List ℕ × ℕ). bytes_eq name (class_in r.0)) (λ (r : List ℕ × ℕ). r.1 ≡ 0) rs all

pub timeless_lines : (idle : Option ℕ) (lines : List (List ℕ)) → AreTimeless idle (requests_in idle lines)
timeless_lines (Some limit) lines = tt
timeless_lines None lines = All-map (λ (r : List ℕ × ℕ). r.1 ≡ 0) (λ (line : List ℕ). (line, 0)) lines (λ k d low. refl)
