-- The latest requests of keys, by their positions and times. Public clauses cite them.
use Rattle.std.specs.Prelude.{◌≡◌, ℕ, Bool, if◌then◌else◌, Option, Some, None, List, map, refl}
use Rattle.std.specs.Coded.{Coded, code_by, coded×, coded_ℕ}
use Rattle.std.specs.Map.{keys_of, lookup}
use Rattle.std.specs.Option.{option_map}
use Rattle.clru_model.specs.Ages.{is_recent}
use Rattle.clru_curve.specs.declared.seen.Seen.{Seen}

abbrev pub seen_at : ℕ → ℕ → Seen
seen_at p t = record { position = p; time = t }

abbrev pub seen_code : Coded Seen
seen_code = code_by (ℕ × ℕ) (coded× coded_ℕ coded_ℕ) (λ s. (s.position, s.time)) (λ t. seen_at t.0 t.1) (λ _. refl)

-- each key with its position
abbrev pub positions_of : {K : Type 0} → List (K × Seen) → List (K × ℕ)
positions_of seen = map (λ e. (e.0, e.1.position)) seen

-- requests without times, which all have the time 0
abbrev pub timeless : {K : Type 0} → List K → List (K × ℕ)
timeless keys = map (λ key. (key, 0)) keys

module _ {K : Type 0} (eq : K → K → Bool) where
  -- each key has the time of its latest request, the latest first
  abbrev pub AreTimes : List (K × ℕ) → List (K × Seen) → Type 0
  AreTimes past seen = (x : K) → option_map (λ s. s.time) (lookup (eq x) seen) ≡ lookup (eq x) past

  -- how far back the latest request of the key is, by this measure, unless it came more than the idle limit before
  abbrev pub reuse_by : (K → List K → Option ℕ) → ℕ → K × ℕ → List (K × ℕ) → Option ℕ
  reuse_by measure idle r past = if is_recent eq (Some idle) r past then measure r.0 (keys_of past) else None
