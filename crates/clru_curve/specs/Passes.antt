-- What a pass has taken note of, request by request. Public clauses cite it.
use Rattle.std.specs.Prelude.{◌≡◌, ℕ, ◌+◌, Bool, List, length, take, sum, reverse, Some, refl}
use Rattle.std.specs.Coded.{Coded, code_by, coded×, coded_list, coded_ℕ}
use Rattle.std.specs.Map.{lookup}
use Rattle.clru_model.specs.Requests.{distinct, misses, since}
use Rattle.clru_curve.specs.declared.numbered.Numbered.{Numbered}
use Rattle.clru_curve.specs.Latest.{ones_from, IsLatest}
use Rattle.clru_curve.specs.Rising.{numbered_code}
use Rattle.clru_curve.specs.Ranked.{IsRanked}

-- each key with the number of its latest request, blocks of bits for these, how many requests there were, how many at each
-- distance, and the builder that hashes keys
pub record Pass (K S : Type 0) : Type 0 where
  pub positions : List (K × ℕ)
  pub blocks : List Numbered
  pub requests : ℕ
  pub histogram : List ℕ
  pub builder : S

module _ {K S : Type 0} where
  abbrev pub pass : List (K × ℕ) → List Numbered → ℕ → List ℕ → S → Pass K S
  pass ps bs n h b = record { positions = ps; blocks = bs; requests = n; histogram = h; builder = b }

  abbrev pub pass_code : Coded K → Coded S → Coded (Pass K S)
  pass_code k s =
      code_by (List (K × ℕ) × (List Numbered × (ℕ × (List ℕ × S))))
      (coded× (coded_list (coded× k coded_ℕ)) (coded× (coded_list numbered_code) (coded× coded_ℕ (coded× (coded_list coded_ℕ) s))))
      (λ p. (p.positions, (p.blocks, (p.requests, (p.histogram, p.builder)))))
      (λ t. pass t.0 t.1.0 t.1.1.0 t.1.1.1.0 t.1.1.1.1) (λ _. refl)

module _ {K : Type 0} (eq : K → K → Bool) where
  -- as many numbers as distinct keys, of which the first k sum up to the hits at capacity k
  pub record IsHistogram (past : List K) (histogram : List ℕ) : Type 0 where
    pub distinct : length histogram ≡ distinct eq past
    pub hits : (k : ℕ) → misses eq k (reverse past) + sum (take k histogram) ≡ length past

  -- a pass that has taken these requests, the latest first
  pub record IsPass {S : Type 0} (past : List K) (p : Pass K S) : Type 0 where
    pub ranked : IsRanked eq (λ x. 1) (distinct eq) past p.positions p.requests (ones_from p.blocks)
    pub counted : IsHistogram past p.histogram
    pub requests : p.requests ≡ length past
    pub latest : (x : K) (q : ℕ) → lookup (eq x) p.positions ≡ Some q → q + 1 + length (since eq x past) ≡ length past

  -- what holds of every pass: it has taken some requests
  pub record IsSound {S : Type 0} (nodes : List ℕ) (p : Pass K S) : Type 0 where
    pub latest : IsLatest p.blocks nodes p.requests
    pub past : List K
    pub taken : IsPass past p
